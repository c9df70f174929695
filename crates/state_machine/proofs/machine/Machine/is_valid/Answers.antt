use Rattle.state_machine.proofs.StatesFit.{server_fits}
use Rattle.state_machine.proofs.machine.Machine.is_valid.Goals as goal

pub returns-in-Server-clause-text : goal.returns-in-Server-clause-text
returns-in-Server-clause-text c = rw c.in-Server.is
    (server_fits _ _ c.is_a_world.ensures c.is_bounded.ensures)
