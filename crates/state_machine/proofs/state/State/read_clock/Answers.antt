use Rattle.state_machine.specs.Machines.{machine_in}
use Rattle.state_machine.proofs.Numbers.{same_node_either}
use Rattle.state_machine.proofs.state.State.read_clock.Goals as goal

pub invariant_of-self : goal.invariant_of-self
invariant_of-self c =
    same_node_either c.self.inside.node (machine_in c.self.inside.machine)
    (machine_in c.read_by.new.machine) c.args.time c.read_by.result
    c.read_by.ensures.ok c.read_by.ensures.err c.self.invariant
