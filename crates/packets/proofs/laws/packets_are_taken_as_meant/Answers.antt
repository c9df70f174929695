use Rattle.packets.proofs.Taken.{as_meant, as_spelled, written_back}
use Rattle.packets.proofs.laws.packets_are_taken_as_meant.Goals as goal

pub returns-clause-meant : goal.returns-clause-meant
returns-clause-meant c = as_meant

pub returns-clause-spelled : goal.returns-clause-spelled
returns-clause-spelled c = as_spelled

pub returns-clause-back : goal.returns-clause-back
returns-clause-back c = written_back
