use Rattle.rpc.proofs.Messages.{reads_what_is_said}
use Rattle.rpc.proofs.laws.reads_what_is_said.Goals as goal

-- the law
pub returns : goal.returns
returns c = reads_what_is_said
