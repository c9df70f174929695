use Rattle.rpc.proofs.Messages.{says_one_call}
use Rattle.rpc.proofs.laws.says_one_call.Goals as goal

-- the law
pub returns : goal.returns
returns c = says_one_call
