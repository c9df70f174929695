use Rattle.witness_node_laws.proofs.Asked.{can_be_answered}
use Rattle.witness_node_laws.proofs.laws.what_is_asked_can_be_answered.Goals as goal

-- the law
pub returns : goal.returns
returns c = can_be_answered
