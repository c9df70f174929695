use Rattle.witness_node_laws.proofs.Based.{good}
use Rattle.witness_node_laws.proofs.laws.bases_of_nodes_are_good.Goals as goal

-- the law on bases
pub returns : goal.returns
returns c = good c.args.node.now c.is_honest.ensures.check c.is_honest.ensures.few_keys
