use Rattle.witness_node_laws.proofs.Answered.{answered}
use Rattle.witness_node_laws.proofs.laws.answers_of_nodes_are_accepted.Goals as goal

-- the law on answers, of what a node answers, and of packets
pub returns : goal.returns
returns c = answered c.answers_are_accepted.ensures c.packets_are_taken_as_meant.ensures.meant
