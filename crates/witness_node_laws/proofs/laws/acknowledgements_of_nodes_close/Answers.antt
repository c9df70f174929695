use Rattle.witness_node_laws.proofs.Closing.{closing}
use Rattle.witness_node_laws.proofs.laws.acknowledgements_of_nodes_close.Goals as goal

-- the law on acknowledgements, of what a node shows, and of packets
pub returns : goal.returns
returns c =
    closing c.acknowledgements_close.ensures c.packets_are_taken_as_meant.ensures.meant
    c.what_a_sender_shows_is_of_its_log.ensures.authenticator c.what_a_sender_shows_is_of_its_log.ensures.ack
