use Rattle.witness_node_laws.proofs.Received.{call_logged, reply_logged}
use Rattle.witness_node_laws.proofs.laws.what_is_received_is_logged.Goals as goal

pub returns-clause-calls : goal.returns-clause-calls
returns-clause-calls c = call_logged c.each_received_message_is_acknowledged.ensures.found

pub returns-clause-replies : goal.returns-clause-replies
returns-clause-replies c = reply_logged c.each_received_message_is_acknowledged.ensures.found
