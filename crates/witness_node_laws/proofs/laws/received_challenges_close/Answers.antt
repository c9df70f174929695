use Rattle.witness_node_laws.specs.Laws.{call_number}
use Rattle.commitment.specs.Outcomes.{receipt_number}
use Rattle.witness_node_laws.proofs.laws.received_challenges_close.Goals as goal

pub returns-clause-calls : goal.returns-clause-calls
returns-clause-calls c = λ g w history n n' time bytes e h is from node key sender text opened received.
    c.acknowledgements_of_nodes_close.ensures g w history n' (call_number h) e is from node key sender
    (c.what_is_received_is_logged.ensures.calls n n' time bytes e h received text) opened

pub returns-clause-replies : goal.returns-clause-replies
returns-clause-replies c = λ g w history n n' bytes e r is from node key sender text opened taken.
    c.acknowledgements_of_nodes_close.ensures g w history n' (receipt_number r) e is from node key sender
    (c.what_is_received_is_logged.ensures.replies n n' bytes e r taken text) opened
