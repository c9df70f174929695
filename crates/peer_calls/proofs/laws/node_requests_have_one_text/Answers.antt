use Rattle.peer_calls.proofs.OfNodes.{only, read}
use Rattle.peer_calls.proofs.laws.node_requests_have_one_text.Goals as goal

pub returns-clause-read : goal.returns-clause-read
returns-clause-read c = read

pub returns-clause-only : goal.returns-clause-only
returns-clause-only c = only
