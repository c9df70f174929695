use Rattle.peer_calls.proofs.OfCalls.{asks_what_it_says}
use Rattle.peer_calls.proofs.laws.calls_ask_what_they_say.Goals as goal

pub returns : goal.returns
returns c = λ xid program procedure arguments small below least. asks_what_it_says xid program procedure arguments small below least
