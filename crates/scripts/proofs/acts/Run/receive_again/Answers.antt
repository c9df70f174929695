use Rattle.scripts.proofs.Answering.{if_ok, refusal_handed}
use Rattle.scripts.proofs.acts.Run.receive_again.Goals as goal

pub returns-in-Err : goal.returns-in-Err
returns-in-Err g c = if_ok c.refuse.result (λ text is. refusal_handed _ _ _ c.received.ensures is) c.refuse.ensures.is
