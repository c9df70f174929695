use Rattle.scripts.proofs.Answering.{if_ok, last_heard}
use Rattle.scripts.proofs.acts.Run.deliver_often.Goals as goal

pub returns-then-not-is_bad_signature : goal.returns-then-not-is_bad_signature
returns-then-not-is_bad_signature g c =
    if_ok c.said.result (λ text is. last_heard _ _ _ _ _ _ c.loop.invariant c.deliver-said.ensures is) c.said.ensures
