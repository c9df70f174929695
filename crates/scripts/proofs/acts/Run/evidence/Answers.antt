use Rattle.scripts.proofs.Answering.{if_ok, not_shown}
use Rattle.scripts.proofs.acts.Run.evidence.Goals as goal

pub returns-in_default : goal.returns-in_default
returns-in_default g c = if_ok c.said.result (λ text is. not_shown _ _ _ _ _ c.evidence.ensures is) c.said.ensures
