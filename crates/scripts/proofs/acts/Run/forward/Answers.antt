use Rattle.scripts.proofs.Answering.{if_ok, not_passed}
use Rattle.scripts.proofs.acts.Run.forward.Goals as goal

pub returns-in_default : goal.returns-in_default
returns-in_default g c = if_ok c.said.result (λ text is. not_passed _ _ _ _ _ c.forward.ensures is) c.said.ensures
