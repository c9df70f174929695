use Rattle.scripts.proofs.Answering.{heard, if_ok}
use Rattle.scripts.proofs.acts.Run.deliver.Goals as goal

pub returns : goal.returns
returns g c = if_ok c.said.result (λ text is. heard _ _ _ _ c.deliver-said.ensures is) c.said.ensures
