use Rattle.std.proofs.Common.{refl}
use Rattle.scripts.proofs.Answering.{if_ok, nothing_handed}
use Rattle.scripts.proofs.acts.Run.acknowledge.Goals as goal

pub returns-in-None : goal.returns-in-None
returns-in-None g c = if_ok c.line.result (λ text is. nothing_handed _ _ _ refl is) c.line.ensures
