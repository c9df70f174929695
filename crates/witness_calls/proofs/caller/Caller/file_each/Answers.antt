use Rattle.std.proofs.Common.{refl}
use Rattle.witness_calls.proofs.Extending.{extends_none, extends_on}
use Rattle.witness_calls.proofs.caller.Caller.file_each.Goals as goal

pub loop-back-init : goal.loop-back-init
loop-back-init g c = extends_none _ _ refl

pub loop-back-preserved : goal.loop-back-preserved
loop-back-preserved g c = extends_on _ _ _ c.loop-back.invariant c.file.ensures
