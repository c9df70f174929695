use Rattle.nfs_laws.proofs.OfFrames.CallEffects.{did}
use Rattle.nfs_laws.proofs.frames.laws.calls_change_what_they_name.Goals as goal

-- by cases of the call
pub returns : goal.returns
returns c w who now call tree not = did w who now tree call not
