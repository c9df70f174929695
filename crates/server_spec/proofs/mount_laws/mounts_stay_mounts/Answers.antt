use Rattle.server_spec.proofs.MountSteps.{mounts_kept}
use Rattle.server_spec.proofs.mount_laws.mounts_stay_mounts.Goals as goal

-- the law
pub returns : goal.returns
returns c = mounts_kept
