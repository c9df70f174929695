use Rattle.nfs_items.proofs.Programs.{read_is_bounded}
use Rattle.mount_types.specs.Bounds.{HasBounds}
use Rattle.mount_types.specs.Texts.{mount_program}
use Rattle.mount_types.proofs.Bounded.{value_bounded}
use Rattle.mount_types.proofs.laws.calls_are_bounded.Goals as goal

-- the law on every program, of MOUNT
pub returns : goal.returns
returns c = read_is_bounded mount_program HasBounds value_bounded
