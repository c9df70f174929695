use Rattle.nfs_items.proofs.Programs.{read_is_bounded}
use Rattle.nfs_types.specs.Bounds.{HasBounds}
use Rattle.nfs_types.specs.Texts.{nfs_program}
use Rattle.nfs_types.proofs.Bounded.{value_bounded}
use Rattle.nfs_types.proofs.laws.calls_are_bounded.Goals as goal

-- the law on every program, of NFS
pub returns : goal.returns
returns c = read_is_bounded nfs_program HasBounds value_bounded
