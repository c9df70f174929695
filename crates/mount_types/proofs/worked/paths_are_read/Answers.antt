use Rattle.std.proofs.Common.{refl}
use Rattle.nfs_items.specs.xdr.Reading.{number_at, fixed_at, opaque_at}
use Rattle.mount_types.proofs.worked.paths_are_read.Goals as goal

pub returns-clause-root : goal.returns-clause-root
unfolding number_at fixed_at opaque_at
returns-clause-root c = refl

pub returns-clause-padding : goal.returns-clause-padding
unfolding number_at fixed_at opaque_at
returns-clause-padding c = refl
