-- A call that was read keeps within the bounds of its items.
-- Serves: `read_mount_args`, and the law `calls_are_bounded`.
use Rattle.nfs_items.proofs.Programs.{BoundedValues}
use Rattle.mount_types.specs.Texts.{mount_program}
use Rattle.mount_types.specs.Bounds.{HasBounds}
use Rattle.mount_types.specs.declared.arguments.MountProcedure.TheVariants as procedures

-- a value of a procedure's arguments that fits says a call within its bounds
pub value_bounded : BoundedValues mount_program HasBounds
value_bounded procedures.Null v f bytes = tt
value_bounded procedures.Mnt v f bytes = f.1
value_bounded procedures.Dump v f bytes = tt
value_bounded procedures.Umnt v f bytes = f.1
value_bounded procedures.Umntall v f bytes = tt
value_bounded procedures.Export v f bytes = tt
