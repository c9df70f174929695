-- A call that was read keeps within the bounds of its items.
-- Serves: `read_args`, and the law `calls_are_bounded`.
use Rattle.std.proofs.Common.{◌++◌}
use Rattle.byteorder.specs.Numbers.{big_from-lt}
use Rattle.nfs_items.specs.xdr.Item.{Value, Fits, IsBytes, padding}
use Rattle.nfs_items.specs.Sattr.{sattr, sattr_of}
use Rattle.nfs_items.proofs.Programs.{BoundedValues, front_bytes, back_bytes}
use Rattle.nfs_types.specs.Texts.{nfs_program}
use Rattle.nfs_types.specs.Bounds.{HasSattrWords, HasBounds}
use Rattle.nfs_types.specs.declared.arguments.NfsProcedure.TheVariants as procedures

sattr_words : (v : Value sattr) → Fits sattr v → HasSattrWords (sattr_of v)
sattr_words v f = record {
  mode = f.0;
  uid = f.1.0;
  gid = f.1.1.0;
  size = f.1.1.1.0;
  atime = f.1.1.1.1.0;
  mtime = f.1.1.1.1.1;
}

-- a value of a procedure's arguments that fits, and is spelled by bytes, says a call within its bounds
pub value_bounded : BoundedValues nfs_program HasBounds
value_bounded procedures.Null v f bytes = tt
value_bounded procedures.Getattr v f bytes = tt
value_bounded procedures.Setattr v f bytes = sattr_words v.1 f.1
value_bounded procedures.Root v f bytes = tt
value_bounded procedures.Lookup v f bytes = f.1.1
value_bounded procedures.Readlink v f bytes = tt
value_bounded procedures.Read v f bytes = (f.1.0, f.1.1.0)
value_bounded procedures.Writecache v f bytes = tt
value_bounded procedures.Write v f bytes = (f.1.1.0, f.1.1.1.1.1)
value_bounded procedures.Create v f bytes = (f.0.1.1, sattr_words v.1 f.1)
value_bounded procedures.Remove v f bytes = f.1.1
value_bounded procedures.Rename v f bytes = (f.0.1.1, f.1.1.1)
value_bounded procedures.Link v f bytes = f.1.1.1
value_bounded procedures.Symlink v f bytes = (f.0.1.1, f.1.0.1, sattr_words v.1.1 f.1.1)
value_bounded procedures.Mkdir v f bytes = (f.0.1.1, sattr_words v.1 f.1)
value_bounded procedures.Rmdir v f bytes = f.1.1
value_bounded procedures.Readdir v f bytes =
    let cookie : IsBytes v.1.0 =
    front_bytes v.1.0 (padding 4)
    (front_bytes (v.1.0 ++ padding 4) _ (back_bytes (v.0 ++ padding 32) _ bytes)) in
    (big_from-lt 0 4 v.1.0 cookie, f.1.1)
value_bounded procedures.Statfs v f bytes = tt
