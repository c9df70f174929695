-- The file that a value says. Each value gives one: a number that stands for no kind gives a regular file.
use Rattle.std.specs.Prelude.{ℕ, zero, suc, []}
use Rattle.xdr.specs.Item.{Value}
use Rattle.mount_types.specs.nfs_items.Timeval.{Timeval, timeval}
use Rattle.nfs_laws.specs.fs_spec.Files.{Body, Regular, Symlink, Directory, File}
use Rattle.server_spec.specs.FileItems.{file_item, body_item, attributes_item}

-- the time that a value says
unfoldable pub time_from : Value timeval → Timeval
time_from v = record { seconds = v.0; microseconds = v.1 }

-- the body that a value of a kind says
unfoldable pub body_from : (kind : ℕ) → Value (body_item kind) → Body
body_from zero v = Regular []
body_from (suc zero) v = Regular v
body_from (suc (suc zero)) v = Directory (record { next = v.0; entries = v.1 })
body_from (suc (suc (suc zero))) v = Regular []
body_from (suc (suc (suc (suc zero)))) v = Regular []
body_from (suc (suc (suc (suc (suc zero))))) v = Symlink v
body_from (suc (suc (suc (suc (suc (suc n)))))) v = Regular []

-- the file of the attributes that a value says, and of a body
unfoldable pub file_from : Value attributes_item → Body → File
file_from a body = record {
  mode = a.0;
  uid = a.1.0;
  gid = a.1.1.0;
  atime = time_from a.1.1.1.0;
  mtime = time_from a.1.1.1.1.0;
  ctime = time_from a.1.1.1.1.1;
  body = body;
}

-- a file with its number
unfoldable pub numbered_from : Value file_item → ℕ × File
numbered_from v = (v.0, file_from v.1.1.0 (body_from v.1.0 v.1.1.1))
