use Rattle.std.proofs.Common.{refl}
use Rattle.nfs_types.proofs.reading.read_arguments.Goals as goal

pub returns-in-Null : goal.returns-in-Null
returns-in-Null c = rw (c.in-Null.is) refl

pub returns-in-Root : goal.returns-in-Root
returns-in-Root c = rw (c.in-Root.is) refl

pub returns-in-Writecache : goal.returns-in-Writecache
returns-in-Writecache c = rw (c.in-Writecache.is) refl
