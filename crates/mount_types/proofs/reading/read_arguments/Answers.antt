use Rattle.std.proofs.Common.{refl}
use Rattle.mount_types.proofs.reading.read_arguments.Goals as goal

pub returns-in-Null : goal.returns-in-Null
returns-in-Null c = rw (c.in-Null.is) refl

pub returns-in-Dump : goal.returns-in-Dump
returns-in-Dump c = rw (c.in-Dump.is) refl

pub returns-in-Umntall : goal.returns-in-Umntall
returns-in-Umntall c = rw (c.in-Umntall.is) refl

pub returns-in-Export : goal.returns-in-Export
returns-in-Export c = rw (c.in-Export.is) refl
