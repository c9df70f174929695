-- What an answer says of its call.
use Rattle.std.specs.Prelude.{Bool, true, false, Option, None}
use Rattle.nfs_spec.specs.nfs_items.declared.stat.Stat.{Stat}
use Rattle.nfs_spec.specs.LawTerms.{stat_in}
use Rattle.nfs_spec.specs.nfs_types.Calls.{Call, Null, Getattr, Root, Lookup, Readlink, Read, Writecache}
use Rattle.nfs_spec.specs.nfs_types.Calls.{Readdir, Statfs, Answer, Nothing, Attributes, DirOp, Target, Bytes}
use Rattle.nfs_spec.specs.nfs_types.Calls.{Status, Entries, Free}

-- the stat of a call that was refused
abbrev pub refusal_in : Answer → Option Stat
refusal_in Nothing = None
refusal_in (Attributes r) = stat_in r
refusal_in (DirOp r) = stat_in r
refusal_in (Target r) = stat_in r
refusal_in (Bytes r) = stat_in r
refusal_in (Status r) = stat_in r
refusal_in (Entries r) = stat_in r
refusal_in (Free r) = stat_in r

-- the calls that only read
abbrev pub only_reads : Call → Bool
only_reads Null = true
only_reads (Getattr file) = true
only_reads Root = true
only_reads (Lookup dir name) = true
only_reads (Readlink file) = true
only_reads (Read file offset count) = true
only_reads Writecache = true
only_reads (Readdir dir cookie count) = true
only_reads (Statfs file) = true
only_reads _ = false
