-- The calls of MOUNT version 1 (RFC 1094, appendix A.5) and their answers, without where they lie in memory.
use Rattle.std.specs.Prelude.{ℕ, List, Result}
use Rattle.nfs_items.specs.Handle.{FileHandle}
use Rattle.nfs_items.specs.declared.stat.Stat.{Stat}

-- the name of a machine, or of a group of machines (A.4.4, name), by its bytes
abbrev pub HostName : Type 0
HostName = List ℕ

-- the path of a directory of the server (A.4.3, dirpath), by its bytes
abbrev pub DirPath : Type 0
DirPath = List ℕ

-- a machine, and a directory that it has mounted (A.5.3, mountlist)
abbrev pub Mount : Type 0
Mount = HostName × DirPath

-- a directory, and the groups of machines that may mount it;
-- no group stands for every machine (A.5.6, exportlist)
abbrev pub Exported : Type 0
Exported = DirPath × List HostName

-- a procedure with its arguments
pub data MountCall : Type 0 where
  Null : MountCall
  Mnt : DirPath → MountCall
  Dump : MountCall
  Umnt : DirPath → MountCall
  Umntall : MountCall
  Export : MountCall

-- an answer: nothing, a file handle or the number of an error, what is mounted, or what may be
pub data MountAnswer : Type 0 where
  Nothing : MountAnswer
  Mounted : Result FileHandle Stat → MountAnswer
  Mounts : List Mount → MountAnswer
  Exports : List Exported → MountAnswer
