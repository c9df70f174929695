-- The calls of NFS version 2 (RFC 1094, section 2.2) and their answers, without where they lie in memory.
-- Arguments that mean nothing (READ's totalcount, WRITE's beginoffset and totalcount) are left out.
use Rattle.std.specs.Prelude.{ℕ, Bool, List, Result}
use Rattle.nfs_items.specs.declared.attributes.Fattr.{Fattr}
use Rattle.nfs_items.specs.declared.sattr.Sattr.{Sattr}
use Rattle.nfs_items.specs.declared.stat.Stat.{Stat}
use Rattle.nfs_items.specs.Handle.{FileHandle}
use Rattle.nfs_items.specs.Terms.{FileNumber, Name, Cookie, LinkTarget}
use Rattle.nfs_types.specs.declared.results.FsStats.{FsStats}

-- a procedure with its arguments
pub data Call : Type 0 where
  Null : Call
  Getattr : FileHandle → Call
  Setattr : FileHandle → Sattr → Call
  Root : Call
  Lookup : FileHandle → Name → Call
  Readlink : FileHandle → Call
  -- a file, an offset and a count
  Read : FileHandle → ℕ → ℕ → Call
  Writecache : Call
  -- a file, an offset and the data
  Write : FileHandle → ℕ → List ℕ → Call
  Create : FileHandle → Name → Sattr → Call
  Remove : FileHandle → Name → Call
  -- the directory and the name from which, and to which
  Rename : FileHandle → Name → FileHandle → Name → Call
  -- a file, and the directory and the name that it gets
  Link : FileHandle → FileHandle → Name → Call
  Symlink : FileHandle → Name → LinkTarget → Sattr → Call
  Mkdir : FileHandle → Name → Sattr → Call
  Rmdir : FileHandle → Name → Call
  -- a directory, a cookie and a count
  Readdir : FileHandle → Cookie → ℕ → Call
  Statfs : FileHandle → Call

-- an entry of a directory (section 2.2.17, entry)
pub record PageEntry : Type 0 where
  pub fileid : FileNumber
  pub name : Name
  pub cookie : Cookie

-- the entries of a page, and whether none is left
pub record Page : Type 0 where
  pub entries : List PageEntry
  pub eof : Bool

-- an answer, or the stat of its refusal
pub data Answer : Type 0 where
  Nothing : Answer
  Attributes : Result Fattr Stat → Answer
  DirOp : Result (FileHandle × Fattr) Stat → Answer
  Target : Result LinkTarget Stat → Answer
  Bytes : Result (Fattr × List ℕ) Stat → Answer
  Status : Result (Unit {0}) Stat → Answer
  Entries : Result Page Stat → Answer
  Free : Result FsStats Stat → Answer
