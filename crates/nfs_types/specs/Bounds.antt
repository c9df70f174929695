-- Within what bounds a call is that was read from bytes (RFC 1094, sections 2.2 and 2.3).
use Rattle.std.specs.Prelude.{ℕ, ◌<◌, ◌≤◌, ◌^◌, length}
use Rattle.nfs_items.specs.Timeval.{Timeval}
use Rattle.nfs_items.specs.Terms.{Name}
use Rattle.nfs_items.specs.declared.sattr.Sattr.{Sattr}
use Rattle.nfs_types.specs.declared.limits.TheConstants.{MAXNAMLEN, MAXPATHLEN, MAXDATA}
use Rattle.nfs_types.specs.Calls.{Call, Null, Getattr, Setattr, Root, Lookup, Readlink, Read, Writecache}
use Rattle.nfs_types.specs.Calls.{Write, Create, Remove, Rename, Link, Symlink, Mkdir, Rmdir, Readdir, Statfs}

-- a name of at most 255 bytes (section 2.3.7)
abbrev pub IsFilename : Name → Type 0
IsFilename name = length name ≤ MAXNAMLEN

-- an unsigned number of 32 bits
abbrev pub IsWord : ℕ → Type 0
IsWord n = n < 2 ^ 32

-- both numbers of a time are words
abbrev pub HasTimeWords : Timeval → Type 0
HasTimeWords t = IsWord t.seconds × IsWord t.microseconds

-- the attributes that a call brings are words (section 2.3.6)
pub record HasSattrWords (s : Sattr) : Type 0 where
  pub mode : IsWord s.mode
  pub uid : IsWord s.uid
  pub gid : IsWord s.gid
  pub size : IsWord s.size
  pub atime : HasTimeWords s.atime
  pub mtime : HasTimeWords s.mtime

-- Names have at most 255 bytes, a target 1,024 and data 8,192; offsets, counts, cookies and attributes are
-- words.
abbrev pub HasBounds : Call → Type 0
HasBounds Null = Unit {0}
HasBounds (Getattr file) = Unit {0}
HasBounds (Setattr file attributes) = HasSattrWords attributes
HasBounds Root = Unit {0}
HasBounds (Lookup dir name) = IsFilename name
HasBounds (Readlink file) = Unit {0}
HasBounds (Read file offset count) = IsWord offset × IsWord count
HasBounds Writecache = Unit {0}
HasBounds (Write file offset new) = IsWord offset × (length new ≤ MAXDATA)
HasBounds (Create dir name attributes) = IsFilename name × HasSattrWords attributes
HasBounds (Remove dir name) = IsFilename name
HasBounds (Rename from from_name to to_name) = IsFilename from_name × IsFilename to_name
HasBounds (Link file dir name) = IsFilename name
HasBounds (Symlink dir name target attributes) =
    IsFilename name × (length target ≤ MAXPATHLEN) × HasSattrWords attributes
HasBounds (Mkdir dir name attributes) = IsFilename name × HasSattrWords attributes
HasBounds (Rmdir dir name) = IsFilename name
HasBounds (Readdir dir cookie count) = IsWord cookie × IsWord count
HasBounds (Statfs file) = Unit {0}
