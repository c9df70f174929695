-- Files whose attributes fit in words.
use Rattle.std.specs.Prelude.{◌≡◌, ℕ, ◌<◌, ◌^◌, Some}
use Rattle.nfs_spec.specs.nfs_items.Timeval.{Timeval}
use Rattle.nfs_spec.specs.nfs_items.Caller.{Caller}
use Rattle.nfs_spec.specs.fs_spec.Files.{File, Files, file_at}
use Rattle.nfs_spec.specs.nfs_items.declared.sattr.Sattr.{Sattr}
use Rattle.nfs_spec.specs.nfs_types.Calls.{Call, Setattr, Create, Mkdir}

-- owner, group and seconds of a file are words
pub record HasWords (f : File) : Type 0 where
  pub uid : f.uid < 2 ^ 32
  pub gid : f.gid < 2 ^ 32
  pub atime : f.atime.seconds < 2 ^ 32
  pub mtime : f.mtime.seconds < 2 ^ 32
  pub ctime : f.ctime.seconds < 2 ^ 32

-- so is the server's number, and so are those of each file
pub record AreWords (fs : Files) : Type 0 where
  pub fsid : fs.fsid < 2 ^ 32
  pub files : (n : ℕ) (f : File) → file_at fs n ≡ Some f → HasWords f

-- owner, group and seconds that a sattr gives are words
pub record AsksWords (s : Sattr) : Type 0 where
  pub uid : s.uid < 2 ^ 32
  pub gid : s.gid < 2 ^ 32
  pub atime : s.atime.seconds < 2 ^ 32
  pub mtime : s.mtime.seconds < 2 ^ 32

-- what a caller says of itself and asks is words
pub record SaysWords (who : Caller) (now : Timeval) : Type 0 where
  pub uid : who.uid < 2 ^ 32
  pub gid : who.gid < 2 ^ 32
  pub seconds : now.seconds < 2 ^ 32

-- the attributes that a call brings, where it brings any, are words
abbrev pub HasWordsIn : Call → Type 0
HasWordsIn (Setattr file s) = AsksWords s
HasWordsIn (Create dir name s) = AsksWords s
HasWordsIn (Mkdir dir name s) = AsksWords s
HasWordsIn _ = Unit {0}

-- the bytes of the longest answer, that of a READ: a stat, attributes, a length and 8,192 bytes of data
abbrev pub longest_answer : ℕ
longest_answer = 8268
