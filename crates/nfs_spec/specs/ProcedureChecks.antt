-- The checks that procedures share, each with its stat.
use Rattle.std.specs.Prelude.{ℕ, ◌*◌, ◌==◌, ◌||◌, ◌&&◌, nat_lt, nat_le, bit_and, option_map, is_none, Bool}
use Rattle.std.specs.Prelude.{List, Option, Some, None, Result, Ok, Err, if◌then◌else◌}
use Rattle.std.specs.List.{list_any}
use Rattle.fs_spec.specs.nfs_items.Caller.{Caller}
use Rattle.fs_spec.specs.nfs_items.Handle.{FileHandle, number_in}
use Rattle.fs_spec.specs.nfs_items.declared.stat.Stat.{Stat}
use Rattle.fs_spec.specs.nfs_items.declared.stat.Stat.TheVariants as stats
use Rattle.fs_spec.specs.Maxima.{max_file_size, max_number}
use Rattle.fs_spec.specs.nfs_items.Terms.{Name, FileNumber}
use Rattle.fs_spec.specs.Names.{is_name}
use Rattle.fs_spec.specs.Listing.{Listing, file_number, entry_at}
use Rattle.fs_spec.specs.Changes.Limits.{has_room}
use Rattle.fs_spec.specs.Files.{Body, Regular, Symlink, Directory, File, Files, file_at}

-- one step after the other, up to the first that is refused
infixl 10 ◌>>=◌
abbrev pub ◌>>=◌ : {A B : Type 0} → Result A Stat → (A → Result B Stat) → Result B Stat
(Ok x) >>= f = f x
(Err e) >>= f = Err e

-- what is there, or a stat
abbrev pub ok_or : {A : Type 0} → Stat → Option A → Result A Stat
ok_or e None = Err e
ok_or e (Some x) = Ok x

-- a file of a number: STALE where there is none
abbrev pub file_of : Files → FileNumber → Result File Stat
file_of fs n = ok_or stats.Stale (file_at fs n)

-- the number that a file handle names here: STALE where it names none
abbrev pub number_of : Files → FileHandle → Result FileNumber Stat
number_of fs handle = ok_or stats.Stale (number_in fs.fsid handle)

-- what a directory lists; a stat where the body is no directory's
abbrev pub listing_or : Stat → Body → Result Listing Stat
listing_or e (Regular bytes) = Err e
listing_or e (Symlink target) = Err e
listing_or e (Directory l) = Ok l

-- ---- permission

-- where the caller's class has its three bits, the owner's, the group's or those of others: what the bits of
-- others are multiplied by
abbrev pub class_of : Caller → File → ℕ
class_of who f =
    if who.uid == f.uid then 0o100
    else if (who.gid == f.gid) || list_any (λ g. g == f.gid) who.gids then 0o010
    else 0o001

-- read is 4, write 2, execute or search 1
abbrev pub permits : Caller → File → ℕ → Bool
permits who f access = (who.uid == 0) || nat_lt 0 (bit_and f.mode (class_of who f * access))

-- search is a directory's execute bit, for its owner too
abbrev pub may_search : Caller → File → Bool
may_search who f = permits who f 1

-- the owner may always read and write
abbrev pub owns : Caller → File → Bool
owns who f = who.uid == f.uid

-- read permission, for the owner whatever the mode
abbrev pub may_read : Caller → File → Bool
may_read who f = owns who f || permits who f 4

-- write permission, for the owner whatever the mode
abbrev pub may_write : Caller → File → Bool
may_write who f = owns who f || permits who f 2

-- ---- checks that say nothing but their stat

-- nothing where a test passes, else its stat
abbrev pub check : Bool → Stat → Result (Unit {0}) Stat
check b e = if b then Ok tt else Err e

-- a file's size in bytes is at most 1,048,576, else FBIG
abbrev pub check_size : ℕ → Result (Unit {0}) Stat
check_size size = check (nat_le size max_file_size) stats.FBig

-- the files as they would be are within the server's limits on files, entries and blocks, else NOSPC
abbrev pub check_room : Files → Result (Unit {0}) Stat
check_room fs = check (has_room fs) stats.NoSpc

-- a directory's next cookie isn't above the greatest, else NOSPC
abbrev pub check_cookie : Listing → Result (Unit {0}) Stat
check_cookie l = check (nat_le l.next max_number) stats.NoSpc

-- the bytes of a regular file; ISDIR of a directory, NXIO of a symbolic link
abbrev pub bytes_of : Body → Result (List ℕ) Stat
bytes_of (Regular bytes) = Ok bytes
bytes_of (Symlink target) = Err stats.NxIo
bytes_of (Directory l) = Err stats.IsDir

-- the target of a symbolic link; NXIO of any other file
abbrev pub target_of : Body → Result (List ℕ) Stat
target_of (Regular bytes) = Err stats.NxIo
target_of (Symlink target) = Ok target
target_of (Directory l) = Err stats.NxIo

-- a directory with its number
pub record NumberedDir : Type 0 where
  pub number : FileNumber
  pub file : File
  pub listing : Listing

-- Dir: STALE, then NOTDIR
abbrev pub dir_of : Files → FileNumber → Result NumberedDir Stat
dir_of fs n = do
  f ← file_of fs n
  l ← listing_or stats.NotDir f.body
  Ok (record { number = n; file = f; listing = l })

-- Edit: the name rule, then search and write permission in that directory, else ACCES
abbrev pub check_edit : Caller → NumberedDir → Name → Result (Unit {0}) Stat
check_edit who d name = do
  _ ← check (is_name name) stats.Acces
  check (may_search who d.file && may_write who d.file) stats.Acces

-- what a name stands for: NOENT
abbrev pub number_at : NumberedDir → Name → Result FileNumber Stat
number_at d name = ok_or stats.NoEnt (option_map file_number (entry_at d.listing name))

-- a name is free: EXIST
abbrev pub check_free : NumberedDir → Name → Result (Unit {0}) Stat
check_free d name = check (is_none (entry_at d.listing name)) stats.Exist
