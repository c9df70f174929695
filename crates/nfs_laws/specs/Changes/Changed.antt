-- What becomes of the files that a call names.
use Rattle.std.specs.Prelude.{◌≡◌, ◌≢◌, ℕ, ◌+◌, ◌-◌, ◌<◌, ◌&&◌, nat_le, nat_lt, max, List, length}
use Rattle.std.specs.Prelude.{slice_index, Some, None, if◌then◌else◌}
use Rattle.nfs_spec.specs.nfs_items.Timeval.{Timeval}
use Rattle.nfs_spec.specs.nfs_items.Terms.{FileNumber, Cookie, Name}
use Rattle.nfs_spec.specs.fs_spec.Listing.{Listing, with_entry, without_entry}
use Rattle.nfs_spec.specs.fs_spec.Files.{Regular, Directory, File, Files, file_at, directory_entries}
use Rattle.nfs_spec.specs.fs_spec.Files.{names_of}
use Rattle.nfs_spec.specs.Sattr.{GivenFields}
use Rattle.nfs_spec.specs.Changes.{apply_fields}

-- the file of a number is there, and becomes one that stands so to it
pub record Becomes (fs fs' : Files) (n : FileNumber) (Change : File → File → Type 0) : Type 0 where
  pub old : File
  pub new : File
  pub was : file_at fs n ≡ Some old
  pub is : file_at fs' n ≡ Some new
  pub change : Change old new

-- ctime is now, and all else stays
abbrev pub ChangesCtime : Timeval → File → File → Type 0
ChangesCtime now old new = new ≡ record old { ctime = now }

-- ---- directories

-- a directory's mtime and ctime are now, it lists what is said, and all else stays
pub record IsTouched (now : Timeval) (change : Listing → Listing) (old new : File) : Type 0 where
  pub listing : Listing
  pub was : old.body ≡ Directory listing
  pub is : new ≡ record old { mtime = now; ctime = now; body = Directory (change listing) }

-- a name goes: with the last one the file is gone, else its ctime is now
pub record LosesName (now : Timeval) (fs fs' : Files) (n : FileNumber) : Type 0 where
  pub last : names_of fs n ≡ 1 → file_at fs' n ≡ None
  pub others : names_of fs n ≢ 1 → Becomes fs fs' n (ChangesCtime now)

-- ---- bytes

-- byte i of the bytes before, zero past their end
abbrev pub old_byte : List ℕ → ℕ → ℕ
old_byte old i = if nat_lt i (length old) then slice_index old i else 0

-- byte i after a write: the one written, else the old one, else zero
abbrev pub byte_after : ℕ → List ℕ → List ℕ → ℕ → ℕ
byte_after offset new old i =
    if nat_le offset i && nat_lt i (offset + length new) then slice_index new (i - offset) else old_byte old i

-- bytes are those of a write over old ones
pub record IsWritten (offset : ℕ) (new old bytes : List ℕ) : Type 0 where
  pub long : length bytes ≡ max (offset + length new) (length old)
  pub byte : (i : ℕ) → i < length bytes → slice_index bytes i ≡ byte_after offset new old i

-- bytes are the old ones cut or grown: byte i is the old one, else zero
pub record IsResized (size : ℕ) (old bytes : List ℕ) : Type 0 where
  pub long : length bytes ≡ size
  pub byte : (i : ℕ) → i < size → slice_index bytes i ≡ old_byte old i

-- a regular file has other bytes, which stand so to those that it had
pub record ChangesBytes (Change : List ℕ → List ℕ → Type 0) (old new : File) : Type 0 where
  pub before : List ℕ
  pub after : List ℕ
  pub was : old.body ≡ Regular before
  pub is : new.body ≡ Regular after
  pub change : Change before after

-- ---- what the procedures do to the files that they name

-- SETATTR: what is given is set, and the rest stays; mtime is now where a size is given, and ctime where
-- anything is; bytes stay where no size is given, a directory's entries and a symbolic link's target
-- always
abbrev pub IsSetTo : Timeval → GivenFields → File → File → Type 0
IsSetTo now a old new = new ≡ apply_fields now a old

-- WRITE: mtime and ctime are now, and all but these and the bytes stays
abbrev pub IsRewritten : Timeval → File → File → Type 0
IsRewritten now old new = new ≡ record old { mtime = now; ctime = now; body = new.body }

-- CREATE of a new name, MKDIR, SYMLINK: a file has the next number, which had none, and a name in the
-- directory, which was free
pub record Makes (now : Timeval) (fs fs' : Files) (dir : FileNumber) (name : Name) (number : FileNumber)
    (file : File) : Type 0 where
  pub number_is : number ≡ fs.next
  pub free : file_at fs number ≡ None
  pub unused : directory_entries fs dir name ≡ None
  pub made : file_at fs' number ≡ Some file
  pub directory : Becomes fs fs' dir (IsTouched now (λ l. with_entry l name number))

-- LINK: a file has another name, which was free
pub record Links (now : Timeval) (fs fs' : Files) (number dir : FileNumber) (name : Name) : Type 0 where
  pub unused : directory_entries fs dir name ≡ None
  pub file : Becomes fs fs' number (ChangesCtime now)
  pub directory : Becomes fs fs' dir (IsTouched now (λ l. with_entry l name number))

-- REMOVE, RMDIR: what the name stood for loses it
pub record Unnames (now : Timeval) (fs fs' : Files) (dir : FileNumber) (name : Name) : Type 0 where
  pub number : FileNumber
  pub cookie : Cookie
  pub was : directory_entries fs dir name ≡ Some (number, cookie)
  pub file : LosesName now fs fs' number
  pub directory : Becomes fs fs' dir (IsTouched now (λ l. without_entry l name))

-- RENAME in one directory: what stood at the new name goes, then the old name, and the new one comes last
abbrev pub renamed_within : Name → Name → FileNumber → Listing → Listing
renamed_within from_name to_name number l =
    with_entry (without_entry (without_entry l to_name) from_name) to_name number

-- RENAME: the file has another name, and what stood there loses it
pub record Moves (now : Timeval) (fs fs' : Files) (from : FileNumber) (from_name : Name) (to : FileNumber)
    (to_name : Name) : Type 0 where
  pub number : FileNumber
  pub cookie : Cookie
  pub was : directory_entries fs from from_name ≡ Some (number, cookie)
  pub file : Becomes fs fs' number (ChangesCtime now)
  pub target : (t : FileNumber) (c : Cookie) → directory_entries fs to to_name ≡ Some (t, c)
      → LosesName now fs fs' t
  pub source : from ≢ to → Becomes fs fs' from (IsTouched now (λ l. without_entry l from_name))
  pub apart : from ≢ to → Becomes fs fs' to (IsTouched now (λ l. with_entry l to_name number))
  pub within : from ≡ to
      → Becomes fs fs' to (IsTouched now (renamed_within from_name to_name number))
