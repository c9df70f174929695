-- What follows from the Ok of a procedure that changes files: each check that it passed, and its effect. Each
-- record speaks of the files before and after, the caller, the clock reading and the procedure's arguments.
use Rattle.std.specs.Prelude.{◌≡◌, ◌≢◌, ◌⊎◌, ℕ, ◌+◌, ◌==◌, ◌&&◌, ◌≤◌, Bool, true, false, IsTrue, List, []}
use Rattle.std.specs.Prelude.{length, replicate, Some, None, option_map, Ok, unwrap_or, if◌then◌else◌}
use Rattle.nfs_spec.specs.nfs_items.Timeval.{Timeval}
use Rattle.nfs_spec.specs.nfs_items.Caller.{Caller}
use Rattle.nfs_spec.specs.nfs_items.Terms.{FileNumber, Cookie, Name}
use Rattle.nfs_spec.specs.fs_spec.Maxima.{max_file_size, max_number}
use Rattle.nfs_spec.specs.fs_spec.Names.{is_name}
use Rattle.nfs_spec.specs.fs_spec.Files.{Regular, Symlink, Directory, File, Files, file_at, is_directory}
use Rattle.nfs_spec.specs.fs_spec.Files.{listing_in, listing, directory_entries}
use Rattle.nfs_spec.specs.fs_spec.Changes.Edits.{with_changed_file, with_name}
use Rattle.nfs_spec.specs.fs_spec.Changes.Limits.{has_room}
use Rattle.nfs_spec.specs.ProcedureChecks.{NumberedDir, may_search, may_write}
use Rattle.nfs_spec.specs.Sattr.{GivenFields, no_fields}
use Rattle.nfs_spec.specs.Changes.{check_owner, apply_fields, new_file, touch, touch_ctime, unlink}
use Rattle.nfs_spec.specs.Procedures.{set_attributes, with_bytes_written, add_file, is_above, move_entry}

-- ---- directories

-- a directory was found under a number
pub record IsFound (fs : Files) (n : FileNumber) (d : NumberedDir) : Type 0 where
  pub number : d.number ≡ n
  pub there : file_at fs n ≡ Some d.file
  pub directory : is_directory d.file.body ≡ true
  pub listing : listing_in d.file.body ≡ d.listing

-- a directory is there, a name may stand in it, and the caller may search it and write to it
pub record MayEdit (fs : Files) (who : Caller) (dir : FileNumber) (name : Name) : Type 0 where
  pub file : File
  pub there : file_at fs dir ≡ Some file
  pub directory : is_directory file.body ≡ true
  pub named : IsTrue (is_name name)
  pub searched : IsTrue (may_search who file)
  pub written : IsTrue (may_write who file)

-- ---- SETATTR, WRITE

-- a given size is of a regular file that the caller may write, and within its limit, in bytes
pub record ResizeOk (who : Caller) (file : File) (size : ℕ) : Type 0 where
  pub bytes : List ℕ
  pub regular : file.body ≡ Regular bytes
  pub written : IsTrue (may_write who file)
  pub fits : size ≤ max_file_size

-- SETATTR is granted: to who may set each given field, and where a size is given, for a regular file with
-- room
pub record SetOk (fs : Files) (who : Caller) (now : Timeval) (n : FileNumber) (a : GivenFields)
    (after : Files) : Type 0 where
  pub file : File
  pub there : file_at fs n ≡ Some file
  pub owner : check_owner who file a ≡ Ok tt
  pub resize : (size : ℕ) → a.size ≡ Some size → ResizeOk who file size
  pub room : (size : ℕ) → a.size ≡ Some size → IsTrue (has_room after)
  pub effect : after ≡ with_changed_file fs n (apply_fields now a)

-- WRITE is granted, of bytes to a regular file with room; of no bytes nothing changes
pub record WriteOk (fs : Files) (who : Caller) (now : Timeval) (n : FileNumber) (offset : ℕ) (new : List ℕ)
    (after : Files) : Type 0 where
  pub file : File
  pub old : List ℕ
  pub there : file_at fs n ≡ Some file
  pub regular : file.body ≡ Regular old
  pub written : IsTrue (may_write who file)
  pub fits : new ≢ [] → offset + length new ≤ max_file_size
  pub room : new ≢ [] → IsTrue (has_room after)
  pub effect :
      after ≡ (if length new == 0 then fs else with_changed_file fs n (with_bytes_written now offset new old))

-- ---- CREATE, MKDIR, SYMLINK, LINK

-- the file that CREATE makes: mode 0644, and zeros up to a given size
abbrev pub new_regular : Caller → Timeval → GivenFields → File
new_regular who now a = new_file who now a 0o644 (Regular (replicate (unwrap_or a.size 0) 0))

-- the directory that MKDIR makes: mode 0755, and no entries; the first cookie will be 3
abbrev pub new_directory : Caller → Timeval → GivenFields → File
new_directory who now a = new_file who now a 0o755 (Directory (record { next = 3; entries = [] }))

-- the symbolic link that SYMLINK makes: mode 0777
abbrev pub new_link : Caller → Timeval → List ℕ → File
new_link who now target = new_file who now no_fields 0o777 (Symlink target)

-- a file was made under the next number, with a name that was free
pub record MakeOk (fs : Files) (who : Caller) (now : Timeval) (dir : FileNumber) (name : Name) (f : File)
    (number : FileNumber) (after : Files) : Type 0 where
  pub directory : MayEdit fs who dir name
  pub free : directory_entries fs dir name ≡ None
  pub room : IsTrue (has_room after)
  pub is_next : number ≡ fs.next
  pub effect : after ≡ add_file now fs dir name f

-- MKDIR made a directory
abbrev pub MakeDirOk : Files → Caller → Timeval → FileNumber → Name → GivenFields → FileNumber → Files
    → Type 0
MakeDirOk fs who now dir name a number after =
    MakeOk fs who now dir name (new_directory who now a) number after

-- SYMLINK made a symbolic link with this target
abbrev pub SymlinkOk : Files → Caller → Timeval → FileNumber → Name → List ℕ → FileNumber → Files → Type 0
SymlinkOk fs who now dir name target number after =
    MakeOk fs who now dir name (new_link who now target) number after

-- CREATE of a name that is there did as SETATTR of its regular file
pub record CreateOverOk (fs : Files) (who : Caller) (now : Timeval) (n : FileNumber) (a : GivenFields)
    (number : FileNumber) (after : Files) : Type 0 where
  pub file : File
  pub bytes : List ℕ
  pub there : file_at fs n ≡ Some file
  pub regular : file.body ≡ Regular bytes
  pub is_same : number ≡ n
  pub as_set_attributes : set_attributes fs who now n a ≡ Ok (tt, after)
  pub set : SetOk fs who now n a after

-- CREATE of a new name made a regular file whose size is within its limit, in bytes
pub record CreateNewOk (fs : Files) (who : Caller) (now : Timeval) (dir : FileNumber) (name : Name)
    (a : GivenFields) (number : FileNumber) (after : Files) : Type 0 where
  pub fits : unwrap_or a.size 0 ≤ max_file_size
  pub make : MakeOk fs who now dir name (new_regular who now a) number after

-- CREATE is granted: of a free name it makes a file, of a regular file's name it sets attributes
pub record CreateOk (fs : Files) (who : Caller) (now : Timeval) (dir : FileNumber) (name : Name)
    (a : GivenFields) (number : FileNumber) (after : Files) : Type 0 where
  pub file : File
  pub there : file_at fs dir ≡ Some file
  pub directory : is_directory file.body ≡ true
  pub named : IsTrue (is_name name)
  pub searched : IsTrue (may_search who file)
  pub fresh : directory_entries fs dir name ≡ None → CreateNewOk fs who now dir name a number after
  pub over : (n : FileNumber) (cookie : Cookie) → directory_entries fs dir name ≡ Some (n, cookie)
      → CreateOverOk fs who now n a number after

-- LINK gave a file that is no directory one more name, which was free
pub record LinkOk (fs : Files) (who : Caller) (now : Timeval) (from dir : FileNumber) (name : Name)
    (after : Files) : Type 0 where
  pub file : File
  pub there : file_at fs from ≡ Some file
  pub plain : is_directory file.body ≡ false
  pub directory : MayEdit fs who dir name
  pub free : directory_entries fs dir name ≡ None
  pub room : IsTrue (has_room after)
  pub effect : after ≡ touch now (with_name (touch_ctime now fs from) dir name from) dir

-- ---- REMOVE, RMDIR

-- a name of a directory, or of what is none, goes; what it stood for lists nothing
pub record UnnameOk (of_directory : Bool) (fs : Files) (who : Caller) (now : Timeval) (dir : FileNumber)
    (name : Name) (after : Files) : Type 0 where
  pub directory : MayEdit fs who dir name
  pub number : FileNumber
  pub cookie : Cookie
  pub is_named : directory_entries fs dir name ≡ Some (number, cookie)
  pub file : File
  pub there : file_at fs number ≡ Some file
  pub kind : is_directory file.body ≡ of_directory
  pub empty : (listing_in file.body).entries ≡ []
  pub effect : after ≡ touch now (unlink now fs dir name number) dir

-- REMOVE took away a name of what is no directory
abbrev pub RemoveOk : Files → Caller → Timeval → FileNumber → Name → Files → Type 0
RemoveOk fs who now dir name after = UnnameOk false fs who now dir name after

-- RMDIR took away the name of an empty directory
abbrev pub RemoveDirOk : Files → Caller → Timeval → FileNumber → Name → Files → Type 0
RemoveDirOk fs who now dir name after = UnnameOk true fs who now dir name after

-- ---- RENAME

-- two names stand for one file
abbrev pub IsSameFile : Files → FileNumber → Name → FileNumber → Name → Type 0
IsSameFile fs from from_name to to_name =
    (n : FileNumber) × (b : Cookie) × (c : Cookie)
    × (directory_entries fs from from_name ≡ Some (n, b)) × (directory_entries fs to to_name ≡ Some (n, c))

-- a file may take the place of another: that one lists nothing, and is a directory exactly where the first
-- is one
pub record MayReplace (fs : Files) (file : File) (n : FileNumber) : Type 0 where
  pub other : File
  pub there : file_at fs n ≡ Some other
  pub kind : is_directory other.body ≡ is_directory file.body
  pub empty : (listing_in other.body).entries ≡ []

-- an entry moves, over what may stand at the new name; the file is not the directory that it goes to, nor
-- above it
pub record MoveOk (fs : Files) (now : Timeval) (from : FileNumber) (from_name : Name) (to : FileNumber)
    (to_name : Name) (number : FileNumber) (file : File) (after : Files) : Type 0 where
  pub other : (cookie : Cookie) → directory_entries fs to to_name ≢ Some (number, cookie)
  pub not_above : (is_directory file.body && is_above fs number to) ≡ false
  pub replaces : (n : FileNumber) (cookie : Cookie) → directory_entries fs to to_name ≡ Some (n, cookie)
      → MayReplace fs file n
  pub cookie : (listing fs to).next ≤ max_number
  pub effect :
      after
      ≡ move_entry now fs number from from_name to to_name
      (option_map (λ e. e.0) (directory_entries fs to to_name))

-- RENAME is granted: it changes nothing where both names are of one file, else it moves the entry
pub record RenameOk (fs : Files) (who : Caller) (now : Timeval) (from : FileNumber) (from_name : Name)
    (to : FileNumber) (to_name : Name) (after : Files) : Type 0 where
  pub source : MayEdit fs who from from_name
  pub target : MayEdit fs who to to_name
  pub number : FileNumber
  pub cookie : Cookie
  pub is_named : directory_entries fs from from_name ≡ Some (number, cookie)
  pub file : File
  pub there : file_at fs number ≡ Some file
  pub outcome :
      (IsSameFile fs from from_name to to_name × (after ≡ fs))
      ⊎ MoveOk fs now from from_name to to_name number file after
