-- What a call that was not refused did to the files that it names.
use Rattle.std.specs.Prelude.{◌≡◌, ◌≢◌, ℕ, List, [], Some, None}
use Rattle.nfs_spec.specs.nfs_items.Timeval.{Timeval}
use Rattle.nfs_spec.specs.nfs_items.Caller.{Caller}
use Rattle.nfs_spec.specs.nfs_items.Terms.{FileNumber, Cookie, Name}
use Rattle.nfs_spec.specs.fs_spec.Files.{Files, file_at, directory_entries}
use Rattle.nfs_spec.specs.Sattr.{GivenFields, given_fields}
use Rattle.nfs_spec.specs.nfs_types.Calls.{Call, Setattr, Write, Create, Remove, Rename, Link, Symlink, Mkdir}
use Rattle.nfs_spec.specs.nfs_types.Calls.{Rmdir}
use Rattle.nfs_spec.specs.NfsCalls.{number_for}
use Rattle.nfs_laws.specs.Steps.Granted.{IsSameFile, new_regular, new_directory, new_link}
use Rattle.nfs_laws.specs.Changes.Changed.{Becomes, IsSetTo, IsRewritten, ChangesBytes, IsWritten, IsResized}
use Rattle.nfs_laws.specs.Changes.Changed.{Makes, Links, Unnames, Moves}

-- attributes are set of a file, and with a size its bytes
pub record IsSetAt (now : Timeval) (fs fs' : Files) (n : FileNumber) (a : GivenFields) : Type 0 where
  pub attributes : Becomes fs fs' n (IsSetTo now a)
  pub bytes : (size : ℕ) → a.size ≡ Some size → Becomes fs fs' n (ChangesBytes (IsResized size))

-- bytes are written to a file; of no bytes nothing changes
pub record IsWrittenAt (now : Timeval) (fs fs' : Files) (n : FileNumber) (offset : ℕ)
    (new : List ℕ) : Type 0 where
  pub rest : new ≢ [] → Becomes fs fs' n (IsRewritten now)
  pub bytes : new ≢ [] → Becomes fs fs' n (ChangesBytes (IsWritten offset new))
  pub none : new ≡ [] → fs' ≡ fs

-- a file that is there has attributes set; else one is made
pub record IsCreatedAt (who : Caller) (now : Timeval) (fs fs' : Files) (dir : FileNumber) (name : Name)
    (a : GivenFields) : Type 0 where
  pub over : (n : FileNumber) (c : Cookie) → directory_entries fs dir name ≡ Some (n, c)
      → IsSetAt now fs fs' n a
  pub fresh : directory_entries fs dir name ≡ None → Makes now fs fs' dir name fs.next (new_regular who now a)

-- what the name stood for is gone
pub record IsGoneAt (now : Timeval) (fs fs' : Files) (dir : FileNumber) (name : Name) : Type 0 where
  pub unnamed : Unnames now fs fs' dir name
  pub gone : (n : FileNumber) (c : Cookie) → directory_entries fs dir name ≡ Some (n, c)
      → file_at fs' n ≡ None

-- where both names stand for one file nothing changes
pub record IsMovedAt (now : Timeval) (fs fs' : Files) (from : FileNumber) (from_name : Name) (to : FileNumber)
    (to_name : Name) : Type 0 where
  pub same : IsSameFile fs from from_name to to_name → fs' ≡ fs
  pub moves : (IsSameFile fs from from_name to to_name → ⊥) → Moves now fs fs' from from_name to to_name

-- by the call; the others change nothing
abbrev pub Did : Files → Caller → Timeval → Call → Files → Type 0
Did fs who now (Setattr file s) fs' = IsSetAt now fs fs' (number_for fs file) (given_fields now s)
Did fs who now (Write file offset new) fs' = IsWrittenAt now fs fs' (number_for fs file) offset new
Did fs who now (Create dir name s) fs' =
    IsCreatedAt who now fs fs' (number_for fs dir) name (given_fields now s)
Did fs who now (Mkdir dir name s) fs' =
    Makes now fs fs' (number_for fs dir) name fs.next (new_directory who now (given_fields now s))
Did fs who now (Symlink dir name target s) fs' =
    Makes now fs fs' (number_for fs dir) name fs.next (new_link who now target)
Did fs who now (Link from dir name) fs' = Links now fs fs' (number_for fs from) (number_for fs dir) name
Did fs who now (Remove dir name) fs' = Unnames now fs fs' (number_for fs dir) name
Did fs who now (Rmdir dir name) fs' = IsGoneAt now fs fs' (number_for fs dir) name
Did fs who now (Rename from from_name to to_name) fs' =
    IsMovedAt now fs fs' (number_for fs from) from_name (number_for fs to) to_name
Did fs who now _ fs' = fs' ≡ fs
