-- Which files a call names.
use Rattle.std.specs.Prelude.{◌≡◌, ◌≢◌, ℕ, ◌&&◌, Bool, true, false, List, [], ◌∷◌, ◌++◌, Some, is_none}
use Rattle.std.specs.Prelude.{if◌then◌else◌}
use Rattle.std.specs.Option.{option_map_or}
use Rattle.nfs_spec.specs.nfs_items.Terms.{FileNumber, Name}
use Rattle.nfs_spec.specs.fs_spec.Listing.{Listing}
use Rattle.nfs_spec.specs.fs_spec.Files.{Body, Regular, Directory, File, Files, file_at, directory_entries}
use Rattle.nfs_spec.specs.fs_spec.Files as bodies
use Rattle.nfs_spec.specs.nfs_types.Calls.{Call, Setattr, Write, Create, Remove, Rename, Link, Symlink, Mkdir}
use Rattle.nfs_spec.specs.nfs_types.Calls.{Rmdir, Answer}
use Rattle.nfs_spec.specs.NfsCalls.{number_for}
use Rattle.nfs_laws.specs.Steps.Answers.{refusal_in}

-- a number is none of these
abbrev pub IsNoneOf : FileNumber → List FileNumber → Type 0
IsNoneOf n [] = Unit {0}
IsNoneOf n (m ∷ ms) = (n ≢ m) × IsNoneOf n ms

-- what a name stands for, if it stands for anything
abbrev pub files_at_name : Files → FileNumber → Name → List FileNumber
files_at_name fs dir name = option_map_or (λ e. e.0 ∷ []) (directory_entries fs dir name) []

-- the numbers of the files that a call names: of SETATTR and WRITE the file; of CREATE the file that is
-- there, else the directory and the new number; of MKDIR and SYMLINK the directory and the new number; of
-- LINK the file and the directory; of REMOVE and RMDIR the directory and what the name stands for; of RENAME
-- both directories and what both names stand for; of the others none
abbrev pub files_named_by : Files → Call → List FileNumber
files_named_by fs (Setattr file s) = number_for fs file ∷ []
files_named_by fs (Write file offset new) = number_for fs file ∷ []
files_named_by fs (Create dir name s) =
    option_map_or (λ e. e.0 ∷ []) (directory_entries fs (number_for fs dir) name)
    (number_for fs dir ∷ fs.next ∷ [])
files_named_by fs (Mkdir dir name s) = number_for fs dir ∷ fs.next ∷ []
files_named_by fs (Symlink dir name target s) = number_for fs dir ∷ fs.next ∷ []
files_named_by fs (Link from dir name) = number_for fs from ∷ number_for fs dir ∷ []
files_named_by fs (Remove dir name) = number_for fs dir ∷ files_at_name fs (number_for fs dir) name
files_named_by fs (Rmdir dir name) = number_for fs dir ∷ files_at_name fs (number_for fs dir) name
files_named_by fs (Rename from from_name to to_name) =
    number_for fs from
    ∷ number_for fs to
    ∷ files_at_name fs (number_for fs from) from_name
    ++ files_at_name fs (number_for fs to) to_name
files_named_by fs _ = []

-- a call makes a file unless it is refused: CREATE of a name that isn't there, MKDIR and SYMLINK
abbrev pub makes_file : Files → Call → Bool
makes_file fs (Create dir name s) = is_none (directory_entries fs (number_for fs dir) name)
makes_file fs (Mkdir dir name s) = true
makes_file fs (Symlink dir name target s) = true
makes_file fs _ = false

-- one where a call made a file, else none
abbrev pub files_made : Files → Call → Answer → ℕ
files_made fs call answer = if makes_file fs call && is_none (refusal_in answer) then 1 else 0

-- the numbers of the files whose attributes a call sets: of SETATTR the file, of CREATE the file that is
-- there
abbrev pub files_set_by : Files → Call → List FileNumber
files_set_by fs (Setattr file s) = number_for fs file ∷ []
files_set_by fs (Create dir name s) = files_at_name fs (number_for fs dir) name
files_set_by fs _ = []

-- and of those to which it may give other bytes: of WRITE the file too
abbrev pub files_written_by : Files → Call → List FileNumber
files_written_by fs (Write file offset new) = number_for fs file ∷ []
files_written_by fs call = files_set_by fs call

-- a file is of the kind that it was, and a symbolic link has the target that it had
abbrev pub KeepsKind : Body → Body → Type 0
KeepsKind (Regular bytes) body = (new : List ℕ) × (body ≡ Regular new)
KeepsKind (bodies.Symlink target) body = body ≡ bodies.Symlink target
KeepsKind (Directory l) body = (new : Listing) × (body ≡ Directory new)

-- mode, owner, group and atime are as they were
pub record KeepsAttributes (old new : File) : Type 0 where
  pub mode : new.mode ≡ old.mode
  pub uid : new.uid ≡ old.uid
  pub gid : new.gid ≡ old.gid
  pub atime : new.atime ≡ old.atime

-- the bytes of a regular file are as they were
abbrev pub KeepsBytes : Body → Body → Type 0
KeepsBytes old new = (bytes : List ℕ) → old ≡ Regular bytes → new ≡ Regular bytes

-- the file of a number, where it is there before and after, stands so to the one that it was
abbrev pub KeepsAt : (File → File → Type 0) → Files → Files → FileNumber → Type 0
KeepsAt Kept fs fs' n = (old new : File) → file_at fs n ≡ Some old → file_at fs' n ≡ Some new → Kept old new
