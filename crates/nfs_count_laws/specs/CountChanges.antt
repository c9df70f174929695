-- What each change of files takes, and what it does to what is kept beside them.
use Rattle.std.specs.Prelude.{◌≡◌, ◌≢◌, ℕ, ◌+◌, ◌==◌, ◌≤◌, ◌||◌, ◌&&◌, Bool, true, false, IsTrue, [], length}
use Rattle.std.specs.Prelude.{Option, Some, None, option_map, if◌then◌else◌}
use Rattle.nfs_items.specs.Terms.{FileNumber, Cookie, Name}
use Rattle.nfs_laws.specs.fs_spec.Names.{is_name}
use Rattle.nfs_laws.specs.fs_spec.Maxima.{max_name, max_number}
use Rattle.nfs_laws.specs.fs_spec.Files.{Body, File, Files, file_at, listing_in, listing, is_directory}
use Rattle.nfs_laws.specs.fs_spec.Files.{IsDirectory, directory_entries}
use Rattle.nfs_laws.specs.fs_spec.Trees.{IsFile}
use Rattle.nfs_laws.specs.fs_spec.Changes.Limits.{blocks_in}
use Rattle.nfs_laws.specs.nfs_spec.Procedures.{is_above}
use Rattle.nfs_laws.specs.Steps.Granted.{MayReplace}
use Rattle.nfs_laws.specs.Room.{HasRoomToMake, HasRoomToLink}
use Rattle.nfs_laws.specs.Sizes.Bounds.{HasWords}

-- ---- contents

-- a file's contents may change: what it lists and its kind stay
pub record MayChange (fs : Files) (k : FileNumber) (f : File) (change : File → File) : Type 0 where
  pub there : file_at fs k ≡ Some f
  pub listing : listing_in (change f).body ≡ listing_in f.body
  pub kind : is_directory (change f).body ≡ is_directory f.body
  pub file : IsFile (change f)
  pub words : HasWords (change f)

-- ---- a name more

-- a new file that lists nothing may go under a free name of a directory
pub record MayMake (fs : Files) (dir : FileNumber) (name : Name) (f : File) : Type 0 where
  pub directory : IsDirectory fs dir
  pub free : directory_entries fs dir name ≡ None
  pub named : IsTrue (is_name name)
  pub bounded : length name ≤ max_name
  pub empty : (listing_in f.body).entries ≡ []
  pub cookie : (listing_in f.body).next ≤ max_number + 1
  pub file : IsFile f
  pub words : HasWords f
  pub room : HasRoomToMake fs (listing fs dir).next (blocks_in f.body)

-- its own nlink and, of a directory, the number above it; a directory counts in the one that names it
pub record CountsMade (fs : Files) (dir : FileNumber) (f : File) (links above links' above' : FileNumber → ℕ)
    : Type 0 where
  pub own : links' fs.next ≡ (if is_directory f.body then 2 else 1)
  pub directory : links' dir ≡ links dir + (if is_directory f.body then 1 else 0)
  pub others : (n : FileNumber) → n ≢ fs.next → n ≢ dir → links' n ≡ links n
  pub own_above : is_directory f.body ≡ true → above' fs.next ≡ dir
  pub others_above : (n : FileNumber) → n ≢ fs.next → above' n ≡ above n

-- a file that is no directory may have another name, a free one of a directory
pub record MayLink (fs : Files) (from dir : FileNumber) (name : Name) (f : File) : Type 0 where
  pub there : file_at fs from ≡ Some f
  pub plain : is_directory f.body ≡ false
  pub directory : IsDirectory fs dir
  pub free : directory_entries fs dir name ≡ None
  pub named : IsTrue (is_name name)
  pub bounded : length name ≤ max_name
  pub room : HasRoomToLink fs (listing fs dir).next

-- ---- a name less

-- a name may go if what it stands for lists nothing
pub record MayUnlink (fs : Files) (dir : FileNumber) (name : Name) (number : FileNumber) (cookie : Cookie)
    (f : File) : Type 0 where
  pub is_named : directory_entries fs dir name ≡ Some (number, cookie)
  pub there : file_at fs number ≡ Some f
  pub empty : (listing_in f.body).entries ≡ []

-- whether a file goes with a name of it, told by its nlink: a directory always, another with its only name
abbrev pub is_last_name : Body → ℕ → Bool
is_last_name body links = is_directory body || (links == 1)

-- the blocks that go with a name
abbrev pub blocks_freed : Body → ℕ → ℕ
blocks_freed body links = if is_last_name body links then blocks_in body else 0

-- a directory counts no more in the one that named it; another file that stays has one name less
pub record CountsUnlinked (dir number : FileNumber) (body : Body) (links links' : FileNumber → ℕ)
    : Type 0 where
  pub directory : links' dir + (if is_directory body then 1 else 0) ≡ links dir
  pub own : is_last_name body (links number) ≡ false → links' number + 1 ≡ links number
  pub others : (n : FileNumber) → n ≢ number → n ≢ dir → links' n ≡ links n

-- ---- a name moved

-- the file at a name may go to another, in place of the target that may stand there
pub record MayMove (fs : Files) (number from : FileNumber) (from_name : Name) (to : FileNumber)
    (to_name : Name) (f : File) (cookie : Cookie) (target : Option FileNumber) : Type 0 where
  pub is_named : directory_entries fs from from_name ≡ Some (number, cookie)
  pub there : file_at fs number ≡ Some f
  pub directory : IsDirectory fs to
  pub named : IsTrue (is_name to_name)
  pub bounded : length to_name ≤ max_name
  pub is_target : target ≡ option_map (λ e. e.0) (directory_entries fs to to_name)
  pub other : target ≢ Some number
  pub not_above : (is_directory f.body && is_above fs number to) ≡ false
  pub replaces : (t : FileNumber) → target ≡ Some t → MayReplace fs f t
  pub next_cookie : (listing fs to).next ≤ max_number

-- first the target goes, if there is one
pub record CountsCleared (fs : Files) (dir : FileNumber) (target : Option FileNumber)
    (links links' : FileNumber → ℕ) (entries blocks entries' blocks' : ℕ) : Type 0 where
  pub kept : target ≡ None
      → ((n : FileNumber) → links' n ≡ links n) × (entries' ≡ entries) × (blocks' ≡ blocks)
  pub unlinked : (t : FileNumber) (g : File) → target ≡ Some t → file_at fs t ≡ Some g
      → CountsUnlinked dir t g.body links links' × (entries' + 1 ≡ entries)
      × (blocks' + blocks_freed g.body (links t) ≡ blocks)

-- then a directory counts in the one that it goes to and no more in the other; `links₁` is what is left by
-- the target's going
pub record CountsMoved (number from to : FileNumber) (f : File) (target : Option FileNumber)
    (links₁ links₂ links' above above' : FileNumber → ℕ) : Type 0 where
  pub leaves : links₂ from + (if is_directory f.body then 1 else 0) ≡ links₁ from
  pub others_left : (n : FileNumber) → n ≢ from → links₂ n ≡ links₁ n
  pub reaches : links' to ≡ links₂ to + (if is_directory f.body then 1 else 0)
  pub others_reached : (n : FileNumber) → n ≢ to → links' n ≡ links₂ n
  pub own_above : is_directory f.body ≡ true → above' number ≡ to
  pub others_above : (n : FileNumber) → n ≢ number → target ≢ Some n → above' n ≡ above n
