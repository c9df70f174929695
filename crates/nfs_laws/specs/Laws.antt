-- What the laws of procedures speak of.
use Rattle.std.specs.Prelude.{◌≡◌, ℕ, ◌<◌, ◌≤◌, [], ◌∷◌, ◌++◌, length, Some}
use Rattle.nfs_spec.specs.nfs_items.Timeval.{Timeval}
use Rattle.nfs_spec.specs.nfs_items.Terms.{FileNumber, Cookie, Name}
use Rattle.nfs_spec.specs.fs_spec.Names.{FilePath}
use Rattle.nfs_spec.specs.fs_spec.Maxima.{max_name, max_target}
use Rattle.nfs_spec.specs.fs_spec.Paths.{path_at, AddsPath, TakesPath, Renames}
use Rattle.nfs_spec.specs.fs_spec.Files.{Files, listing, directory_entries}
use Rattle.nfs_spec.specs.fs_spec.Trees.{IsTime}
use Rattle.nfs_spec.specs.Sattr.{GivenFields}
use Rattle.nfs_spec.specs.nfs_types.Calls.{Call, Create, Rename, Link, Symlink, Mkdir}

-- what may be asked of attributes: twelve bits of mode, and times
pub record AreValidFields (a : GivenFields) : Type 0 where
  pub mode : (mode : ℕ) → a.mode ≡ Some mode → mode < 0o10000
  pub atime : (t : Timeval) → a.atime ≡ Some t → IsTime t
  pub mtime : (t : Timeval) → a.mtime ≡ Some t → IsTime t

-- names and targets within the bounds of the protocol (RFC 1094, sections 2.3.7 and 2.3.8)
abbrev pub IsBounded : Call → Type 0
IsBounded (Create dir name s) = length name ≤ max_name
IsBounded (Rename from from_name to to_name) = length to_name ≤ max_name
IsBounded (Link from dir name) = length name ≤ max_name
IsBounded (Symlink dir name target s) = (length name ≤ max_name) × (length target ≤ max_target)
IsBounded (Mkdir dir name s) = length name ≤ max_name
IsBounded _ = Unit {0}

-- from each path of the directory there is one path more, with the directory's next cookie
abbrev pub NamesIn : Files → Files → FileNumber → Name → FileNumber → Type 0
NamesIn fs fs' dir name number =
    (path : FilePath) (cookie : Cookie) → path_at (directory_entries fs) path ≡ Some (dir, cookie)
    → AddsPath (path_at (directory_entries fs)) (path_at (directory_entries fs')) (path ++ name ∷ []) number
    (listing fs dir).next

-- one path less
abbrev pub UnnamesIn : Files → Files → FileNumber → Name → Type 0
UnnamesIn fs fs' dir name =
    (path : FilePath) (cookie : Cookie) → path_at (directory_entries fs) path ≡ Some (dir, cookie)
    → TakesPath (path_at (directory_entries fs)) (path_at (directory_entries fs')) (path ++ name ∷ [])

-- the paths through the one name go on through the other
abbrev pub RenamesIn : Files → Files → FileNumber → Name → FileNumber → Name → Type 0
RenamesIn fs fs' from from_name to to_name =
    (p q : FilePath) (c d : Cookie)
    → path_at (directory_entries fs) p ≡ Some (from, c) → path_at (directory_entries fs) q ≡ Some (to, d)
    → Renames (path_at (directory_entries fs)) (path_at (directory_entries fs'))
    (p ++ from_name ∷ []) (q ++ to_name ∷ []) (listing fs to).next
