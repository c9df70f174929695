-- Paths in a tree of numbered directories, by walks along their names.
use Rattle.std.specs.Prelude.{◌≡◌, ◌≢◌, ℕ, [], ◌∷◌, ◌++◌, Option, Some, None, IsSome, option_map}
use Rattle.std.specs.Prelude.{option_and_then}
use Rattle.nfs_items.specs.Terms.{Name, FileNumber, Cookie}
use Rattle.fs_spec.specs.Names.{FilePath}
use Rattle.fs_spec.specs.Listing.{DirectoryEntry, file_number}

-- what the directory of each number has under each name
abbrev pub DirectoryEntries : Type 0
DirectoryEntries = FileNumber → Name → Option DirectoryEntry

-- what a walk along the names reaches, from an entry
abbrev pub walk : DirectoryEntries → DirectoryEntry → FilePath → Option DirectoryEntry
walk at from [] = Some from
walk at from (name ∷ path) = option_and_then (λ next. walk at next path) (at (file_number from) name)

-- the map from paths: the empty path is number 1
abbrev pub path_at : DirectoryEntries → FilePath → Option DirectoryEntry
path_at at path = walk at (1, 0) path

-- no directory has two paths
abbrev pub HasOnePathEach : (FileNumber → Type 0) → DirectoryEntries → Type 0
HasOnePathEach IsDirectory at =
    (p q : FilePath) (number : FileNumber) (c d : Cookie) → IsDirectory number
    → path_at at p ≡ Some (number, c) → path_at at q ≡ Some (number, d) → p ≡ q

-- one path more
pub record AddsPath
    (old new : FilePath → Option DirectoryEntry) (path : FilePath) (number : FileNumber) (cookie : Cookie)
    : Type 0 where
  pub free : old path ≡ None
  pub added : new path ≡ Some (number, cookie)
  pub others : (p : FilePath) → p ≢ path → new p ≡ old p

-- one path less
pub record TakesPath (old new : FilePath → Option DirectoryEntry) (path : FilePath) : Type 0 where
  pub had : IsSome (old path)
  pub gone : new path ≡ None
  pub others : (p : FilePath) → p ≢ path → new p ≡ old p

-- what `from` was, with all below it, is at `to`; what stood at `to` is gone, and nothing is left at `from`
pub record Renames (old new : FilePath → Option DirectoryEntry) (from to : FilePath)
    (cookie : Cookie) : Type 0 where
  pub had : IsSome (old from)
  pub moved : new to ≡ option_map (λ e. (file_number e, cookie)) (old from)
  pub below : (r : FilePath) → r ≢ [] → new (to ++ r) ≡ old (from ++ r)
  pub gone : (r : FilePath) → ((s : FilePath) → from ++ r ≢ to ++ s) → new (from ++ r) ≡ None
  pub others : (p : FilePath)
      → ((r : FilePath) → p ≢ to ++ r) → ((r : FilePath) → p ≢ from ++ r) → new p ≡ old p

-- The shape of a tree: what is there, what is a directory, what each lists.
pub record IsTree
    (IsThere IsDirectory : FileNumber → Type 0) (parent : FileNumber → FileNumber) (at : DirectoryEntries)
    : Type 0 where
  pub root : IsDirectory 1
  pub there : (n : ℕ) → IsDirectory n → IsThere n
  pub reached : (n : ℕ) → IsDirectory n → (p : FilePath) × (c : ℕ) × (path_at at p ≡ Some (n, c))
  pub lists : (n : ℕ) (y : Name) (k c : ℕ) → at n y ≡ Some (k, c) → IsDirectory n
  pub named : (n : ℕ) (y : Name) (k c : ℕ) → at n y ≡ Some (k, c) → IsThere k
  pub up : (n : ℕ) (y : Name) (k c : ℕ) → at n y ≡ Some (k, c) → IsDirectory k → parent k ≡ n

-- the entry of one name in one directory changes, and no other
pub record ChangesEntry (at to : DirectoryEntries) (d : FileNumber) (x : Name)
    (o : Option DirectoryEntry) : Type 0 where
  pub here : to d x ≡ o
  pub rest : (n : ℕ) (y : Name) → ((n ≡ d) × (y ≡ x) → ⊥) → to n y ≡ at n y

-- a number is another, or above it
abbrev pub IsAbove : DirectoryEntries → FileNumber → FileNumber → Type 0
IsAbove at upper lower = (r : FilePath) × (c : ℕ) × (walk at (upper, 0) r ≡ Some (lower, c))
