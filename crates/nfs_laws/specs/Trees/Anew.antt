-- Numbers and cookies are never used again.
use Rattle.std.specs.Prelude.{◌≡◌, ◌⊎◌, ◌≤◌, Some, IsSome, IsTrue}
use Rattle.nfs_spec.specs.nfs_items.Terms.{FileNumber, Cookie, Name}
use Rattle.nfs_spec.specs.fs_spec.Files.{Files, file_at, listing, IsDirectory, directory_entries}
use Rattle.nfs_spec.specs.fs_spec.Changes.Limits.{has_room}
use Rattle.nfs_spec.specs.fs_spec.Trees.{IsFileTree}

-- what is there was there, or has a number that was not given before; an entry of a directory was in it, or
-- has a cookie that was not given in it before
pub record GivesAnew (fs fs' : Files) : Type 0 where
  pub next : fs.next ≤ fs'.next
  pub numbers : (n : FileNumber) → IsSome (file_at fs' n) → IsSome (file_at fs n) ⊎ (fs.next ≤ n)
  pub cookies : (n : FileNumber) → IsDirectory fs n → IsDirectory fs' n
      → (listing fs n).next ≤ (listing fs' n).next
  pub entries : (n : FileNumber) (name : Name) (k : FileNumber) (c : Cookie) → IsDirectory fs n
      → directory_entries fs' n name ≡ Some (k, c)
      → (directory_entries fs n name ≡ Some (k, c)) ⊎ ((listing fs n).next ≤ c)

-- a tree follows in which numbers and cookies are given anew, and no limit is passed that was not
pub record Follows (fs fs' : Files) : Type 0 where
  pub tree : IsFileTree fs'
  pub anew : GivesAnew fs fs'
  pub room : IsTrue (has_room fs) → IsTrue (has_room fs')
