-- What a file must keep by itself, whatever other files there are.
use Rattle.std.specs.Prelude.{◌<◌, ◌≤◌, List, IsTrue}
use Rattle.std.specs.List.{All}
use Rattle.fs_spec.specs.nfs_items.Terms.{FileNumber}
use Rattle.fs_spec.specs.Listing.{NamedEntry, entry_name}
use Rattle.fs_spec.specs.Names.{is_name}
use Rattle.fs_spec.specs.Files.{Body, File, listing_in}
use Rattle.fs_spec.specs.Trees.{IsBody, IsTime}
use Rattle.tree_rules.specs.FileRules.Rules.{AreRising, numbers_of}

-- a body is within its limit; a directory's cookies rise from 3 to below the next, and its names differ and
-- keep the name rule
pub record IsBodyAlone (b : Body) : Type 0 where
  pub body : IsBody b
  pub names : All (λ (e : NamedEntry). IsTrue (is_name (entry_name e))) (listing_in b).entries

-- so does a file's, whose mode is below 4096 and whose times are times
pub record IsFileAlone (f : File) : Type 0 where
  pub mode : f.mode < 4_096
  pub atime : IsTime f.atime
  pub mtime : IsTime f.mtime
  pub ctime : IsTime f.ctime
  pub body : IsBodyAlone f.body

-- the numbers of files rise, from 1 to below the next, and each file keeps its rules
pub record AreAlone (next : FileNumber) (es : List (FileNumber × File)) : Type 0 where
  -- each number is above those before it
  pub rising : AreRising (numbers_of es)
  -- each is one that was given
  pub numbers : All (λ e. (1 ≤ e.0) × (e.0 < next)) es
  -- each file keeps its rules
  pub files : All (λ e. IsFileAlone e.1) es
