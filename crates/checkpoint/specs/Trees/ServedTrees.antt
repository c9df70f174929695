-- What the files of a server are.
use Rattle.std.specs.Prelude.{ℕ, List, IsTrue}
use Rattle.nfs_items.specs.Terms.{FileNumber}
use Rattle.nfs_laws.specs.fs_spec.Files.{File}
use Rattle.nfs_laws.specs.fs_spec.Trees.{IsFileTree}
use Rattle.nfs_laws.specs.fs_spec.Changes.Limits.{has_room}
use Rattle.file_tree.specs.tree_rules.FileRules.Rules.{AreRising, files_listed, numbers_of}

-- files in a list are those of a server of a number, with the number that the next file gets: by rising
-- number, a tree, and within all limits
pub record IsServedTree (node : ℕ) (next : FileNumber) (es : List (FileNumber × File)) : Type 0 where
  -- each number is above those before it
  pub rising : AreRising (numbers_of es)
  -- they are a tree
  pub tree : IsFileTree (files_listed node next es)
  -- no limit is passed
  pub room : IsTrue (has_room (files_listed node next es))
