-- Inodes that come from outside, and those of a table, as files by rising number.
-- Serves: `InodeTable::of_inodes`, `InodeTable::inodes`.
use Rattle.std.proofs.Common.{◌≡◌, ℕ, List, get_or, sym, subst}
use Rattle.std.specs.List.{All}
use Rattle.std.specs.List.Sorted.{IsStrictlySortedBy}
use Rattle.std.specs.Map.{keys_of}
use Rattle.std.specs.Ordering.{nat_cmp}
use Rattle.std.specs.FinMap as finite
use Rattle.std.proofs.lemmas.Map.Keys.{below_from_sorted}
use Rattle.fs_spec.specs.Trees.{IsBody, IsFile, IsFileTree}
use Rattle.tree_rules.specs.FileRules.Rules.{AreRising, numbers_of}
use Rattle.tree_rules.proofs.OfFileRules.Listed.{entries_listed, holds_at}
use Rattle.tree_rules.proofs.OfFileRules.Decided.{tree_files}
use Rattle.tree_rules.specs.inodes.Inodes.{file_in, files_of}
use Rattle.tree_rules.specs.inodes.declared.inode.Inode.{Inode}
use Rattle.tree_rules.specs.Listed.{files_in}
use Rattle.tree_rules.proofs.Seen.{at_inode, same_numbers}

-- of a tree each body is within its limit
pub bodies : (fsid next : ℕ) (inodes : List (ℕ × Inode)) → AreRising (numbers_of inodes)
    → IsFileTree (files_of fsid next inodes) → All (λ (e : ℕ × Inode). IsBody (file_in e.1).body) inodes
bodies fsid next inodes up tree = λ k d h.
    let e = get_or inodes k d in
    let files = tree_files fsid next (files_in inodes) (subst AreRising (same_numbers inodes) up) tree in
    (holds_at (files_in inodes) (λ e. IsFile e.1) files.files k (e.0, file_in e.1)
    (at_inode inodes k d h)).body

-- the entries of a map's files are its inodes' in their order
pub in_order : (fsid next : ℕ) (inodes : List (ℕ × Inode)) → IsStrictlySortedBy nat_cmp (keys_of inodes)
    → files_in inodes ≡ finite.entries (files_of fsid next inodes).files
in_order fsid next inodes sorted =
    let up : AreRising (numbers_of inodes) =
    λ i j lt h. below_from_sorted (numbers_of inodes) i j 0 sorted lt h in
    sym (entries_listed (files_in inodes) (subst AreRising (same_numbers inodes) up))
