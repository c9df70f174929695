-- What a table keeps: a tree within its limits, and beside it what counting over the files gives.
use Rattle.std.specs.Prelude.{ℕ, List}
use Rattle.nfs_count_laws.specs.Counted.{IsKept}
use Rattle.tree_rules.specs.inodes.declared.inode.Inode.{Inode}
use Rattle.tree_rules.specs.inodes.Inodes.{files_of, links_at, above_at}

-- by the server's number, the next number, the entries and blocks in all, and the inodes
abbrev pub AreKept : ℕ → ℕ → ℕ → ℕ → List (ℕ × Inode) → Type 0
AreKept fsid next entries blocks inodes =
    IsKept (files_of fsid next inodes) (links_at inodes) (above_at inodes) entries blocks
