use Rattle.std.proofs.Common.{◌≡◌, ◌≤◌, ℕ, take}
use Rattle.std.specs.Prelude.{count_by}
use Rattle.nfs_count_laws.specs.nfs_spec.FileAttributes.{is_directory_at}
use Rattle.tree_rules.specs.inodes.Inodes.{files_of}
use Rattle.inode_table.proofs.links.links.count_subdirectories.Given as goal

abbrev pub invariant-loop-at : goal.invariant-loop-at
invariant-loop-at l = record {
  counted : (fsid next : ℕ) → l.count ≡ count_by (λ e. is_directory_at (files_of fsid next l.inodes) e.1.0)
      (take l.at l.listing.entries);
  few : l.count ≤ l.at;
}
