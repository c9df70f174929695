use Rattle.std.proofs.Common.{◌≡◌, ◌+◌, ◌≤◌, length}
use Rattle.nfs_spec.specs.fs_spec.Maxima.{max_files}
use Rattle.inode_table.specs.tree_rules.Listed.{files_in}
use Rattle.file_tree.specs.KeptDigests.{count_missing}
use Rattle.file_tree.proofs.digests.FileDigests.count_missing.Given as goal

-- with those that are missing of the files that are left, all that are missing
abbrev pub invariant-loop-number : goal.invariant-loop-number
invariant-loop-number l = record {
  counted : l.count + count_missing l.self (files_in l.number-iterator) ≡ count_missing l.self
      (files_in l.fn.inodes);
  few : l.count + length l.number-iterator ≤ max_files;
}
