use Rattle.std.proofs.Common.{ℕ, take}
use Rattle.std.specs.List.{All}
use Rattle.nfs_laws.specs.Sizes.Bounds.{HasWords}
use Rattle.inodes.specs.Inodes.{file_in}
use Rattle.inodes.specs.declared.inode.Inode.{Inode}
use Rattle.checkpoint.proofs.trees.read.have_words.Given as goal

abbrev pub invariant-loop-inode : goal.invariant-loop-inode
invariant-loop-inode l = All (λ (e : ℕ × Inode). HasWords (file_in e.1)) (take l.inode-index l.inodes)
