use Rattle.std.proofs.Common.{ℕ}
use Rattle.std.specs.List.{AllByRecursion}
use Rattle.xdr.specs.Item.{fixed}
use Rattle.inodes.specs.Inodes.{file_in}
use Rattle.inodes.specs.declared.inode.Inode.{Inode}
use Rattle.file_tree.specs.KeptDigests.{IsWritableAt}
use Rattle.state_spec.specs.server_spec.FileItems.{file_digest}
use Rattle.state_machine.proofs.file_texts.Arrays.{AddsRest}
use Rattle.checkpoint.proofs.trees.write.add_digests.Given as goal

abbrev pub invariant-loop-number : goal.invariant-loop-number
invariant-loop-number l = record {
  added : AddsRest (fixed 32) (λ (e : ℕ × Inode). file_digest (e.0, file_in e.1)) l.fn.inodes
      l.number-iterator l.initial.out.items l.out.items;
  writable : AllByRecursion (IsWritableAt l.tree.files) l.number-iterator;
}
