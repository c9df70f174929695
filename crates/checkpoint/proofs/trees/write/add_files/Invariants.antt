use Rattle.std.proofs.Common.{ℕ}
use Rattle.std.specs.List.{AllByRecursion}
use Rattle.inodes.specs.Inodes.{file_in}
use Rattle.inodes.specs.declared.inode.Inode.{Inode}
use Rattle.state_machine.specs.file_texts.Bounds.{IsWritable}
use Rattle.state_spec.specs.server_spec.FileItems.{file_item, file_value}
use Rattle.state_machine.proofs.file_texts.Arrays.{AddsRest}
use Rattle.checkpoint.proofs.trees.write.add_files.Given as goal

abbrev pub invariant-loop-number : goal.invariant-loop-number
invariant-loop-number l = record {
  added : AddsRest file_item (λ (e : ℕ × Inode). file_value (e.0, file_in e.1)) l.fn.inodes l.number-iterator
      l.initial.out.items l.out.items;
  writable : AllByRecursion (λ (e : ℕ × Inode). IsWritable (file_in e.1).body) l.number-iterator;
}
