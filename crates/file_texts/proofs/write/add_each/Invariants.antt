use Rattle.std.proofs.Common.{◌≤◌, length}
use Rattle.std.specs.List.{AllByRecursion}
use Rattle.fs_spec.specs.Maxima.{max_name}
use Rattle.fs_spec.specs.Listing.{NamedEntry}
use Rattle.tree_rules.specs.inodes.Directories.Entries.{entries_of}
use Rattle.server_spec.specs.FileItems.{entry_item}
use Rattle.file_texts.specs.Stored.{entry_in}
use Rattle.file_texts.proofs.Arrays.{AddsRest}
use Rattle.file_texts.proofs.write.add_each.Given as goal

abbrev pub invariant-loop-name : goal.invariant-loop-name
invariant-loop-name l = record {
  added : AddsRest entry_item entry_in l.fn.entries l.name-iterator l.initial.out.items l.out.items;
  names : AllByRecursion (λ (e : NamedEntry). length e.0 ≤ max_name) (entries_of l.name-iterator);
}
