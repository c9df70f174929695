use Rattle.std.proofs.Common.{◌≡◌, ◌++◌, take}
use Rattle.std.specs.List.{flat_map}
use Rattle.nfs_items.specs.xdr.Item.{word, spelling}
use Rattle.nfs_types.specs.Items.{entry}
use Rattle.nfs_types.specs.Texts.{entry_value}
use Rattle.nfs_types.specs.Results.{entry_of}
use Rattle.nfs_types.proofs.result_texts.writing.add_entries.Given as goal

abbrev pub invariant-loop-e : goal.invariant-loop-e
invariant-loop-e l =
    l.out.items ≡ l.initial.out.items
    ++ flat_map (λ e. spelling word 1 ++ spelling entry (entry_value (entry_of e))) (take l.e-index l.entries)
