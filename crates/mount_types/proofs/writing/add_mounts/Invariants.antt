use Rattle.std.proofs.Common.{◌≡◌, ◌++◌, take}
use Rattle.std.specs.List.{flat_map}
use Rattle.nfs_items.specs.xdr.Item.{word, spelling}
use Rattle.mount_types.specs.Items.{mount}
use Rattle.mount_types.proofs.writing.add_mounts.Given as goal

abbrev pub invariant-loop-host : goal.invariant-loop-host
invariant-loop-host l =
    l.out.items ≡ l.initial.out.items ++ flat_map
    (λ h. spelling word 1 ++ spelling mount (h.items, l.directory)) (take l.host-index l.hosts)
