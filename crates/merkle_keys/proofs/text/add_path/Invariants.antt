use Rattle.std.proofs.Common.{◌≡◌, ◌++◌, take}
use Rattle.std.specs.List.{flat_map}
use Rattle.xdr.specs.Item.{fixed, spelling}
use Rattle.merkle_keys.proofs.text.add_path.Given as goal

abbrev pub invariant-loop-hash : goal.invariant-loop-hash
invariant-loop-hash l =
    l.out.items ≡ l.initial.out.items ++ flat_map (spelling (fixed 32)) (take l.hash-index l.path)
