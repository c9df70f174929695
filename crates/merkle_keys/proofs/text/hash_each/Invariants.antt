use Rattle.std.proofs.Common.{ℕ, ◌++◌, List, take}
use Rattle.std.specs.List.{flat_map}
use Rattle.lamport.specs.sha256_lanes.OneMessage.{HoldsMessage}
use Rattle.xdr.specs.Item.{fixed, spelling}
use Rattle.merkle_keys.proofs.text.hash_each.Given as goal

abbrev pub invariant-loop-hash : goal.invariant-loop-hash
invariant-loop-hash l = (front : List ℕ) → HoldsMessage l.initial.text front →
    HoldsMessage l.text (front ++ flat_map (spelling (fixed 32)) (take l.hash-index l.path))
