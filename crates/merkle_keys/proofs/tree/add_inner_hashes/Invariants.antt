use Rattle.std.proofs.Common.{◌≡◌, ℕ, ◌+◌, List, length}
use Rattle.merkle_keys.specs.StoredTree.{HoldsLeaves, HoldsTree}
use Rattle.merkle_keys.proofs.tree.add_inner_hashes.Given as goal

abbrev pub invariant-loop-n : goal.invariant-loop-n
invariant-loop-n l = record {
  count : length l.hashes.items ≡ l.leaves + l.n;
  tree : (master : List ℕ) → HoldsLeaves master l.leaves l.initial.hashes.items
      → HoldsTree master l.leaves l.n l.hashes.items;
}
