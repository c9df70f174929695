use Rattle.std.proofs.Common.{◌≡◌, length}
use Rattle.merkle_keys.specs.StoredTree.{HoldsFirst}
use Rattle.merkle_keys.proofs.leaves.set_rest.Given as goal

abbrev pub invariant-loop-place : goal.invariant-loop-place
invariant-loop-place l = record {
  size : length l.hashes ≡ length l.initial.hashes;
  set : HoldsFirst l.keys.master l.first l.place l.hashes;
}
