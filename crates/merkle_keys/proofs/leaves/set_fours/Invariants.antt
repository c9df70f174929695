use Rattle.std.proofs.Common.{◌≡◌, ◌*◌, length}
use Rattle.merkle_keys.specs.StoredTree.{HoldsFirst}
use Rattle.merkle_keys.proofs.leaves.set_fours.Given as goal

abbrev pub invariant-loop-four : goal.invariant-loop-four
invariant-loop-four l = record {
  size : length l.hashes ≡ length l.initial.hashes;
  set : HoldsFirst l.keys.master l.first (4 * l.four) l.hashes;
}
