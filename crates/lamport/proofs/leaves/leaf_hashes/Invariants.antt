use Rattle.std.proofs.Common.{ℕ, ◌+◌, ◌<◌}
use Rattle.lamport.specs.Lamport.{public_hash}
use Rattle.lamport.specs.LeafTexts.{HoldsText}
use Rattle.lamport.proofs.LeafTexts.{leaf_front}
use Rattle.lamport.proofs.leaves.leaf_hashes.Given as goal

abbrev pub invariant-loop-place : goal.invariant-loop-place
invariant-loop-place l = (k : ℕ) → k < 4
    → HoldsText l.texts k
    (leaf_front (public_hash (record { master = l.master; leaf = l.first + k })) l.place)
