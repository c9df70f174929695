use Rattle.std.proofs.Common.{◌*◌}
use Rattle.sha256_lanes.specs.OneMessage.{HoldsMessage}
use Rattle.lamport.specs.Lamport.{public_hash}
use Rattle.lamport.proofs.LeafTexts.{leaf_front}
use Rattle.lamport.proofs.key.OneTimeKey.leaf_hash.Given as goal

abbrev pub invariant-loop-turn : goal.invariant-loop-turn
invariant-loop-turn l = HoldsMessage l.text (leaf_front (public_hash l.self) (4 * l.turn))
