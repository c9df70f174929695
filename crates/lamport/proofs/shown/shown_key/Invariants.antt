use Rattle.sha256_lanes.specs.OneMessage.{HoldsMessage}
use Rattle.lamport.specs.Lamport.{shown_hash}
use Rattle.lamport.proofs.LeafTexts.{leaf_front}
use Rattle.lamport.proofs.shown.shown_key.Given as goal

abbrev pub invariant-loop-place : goal.invariant-loop-place
invariant-loop-place l = HoldsMessage l.text (leaf_front (shown_hash l.digest l.shown l.other) l.place)
