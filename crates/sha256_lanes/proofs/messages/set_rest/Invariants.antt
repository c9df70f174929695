use Rattle.sha256_lanes.specs.Rows.{HasDigests}
use Rattle.sha256_lanes.proofs.messages.set_rest.Given as goal

abbrev pub invariant-loop-place : goal.invariant-loop-place
invariant-loop-place g l = HasDigests l.messages l.digests l.place
