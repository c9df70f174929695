use Rattle.std.proofs.Common.{◌*◌}
use Rattle.sha256_lanes.specs.Rows.{HasDigests}
use Rattle.sha256_lanes.proofs.messages.set_fours.Given as goal

abbrev pub invariant-loop-four : goal.invariant-loop-four
invariant-loop-four g l = HasDigests l.messages l.digests (4 * l.four)
