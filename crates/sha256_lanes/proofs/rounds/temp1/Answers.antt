use Rattle.std.proofs.Common.{refl}
use Rattle.sha256_lanes.proofs.rounds.temp1.Goals as goal

-- the sum is T_1 of the standard
pub returns : goal.returns
returns c = rw (c.big_sigma1.ensures, c.ch.ensures) refl
