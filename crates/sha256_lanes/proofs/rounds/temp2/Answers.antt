use Rattle.std.proofs.Common.{refl}
use Rattle.sha256_lanes.proofs.rounds.temp2.Goals as goal

-- the sum is T_2 of the standard
pub returns : goal.returns
returns c = rw (c.big_sigma0.ensures, c.maj.ensures) refl
