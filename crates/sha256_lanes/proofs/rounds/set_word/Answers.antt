use Rattle.std.proofs.Common.{refl}
use Rattle.sha256_lanes.proofs.rounds.set_word.Goals as goal

-- the word is the next one of the schedule
pub returns : goal.returns
returns c = rw (c.small_sigma1.ensures, c.small_sigma0.ensures) refl
