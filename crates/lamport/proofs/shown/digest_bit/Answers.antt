use Rattle.std.proofs.lemmas.Nat.{and_mask}
use Rattle.lamport.specs.Lamport.{digest_bit}
use Rattle.lamport.proofs.shown.digest_bit.Goals as goal

-- the last bit of what is shifted is the bit at the place
pub returns : goal.returns
unfolding digest_bit
returns c = rw (and_mask _ 1)
