use Rattle.lamport.proofs.ShownKeys.{key_shows}
use Rattle.lamport.proofs.laws.a_key_shows_itself.Goals as goal

-- what a key signs shows its public hashes
pub returns : goal.returns
returns c = key_shows
