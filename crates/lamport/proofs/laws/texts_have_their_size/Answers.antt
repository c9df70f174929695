use Rattle.lamport.proofs.ShownKeys.{length-shown_secrets, length-other_hashes}
use Rattle.lamport.proofs.laws.texts_have_their_size.Goals as goal

pub returns-clause-shown : goal.returns-clause-shown
returns-clause-shown c = length-shown_secrets

pub returns-clause-other : goal.returns-clause-other
returns-clause-other c = length-other_hashes
