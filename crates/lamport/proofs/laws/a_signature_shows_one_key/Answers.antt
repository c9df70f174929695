use Rattle.lamport.proofs.ShownKeys.{signature_shows, one_leaf_hash}
use Rattle.lamport.proofs.laws.a_signature_shows_one_key.Goals as goal

pub returns-clause-shown : goal.returns-clause-shown
returns-clause-shown c = signature_shows

pub returns-clause-one : goal.returns-clause-one
returns-clause-one c digest shown other hash h =
    one_leaf_hash digest shown other _ _ h (signature_shows digest shown other)
