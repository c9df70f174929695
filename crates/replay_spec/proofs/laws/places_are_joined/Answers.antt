use Rattle.replay_spec.proofs.Places.{places_joined, places_paired}
use Rattle.replay_spec.proofs.laws.places_are_joined.Goals as goal

pub returns-clause-joined : goal.returns-clause-joined
returns-clause-joined c = places_joined

pub returns-clause-pairs : goal.returns-clause-pairs
returns-clause-pairs c = places_paired
