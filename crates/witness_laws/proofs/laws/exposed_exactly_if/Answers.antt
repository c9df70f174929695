use Rattle.witness_laws.proofs.Exposing.{exposed_why, why_exposed, suspected}
use Rattle.witness_laws.proofs.laws.exposed_exactly_if.Goals as goal

pub returns-clause-exposed : goal.returns-clause-exposed
returns-clause-exposed c = λ w past. (exposed_why w past, why_exposed w past)

pub returns-clause-suspected : goal.returns-clause-suspected
returns-clause-suspected c = suspected
