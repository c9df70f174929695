use Rattle.evidence_spec.proofs.Nothing.{own_texts, unsigned}
use Rattle.evidence_spec.proofs.OneReading.{reading_proves_nothing}
use Rattle.evidence_spec.proofs.laws.what_proves_nothing.Goals as goal

pub returns-clause-own : goal.returns-clause-own
returns-clause-own c = own_texts

pub returns-clause-unsigned : goal.returns-clause-unsigned
returns-clause-unsigned c = unsigned

pub returns-clause-reading : goal.returns-clause-reading
returns-clause-reading c = reading_proves_nothing
