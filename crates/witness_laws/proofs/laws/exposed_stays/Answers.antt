use Rattle.witness_laws.proofs.Exposing as proof
use Rattle.witness_laws.proofs.laws.exposed_stays.Goals as goal

pub returns-clause-fault : goal.returns-clause-fault
returns-clause-fault c = proof.fault_stays

pub returns-clause-any : goal.returns-clause-any
returns-clause-any c = proof.exposed_stays
