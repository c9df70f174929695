use Rattle.evidence_spec.proofs.Accepted.{accepted_proves}
use Rattle.evidence_spec.proofs.laws.accepted_evidence_proves.Goals as goal

pub returns : goal.returns
returns c = λ ms e fits accepts.
    accepted_proves c.honest_states_are_spelled.ensures ms e.node e.charge fits accepts.0 accepts.1
