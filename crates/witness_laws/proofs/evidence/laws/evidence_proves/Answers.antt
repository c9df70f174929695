use Rattle.witness_laws.proofs.OwnSteps.{own_owed}
use Rattle.witness_laws.proofs.Checked.{own_checked}
use Rattle.witness_laws.proofs.OfEvidence.Told.{told, charged, proof_of}
use Rattle.witness_laws.proofs.evidence.laws.evidence_proves.Goals as goal
use Rattle.witness_spec.specs.Histories.{own_of}

-- the evidence is a charge that is accepted, and accepted evidence proves
pub returns : goal.returns
returns c = λ g w history e is from h there.
    proof_of w e (λ f fits accepts. c.accepted_evidence_proves.ensures w.roster f fits accepts)
    (charged w (own_of w history) e
    (told w (own_of w history) is (own_owed g w is from history h) (own_checked g w is from history h)) there)
