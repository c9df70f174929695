use Rattle.witness_laws.proofs.OwnSteps.{own_owed}
use Rattle.witness_laws.proofs.Checked.{own_checked}
use Rattle.witness_laws.proofs.OfEvidence.Told.{told, there_where_exposed}
use Rattle.witness_laws.proofs.evidence.laws.evidence_where_exposed.Goals as goal
use Rattle.witness_spec.specs.Histories.{own_of}

-- by what is told of evidence after all own steps
pub returns : goal.returns
returns c = λ g w history is from h.
    there_where_exposed w (own_of w history)
    (told w (own_of w history) is (own_owed g w is from history h) (own_checked g w is from history h))
