use Rattle.witness_laws.proofs.OwnSteps.{own_owed}
use Rattle.witness_laws.proofs.Checked.{own_checked}
use Rattle.witness_laws.proofs.OfEvidence.Told.{told}
use Rattle.witness_laws.proofs.OfEvidence.Taken.{audited_of}
use Rattle.witness_laws.proofs.evidence.laws.audited_logs_are_honest.Goals as goal
use Rattle.witness_spec.specs.Histories.{own_of}

-- what is told of a node that isn't exposed has an honest log
pub returns : goal.returns
returns c = λ g w history is from h not.
    audited_of w (own_of w history)
    (told w (own_of w history) is (own_owed g w is from history h) (own_checked g w is from history h)) not
