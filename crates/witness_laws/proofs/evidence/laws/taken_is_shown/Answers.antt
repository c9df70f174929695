use Rattle.witness_laws.proofs.OwnSteps.{own_owed}
use Rattle.witness_laws.proofs.OfEvidence.Taken.{taken_where_not_exposed}
use Rattle.witness_laws.proofs.evidence.laws.taken_is_shown.Goals as goal
use Rattle.witness_spec.specs.Histories.{own_of}

-- each authenticator that was taken was shown
pub returns : goal.returns
returns c = λ g w history a p is from h not i t.
    taken_where_not_exposed w (own_of w history) a p (own_owed g w is from history h) not i t
