use Rattle.evidence_spec.proofs.Closed.{one_pair, own_marks}
use Rattle.evidence_spec.proofs.laws.what_is_shown_is_closed.Goals as goal

pub returns-clause-authenticator : goal.returns-clause-authenticator
returns-clause-authenticator c = one_pair

pub returns-clause-marks : goal.returns-clause-marks
returns-clause-marks c = own_marks
