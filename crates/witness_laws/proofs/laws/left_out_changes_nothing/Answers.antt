use Rattle.witness_laws.proofs.LeftOut.{left_out, want_changes, taken}
use Rattle.witness_laws.proofs.laws.left_out_changes_nothing.Goals as goal

pub returns-clause-out : goal.returns-clause-out
returns-clause-out c = left_out

pub returns-clause-want : goal.returns-clause-want
returns-clause-want c = want_changes

pub returns-clause-others : goal.returns-clause-others
returns-clause-others c = taken
