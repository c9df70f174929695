use Rattle.witness_laws.proofs.OwnSteps.{own_owed, same_replies, says_same}
use Rattle.witness_laws.proofs.laws.own_steps_alone.Goals as goal
use Rattle.witness_spec.specs.Histories.{own_of}

pub returns-clause-owed : goal.returns-clause-owed
returns-clause-owed c = λ g w history is from h. own_owed g w is from history h

pub returns-clause-alone : goal.returns-clause-alone
returns-clause-alone c = λ g h w one two is from other k l same.
    says_same g h w one two from other
    (same_replies w (own_of w one) (own_of w two) (own_owed g w is from one k)
    (own_owed h w is other two l) same)
