use Rattle.witness_book_laws.proofs.Limits.{own_limits, any_limits}
use Rattle.witness_book_laws.proofs.laws.limits_are_kept.Goals as goal

pub returns-clause-own : goal.returns-clause-own
returns-clause-own c = own_limits

pub returns-clause-any : goal.returns-clause-any
returns-clause-any c = any_limits
