use Rattle.std.proofs.Common.{refl, subst}
use Rattle.std.specs.Prelude.{◌++◌, []}
use Rattle.replay_spec.specs.HonestLogs.{IsHonestLog}
use Rattle.replay_spec.proofs.Logs.{grows, one_more}
use Rattle.replay_spec.proofs.laws.logs_grow.Goals as goal

pub returns-clause-none : goal.returns-clause-none
returns-clause-none c = λ ms o. record { states = []; honest = tt; last = refl }

pub returns-clause-one : goal.returns-clause-one
returns-clause-one c = one_more

pub returns-clause-more : goal.returns-clause-more
returns-clause-more c = λ ms o s t log more ts h k last.
    subst (IsHonestLog ms o (log ++ more)) last (grows ms o s log more ts h k)
