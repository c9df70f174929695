use Rattle.std.proofs.Common.{sym, subst}
use Rattle.secure_log.specs.LogEntries.Chain.{without_gaps}
use Rattle.witness_spec.specs.Premises.{NoCollisionWith, Unforged}
use Rattle.witness_examples.specs.Signed.Served.{served}
use Rattle.witness_examples.proofs.OfSigned.Serving.{roster, served_log, served_honest, own_all}
use Rattle.witness_examples.proofs.OfSigned.Serving.{unforged}
use Rattle.witness_examples.proofs.OfSigned.ServedTexts.{unlike}
use Rattle.witness_examples.proofs.signed.answers.premises_of_answers_are_possible.Goals as goal

pub returns-clause-log : goal.returns-clause-log
returns-clause-log c = served_log

pub returns-clause-honest : goal.returns-clause-honest
returns-clause-honest c = λ secret. served_honest secret c.honest_servers_replay.ensures.log

pub returns-clause-unforged : goal.returns-clause-unforged
returns-clause-unforged c = λ secret.
    subst (Unforged (roster secret) (without_gaps served)) (sym (own_all secret)) (unforged secret)

pub returns-clause-unlike : goal.returns-clause-unlike
returns-clause-unlike c = λ secret states.
    subst (NoCollisionWith (roster secret) (without_gaps served) states) (sym (own_all secret))
    (unlike secret states)
