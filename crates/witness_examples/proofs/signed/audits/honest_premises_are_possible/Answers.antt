use Rattle.std.proofs.Common.{sym, subst}
use Rattle.secure_log.specs.LogEntries.Chain.{without_gaps}
use Rattle.witness_spec.specs.Premises.{NoCollisionWith, Unforged}
use Rattle.witness_examples.specs.Reaching.{watched_in}
use Rattle.witness_examples.specs.Signed.Audited.{readings}
use Rattle.witness_examples.specs.Signed.Audited.{alone, client}
use Rattle.witness_examples.proofs.OfSigned.Auditing.{own_all, reading_honest, unforged, unlike}
use Rattle.witness_examples.proofs.signed.audits.honest_premises_are_possible.Goals as goal

pub returns-clause-honest : goal.returns-clause-honest
returns-clause-honest c = reading_honest

pub returns-clause-unforged : goal.returns-clause-unforged
returns-clause-unforged c = λ secret.
    subst (Unforged (watched_in (alone secret) (client secret)) (without_gaps readings)) (sym (own_all secret))
    (unforged secret)

pub returns-clause-unlike : goal.returns-clause-unlike
returns-clause-unlike c = λ secret states.
    subst (NoCollisionWith (watched_in (alone secret) (client secret)) (without_gaps readings) states)
    (sym (own_all secret)) (unlike secret states)
