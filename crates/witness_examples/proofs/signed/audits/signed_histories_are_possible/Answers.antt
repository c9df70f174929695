use Rattle.std.proofs.Common.{inl, refl, arith, []}
use Rattle.witness_spec.specs.Events.{ItsIndication}
use Rattle.witness_spec.specs.Events as events
use Rattle.witness_spec.specs.Replies.{Noted, Asked, Accepted, Job, Filed, Told, Trusted}
use Rattle.witness_spec.specs.Steps.{Learn, Audit, Answer, Begin, File, Ask}
use Rattle.witness_examples.specs.Signed.Audited.{read_hash}
use Rattle.witness_examples.specs.Signed.Audited.{learned_event, asked_event, answered_event, begun_event}
use Rattle.witness_examples.specs.Signed.Audited.{filed_event}
use Rattle.witness_examples.specs.Signed.Audited.{learned_step, asked_step, answered_step, begun_step}
use Rattle.witness_examples.specs.Signed.Audited.{filed_step}
use Rattle.witness_examples.specs.Signed.Audited.{client_key, signed_end, signed_closed, signed_job}
use Rattle.witness_examples.specs.Signed.Audited.{signed_done}
use Rattle.witness_examples.proofs.OfSigned.Signing.{root_length}
use Rattle.witness_examples.proofs.OfSigned.Auditing.{closed_is, replayed, learned_is, learned_whose}
use Rattle.witness_examples.proofs.OfSigned.Auditing.{answered_whose, owed}
use Rattle.witness_examples.proofs.OfSigned.Auditing.{own_learned, own_asked, own_answered, own_begun}
use Rattle.witness_examples.proofs.OfSigned.Auditing.{own_filed, own_all}
use Rattle.witness_examples.proofs.signed.audits.signed_histories_are_possible.Goals as goal

pub returns-clause-roster : goal.returns-clause-roster
returns-clause-roster c = λ secret. (
  (
    omega arith,
    omega arith,
    (((omega arith, refl), ((omega arith, refl), (root_length secret, (omega arith, refl)))), tt),
  ),
  refl,
)

pub returns-clause-own_steps : goal.returns-clause-own_steps
returns-clause-own_steps c = own_all

pub returns-clause-history : goal.returns-clause-history
returns-clause-history c = λ secret.
    let steps = c.a_signed_log_is_audited.ensures in (
      tt,
      inl (owed secret (filed_event secret) (filed_step secret) (events.Ask 5 ItsIndication)
          (Ask ItsIndication)
          (Told Trusted) (own_filed secret) refl (steps.trusted secret)),
      (
        (closed_is secret, replayed secret),
        inl (owed secret (begun_event secret) (begun_step secret) (events.File (signed_done secret))
            (File (signed_done secret)) Filed (own_begun secret) refl (steps.filed secret)),
        (
          tt,
          inl (owed secret (answered_event secret) (answered_step secret) (events.Begin 5) Begin
              (Job (signed_job secret)) (own_answered secret) refl (steps.begun secret)),
          (
            closed_is secret,
            inl (owed secret (asked_event secret) (asked_step secret) (events.Answer (signed_closed secret))
                (Answer (signed_closed secret)) Accepted (own_asked secret) (answered_whose secret)
                (steps.accepted secret)),
            (
              tt,
              inl (owed secret (learned_event secret) (learned_step secret) (events.Audit 5) Audit (Asked 1 1)
                  (own_learned secret) refl (steps.asked secret)),
              (
                learned_is secret,
                inl (owed secret [] [] (events.Learn (signed_end secret) (client_key secret))
                    (Learn (signed_end secret)) Noted refl (learned_whose secret 0 1 read_hash)
                    (steps.learned secret)),
                tt,
              ),
            ),
          ),
        ),
      ),
    )
