use Rattle.std.proofs.Common.{inl, refl, []}
use Rattle.witness_spec.specs.Events.{ItsIndication}
use Rattle.witness_spec.specs.Events as events
use Rattle.witness_spec.specs.Replies.{Accepted, Asked, Filed, Job, Noted, Told, Trusted}
use Rattle.witness_spec.specs.Steps.{Answer, Ask, Audit, Begin, File, Learn}
use Rattle.witness_examples.specs.Signed.Audited.{client_key}
use Rattle.witness_examples.specs.Signed.Based.{later_hash, later_end, later_closed, later_job, later_done}
use Rattle.witness_examples.specs.Signed.Based.{later_learned, later_asked, later_answered, later_begun}
use Rattle.witness_examples.specs.Signed.Based.{later_filed, learned_later, asked_later, answered_later}
use Rattle.witness_examples.specs.Signed.Based.{begun_later, filed_later}
use Rattle.witness_examples.proofs.OfSigned.Basing.{answered_whose, closed_is, learned_is, owed, own_all}
use Rattle.witness_examples.proofs.OfSigned.Basing.{own_answered, own_asked, own_begun, own_filed, own_learned}
use Rattle.witness_examples.proofs.OfSigned.Basing.{replayed}
use Rattle.witness_examples.proofs.OfSigned.Auditing.{learned_whose}
use Rattle.witness_examples.proofs.signed.bases.histories_from_bases_are_possible.Goals as goal

pub returns-clause-own_steps : goal.returns-clause-own_steps
returns-clause-own_steps c = own_all

pub returns-clause-history : goal.returns-clause-history
returns-clause-history c = λ secret.
    let steps = c.a_log_is_audited_from_a_base.ensures in (
      tt,
      inl (owed secret (later_filed secret) (filed_later secret) (events.Ask 5 ItsIndication)
          (Ask ItsIndication) (Told Trusted) (own_filed secret) refl (steps.trusted secret)),
      (
        (closed_is secret, replayed secret),
        inl (owed secret (later_begun secret) (begun_later secret) (events.File (later_done secret))
            (File (later_done secret)) Filed (own_begun secret) refl (steps.filed secret)),
        (
          tt,
          inl (owed secret (later_answered secret) (answered_later secret) (events.Begin 5) Begin
              (Job (later_job secret)) (own_answered secret) refl (steps.begun secret)),
          (
            closed_is secret,
            inl (owed secret (later_asked secret) (asked_later secret) (events.Answer (later_closed secret))
                (Answer (later_closed secret)) Accepted (own_asked secret) (answered_whose secret)
                (steps.accepted secret)),
            (
              tt,
              inl (owed secret (later_learned secret) (learned_later secret) (events.Audit 5) Audit (Asked 3 3)
                  (own_learned secret) refl (steps.asked secret)),
              (
                learned_is secret,
                inl (owed secret [] [] (events.Learn (later_end secret) (client_key secret))
                    (Learn (later_end secret)) Noted refl (learned_whose secret 0 3 later_hash)
                    (steps.learned secret)),
                tt,
              ),
            ),
          ),
        ),
      ),
    )
