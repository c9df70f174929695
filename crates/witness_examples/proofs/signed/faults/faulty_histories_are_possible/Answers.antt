use Rattle.std.proofs.Common.{◌≡◌, inl, refl, sym, subst, []}
use Rattle.witness_spec.specs.Events.{ItsIndication}
use Rattle.witness_spec.specs.Events as events
use Rattle.witness_spec.specs.Replies.{Noted, Asked, Accepted, Job, Filed, Told, Exposed}
use Rattle.witness_spec.specs.Steps.{Learn, Audit, Answer, Begin, File, Ask, Past}
use Rattle.witness_spec.specs.Standing.{indication}
use Rattle.witness_spec.specs.Laws.{HasFaultyFile}
use Rattle.witness_examples.specs.Reaching.{watched_in}
use Rattle.witness_examples.specs.Signed.Audited.{alone, client, client_key}
use Rattle.witness_examples.specs.Signed.Faulty.{back_hash, back_end, back_closed, back_job, back_done}
use Rattle.witness_examples.specs.Signed.Faulty.{back_learned, back_asked, back_answered, back_begun}
use Rattle.witness_examples.specs.Signed.Faulty.{back_filed, learned_back, asked_back, answered_back}
use Rattle.witness_examples.specs.Signed.Faulty.{begun_back, filed_back}
use Rattle.witness_examples.proofs.OfSigned.Auditing.{learned_whose, owed}
use Rattle.witness_examples.proofs.OfSigned.Faulting.{back_is, back_closed_is, back_replayed, back_whose}
use Rattle.witness_examples.proofs.OfSigned.Faulting.{own_learned_back, own_asked_back, own_answered_back}
use Rattle.witness_examples.proofs.OfSigned.Faulting.{own_begun_back, own_filed_back, own_all_back}
use Rattle.witness_examples.proofs.OfSigned.Faulting.{is_exposed}
use Rattle.witness_examples.proofs.OfSigned.Faulting.{is_faulty}
use Rattle.witness_examples.proofs.signed.faults.faulty_histories_are_possible.Goals as goal

pub returns-clause-own_steps : goal.returns-clause-own_steps
returns-clause-own_steps c = own_all_back

pub returns-clause-faulty : goal.returns-clause-faulty
returns-clause-faulty c = λ secret.
    subst (HasFaultyFile (watched_in (alone secret) (client secret))) (sym (own_all_back secret))
    (is_faulty secret)

pub returns-clause-exposed : goal.returns-clause-exposed
returns-clause-exposed c = λ secret.
    subst (λ (x : Past). indication (watched_in (alone secret) (client secret)) x ≡ Exposed)
    (sym (own_all_back secret)) (is_exposed secret)

pub returns-clause-history : goal.returns-clause-history
returns-clause-history c = λ secret.
    let steps = c.a_faulty_log_is_audited.ensures in (
      tt,
      inl (owed secret (back_filed secret) (filed_back secret) (events.Ask 5 ItsIndication)
          (Ask ItsIndication)
          (Told Exposed) (own_filed_back secret) refl (steps.exposed secret)),
      (
        (back_closed_is secret, back_replayed secret),
        inl (owed secret (back_begun secret) (begun_back secret) (events.File (back_done secret))
            (File (back_done secret)) Filed (own_begun_back secret) refl (steps.filed secret)),
        (
          tt,
          inl (owed secret (back_answered secret) (answered_back secret) (events.Begin 5) Begin
              (Job (back_job secret)) (own_answered_back secret) refl (steps.begun secret)),
          (
            back_closed_is secret,
            inl (owed secret (back_asked secret) (asked_back secret) (events.Answer (back_closed secret))
                (Answer (back_closed secret)) Accepted (own_asked_back secret) (back_whose secret)
                (steps.accepted secret)),
            (
              tt,
              inl (owed secret (back_learned secret) (learned_back secret) (events.Audit 5) Audit (Asked 1 2)
                  (own_learned_back secret) refl (steps.asked secret)),
              (
                back_is secret,
                inl (owed secret [] [] (events.Learn (back_end secret) (client_key secret))
                    (Learn (back_end secret)) Noted refl (learned_whose secret 0 2 back_hash)
                    (steps.learned secret)),
                tt,
              ),
            ),
          ),
        ),
      ),
    )
