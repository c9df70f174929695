use Rattle.std.proofs.Common.{inl, refl, arith, sym, List, ℕ, []}
use Rattle.witness_spec.specs.Events.{ItsIndication}
use Rattle.witness_spec.specs.Events as events
use Rattle.witness_spec.specs.Replies.{Noted, Asked, Accepted, Job, Filed, Told, Trusted}
use Rattle.witness_spec.specs.Starting.{Beginning, from_the_first}
use Rattle.witness_spec.specs.Steps.{Learn, Audit, Answer, Begin, File, Ask}
use Rattle.witness_examples.specs.Signed.Served.{server_key, served_end, served_closed, served_job}
use Rattle.witness_examples.specs.Signed.Served.{server, server_and_caller, served_done}
use Rattle.witness_examples.specs.Signed.Served.{served_learned, served_asked, served_answered, served_begun}
use Rattle.witness_examples.specs.Signed.Served.{served_filed, learned_served, asked_served, answered_served}
use Rattle.witness_examples.specs.Signed.Served.{begun_served, filed_served}
use Rattle.witness_examples.proofs.OfSigned.Signing.{root_length}
use Rattle.witness_examples.proofs.OfSigned.Showing.{owed_to}
use Rattle.witness_examples.proofs.OfSigned.Serving.{caller_root_length, served_sound, learned_is}
use Rattle.witness_examples.proofs.OfSigned.Serving.{closed_is, learned_whose, answered_whose, own_learned}
use Rattle.witness_examples.proofs.OfSigned.Serving.{own_asked, own_answered, own_begun, own_filed, own_all}
use Rattle.witness_examples.proofs.signed.answers.histories_of_answers_are_possible.Goals as goal

-- what the witness begins with: the roster, and no bases
abbrev both : List ℕ → Beginning
both secret = from_the_first (server_and_caller secret)

pub returns-clause-roster : goal.returns-clause-roster
returns-clause-roster c = λ secret. (
  (
    omega arith,
    omega arith,
    (
      ((omega arith, refl), ((omega arith, refl), (root_length secret, (omega arith, refl)))),
      (((omega arith, refl), ((omega arith, refl), (caller_root_length, (omega arith, refl)))), tt),
    ),
  ),
  refl,
)

pub returns-clause-member : goal.returns-clause-member
returns-clause-member c = λ secret. refl

pub returns-clause-own_steps : goal.returns-clause-own_steps
returns-clause-own_steps c = own_all

pub returns-clause-history : goal.returns-clause-history
returns-clause-history c = λ secret.
    let steps = c.a_server_that_answered_is_audited.ensures in (
      tt,
      inl (owed_to (both secret) (server secret) (served_filed secret) (filed_served secret)
          (events.Ask 5 ItsIndication) (Ask ItsIndication) (Told Trusted) (own_filed secret) refl (steps.trusted secret)),
      (
        (
          closed_is secret,
          sym (served_sound secret c.sound_exactly_if.ensures
              c.honest_servers_replay.ensures.log),
        ),
        inl (owed_to (both secret) (server secret) (served_begun secret) (begun_served secret)
            (events.File (served_done secret)) (File (served_done secret)) Filed (own_begun secret) refl
            (steps.filed secret)),
        (
          tt,
          inl (owed_to (both secret) (server secret) (served_answered secret) (answered_served secret)
              (events.Begin 5) Begin
              (Job (served_job secret)) (own_answered secret) refl (steps.begun secret)),
          (
            closed_is secret,
            inl (owed_to (both secret) (server secret) (served_asked secret) (asked_served secret)
                (events.Answer (served_closed secret)) (Answer (served_closed secret)) Accepted
                (own_asked secret) (answered_whose secret) (steps.accepted secret)),
            (
              tt,
              inl (owed_to (both secret) (server secret) (served_learned secret) (learned_served secret)
                  (events.Audit 5) Audit
                  (Asked 1 3) (own_learned secret) refl (steps.asked secret)),
              (
                learned_is secret,
                inl (owed_to (both secret) (server secret) [] []
                    (events.Learn (served_end secret) (server_key secret)) (Learn (served_end secret)) Noted refl (learned_whose secret) (steps.learned secret)),
                tt,
              ),
            ),
          ),
        ),
      ),
    )
