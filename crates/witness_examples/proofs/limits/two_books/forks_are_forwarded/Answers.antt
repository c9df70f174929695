use Rattle.std.proofs.Common.{sym, ap, ◌∙◌, cond, [], ◌∷◌}
use Rattle.std.proofs.lemmas.Bool.{true≢false}
use Rattle.authenticator.proofs.Signed.{list_same}
use Rattle.witness_spec.specs.Events.{ItsIndication}
use Rattle.witness_spec.specs.Replies.{Told, Trusted, Exposed}
use Rattle.witness_spec.specs.Steps.{Ask}
use Rattle.witness_spec.specs.Standing.{open_challenges, without_evidence}
use Rattle.witness_examples.specs.Reaching.{watched_in}
use Rattle.witness_examples.specs.Worked.{five}
use Rattle.witness_examples.specs.Limits.Audits.{clients, sent_hash, sender}
use Rattle.witness_examples.specs.Limits.Forwarding.{other_sent_hash, other_sender, state_both, both_audited}
use Rattle.witness_examples.specs.Limits.Forwarding.{one_forwarded}
use Rattle.witness_examples.specs.Limits.Forwarding.{both_forwarded}
use Rattle.witness_examples.proofs.Telling.{told}
use Rattle.witness_examples.proofs.OfLimits.Audits.{hidden, is_waiting, then_forward}
use Rattle.witness_examples.proofs.OfLimits.Digests.{unlike}
use Rattle.witness_examples.proofs.OfLimits.Forwarding.{both_at, quiet_audited, quiet_one, quiet_both}
use Rattle.witness_examples.proofs.limits.two_books.forks_are_forwarded.Goals as goal

pub returns-clause-two : goal.returns-clause-two
returns-clause-two c = λ e. absurd (true≢false (sym (list_same other_sent_hash sent_hash e) ∙ unlike))

pub returns-clause-found : goal.returns-clause-found
returns-clause-found c =
    is_waiting (watched_in clients five) both_audited both_at 2 1 state_both
    (sender ∷ other_sender ∷ []) quiet_audited

pub returns-clause-first : goal.returns-clause-first
returns-clause-first c =
    then_forward (watched_in clients five) both_audited both_at 2 1 state_both
    (sender ∷ other_sender ∷ []) quiet_audited

pub returns-clause-second : goal.returns-clause-second
returns-clause-second c =
    then_forward (watched_in clients five) one_forwarded both_at 2 1 state_both (other_sender ∷ []) quiet_one

pub returns-clause-empty : goal.returns-clause-empty
returns-clause-empty c =
    then_forward (watched_in clients five) both_forwarded both_at 2 1 state_both [] quiet_both

pub returns-clause-trusted : goal.returns-clause-trusted
returns-clause-trusted c = record {
  steps = quiet_both.owed;
  next = told (watched_in clients five) both_forwarded (Ask ItsIndication) (Told Trusted) (λ x. x)
      (ap (λ b. Told (cond b Exposed (without_evidence (open_challenges both_forwarded))))
      (hidden (watched_in clients five) both_forwarded both_at 2 1 state_both [] quiet_both));
}
