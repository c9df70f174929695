use Rattle.std.proofs.Common.{rules, refl}
use Rattle.authenticator.proofs.Signed.{list_same}
use Rattle.secure_log.specs.LogEntries.Chain.{zeros}
use Rattle.witness_spec.specs.Events.{ItsIndication, ItsChallenges}
use Rattle.witness_spec.specs.Replies.{Told, Suspected}
use Rattle.witness_spec.specs.Steps.{Ask}
use Rattle.witness_examples.specs.Worked.{node_five}
use Rattle.witness_examples.specs.Answered.{sent_hash, received_hash, one_answered}
use Rattle.witness_examples.proofs.Telling.{told}
use Rattle.witness_examples.proofs.rows.answers_close_challenges.Goals as goal

pub returns-clause-left : goal.returns-clause-left
returns-clause-left c = record {
  steps = search rules;
  next = told node_five one_answered (Ask ItsChallenges) _ (λ x. x)
      (rw (list_same sent_hash sent_hash refl) refl);
}

pub returns-clause-suspected : goal.returns-clause-suspected
returns-clause-suspected c = record {
  steps = search rules;
  next = told node_five one_answered (Ask ItsIndication) (Told Suspected) (λ x. x)
      (rw (
        list_same zeros zeros refl,
        list_same received_hash received_hash refl,
        list_same sent_hash sent_hash refl,
      ) refl);
}
