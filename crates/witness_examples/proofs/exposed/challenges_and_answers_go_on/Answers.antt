use Rattle.std.proofs.Common.{rules, refl}
use Rattle.authenticator.proofs.Signed.{list_same}
use Rattle.secure_log.specs.LogEntries.Chain.{zeros}
use Rattle.witness_spec.specs.Events.{ItsIndication}
use Rattle.witness_spec.specs.Replies.{Told, Exposed}
use Rattle.witness_spec.specs.Steps.{Ask}
use Rattle.witness_examples.specs.Worked.{node_five, read_hash}
use Rattle.witness_examples.specs.Exposed.{exposed_answered}
use Rattle.witness_examples.proofs.Telling.{told}
use Rattle.witness_examples.proofs.exposed.challenges_and_answers_go_on.Goals as goal

pub returns-clause-exposed : goal.returns-clause-exposed
returns-clause-exposed c = record {
  steps = search rules;
  next = told node_five exposed_answered (Ask ItsIndication) (Told Exposed) (λ x. x)
      (rw (list_same zeros zeros refl, list_same read_hash read_hash refl) refl);
}
