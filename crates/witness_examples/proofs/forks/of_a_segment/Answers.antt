use Rattle.std.proofs.Common.{rules, refl}
use Rattle.authenticator.proofs.Signed.{list_same}
use Rattle.secure_log.specs.LogEntries.Chain.{zeros, logged_link}
use Rattle.secure_log.specs.declared.log_entries.entry.Entry.TheVariants.{Clock}
use Rattle.replay_spec.specs.Stepping.{step}
use Rattle.replay_spec.specs.LogLaws.HonestServers.{next_logged}
use Rattle.witness_spec.specs.Events.{ItsIndication, ItsEvidence}
use Rattle.witness_spec.specs.Replies.{Told, Exposed}
use Rattle.witness_spec.specs.Steps.{Ask}
use Rattle.witness_examples.specs.Worked.{node_five, read_hash}
use Rattle.witness_examples.specs.Forks.{two_segment, segment_forked, audited_forked}
use Rattle.witness_examples.proofs.Telling.{told}
use Rattle.witness_examples.proofs.Hashes.{short_first, short_last}
use Rattle.witness_examples.proofs.forks.of_a_segment.Goals as goal

pub returns-clause-evidence : goal.returns-clause-evidence
returns-clause-evidence c = record {
  steps = search (rules, short_first, short_last);
  next = told node_five segment_forked (Ask ItsEvidence) _ (λ x. x)
      (rw (
        list_same zeros zeros refl,
        list_same two_segment.closing.hash two_segment.closing.hash refl,
        short_first 1 zeros (logged_link 1 (next_logged (Clock 1 0))),
      ) refl);
}

pub returns-clause-exposed : goal.returns-clause-exposed
unfolding step
returns-clause-exposed c = record {
  steps = search (rules, short_first, short_last);
  next = told node_five audited_forked (Ask ItsIndication) (Told Exposed) (λ x. x)
      (rw (
        list_same zeros zeros refl,
        list_same read_hash read_hash refl,
        short_first 1 zeros
            (logged_link 1 (next_logged (Clock 1 0))),
      )
      refl);
}

pub returns-clause-later : goal.returns-clause-later
unfolding step
returns-clause-later c = record {
  steps = search (rules, short_first, short_last);
  next = told node_five audited_forked (Ask ItsEvidence) _ (λ x. x)
      (rw (
        list_same zeros zeros refl,
        list_same read_hash read_hash refl,
        short_first 1 zeros
            (logged_link 1 (next_logged (Clock 1 0))),
      )
      refl);
}
