use Rattle.std.proofs.Common.{◌≡◌, Bool, false, cond, Some, rules, refl, ap₂}
use Rattle.std.specs.Prelude.{option_map}
use Rattle.authenticator.proofs.Signed.{list_same}
use Rattle.secure_log.specs.LogEntries.Chain.{zeros, logged_link}
use Rattle.secure_log.specs.declared.log_entries.entry.Entry.TheVariants.{Clock}
use Rattle.replay_spec.specs.Stepping.{step}
use Rattle.replay_spec.specs.LogLaws.HonestServers.{next_logged}
use Rattle.witness_spec.specs.Events.{ItsIndication, ItsEvidence}
use Rattle.witness_spec.specs.evidence_spec.Showing.{versioned_showing}
use Rattle.witness_spec.specs.Replies.{Told, EvidenceIs, Accepted, Exposed}
use Rattle.witness_spec.specs.Steps.{Answer, Ask}
use Rattle.witness_spec.specs.Standing.{is_exposed}
use Rattle.witness_spec.specs.Exposing.{new_charge, evidence}
use Rattle.witness_examples.specs.Worked.{node_five, read_hash, segment}
use Rattle.witness_examples.specs.Forks.{forked, later_segment, later_closed, later_wanted, opening_forked}
use Rattle.witness_examples.proofs.Telling.{told}
use Rattle.witness_examples.proofs.Hashes.{short_first, short_last}
use Rattle.witness_examples.proofs.forks.of_an_opening.Goals as goal

pub returns-clause-exposed : goal.returns-clause-exposed
unfolding step
returns-clause-exposed c = record {
  steps = search (rules, short_first, short_last);
  next = told node_five opening_forked (Ask ItsIndication) (Told Exposed) (λ x. x)
      (rw (
        list_same zeros zeros refl,
        list_same read_hash read_hash refl,
        list_same later_segment.closing.hash later_segment.closing.hash refl,
        short_first 1 zeros (logged_link 1 (next_logged (Clock 1 0))),
      ) refl);
}

not_yet : is_exposed node_five later_wanted ≡ false
unfolding step
not_yet =
    rw (list_same zeros zeros refl, list_same read_hash read_hash refl)
    (rw (list_same zeros zeros refl, list_same read_hash read_hash refl) refl)

charged : new_charge node_five later_wanted (Answer later_closed) Accepted
    ≡ Some (forked 1 (versioned_showing segment) (Some (versioned_showing later_segment))).charge
unfolding step
charged =
    rw (
      list_same zeros zeros refl,
      list_same read_hash read_hash refl,
      short_first 1 zeros (logged_link 1 (next_logged (Clock 1 0))),
    )
    (rw (list_same zeros zeros refl, list_same read_hash read_hash refl) refl)

pub returns-clause-evidence : goal.returns-clause-evidence
unfolding step
returns-clause-evidence c = record {
  steps = search (rules, short_first, short_last);
  next = told node_five opening_forked (Ask ItsEvidence) _ (λ x. x)
      (ap₂ (λ (b : Bool) g. EvidenceIs (cond b (evidence node_five later_wanted)
      (option_map (λ g. record { node = 5; charge = g }) g))) not_yet charged);
}

pub returns-clause-accepted : goal.returns-clause-accepted
unfolding step
returns-clause-accepted c = record { steps = search (rules, short_first, short_last); next = search rules }
