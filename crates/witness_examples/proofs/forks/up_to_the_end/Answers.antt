use Rattle.std.proofs.Common.{◌≡◌, Bool, true, false, cond, Some, rules, refl, ap, ap₂}
use Rattle.std.specs.Prelude.{◌++◌, filter, nat_lt, option_map}
use Rattle.authenticator.proofs.Signed.{list_same}
use Rattle.authenticator.specs.declared.member.LogVersion.TheVariants.{One}
use Rattle.secure_log.specs.LogEntries.Chain.{Link, zeros, hash_after, logged_link}
use Rattle.secure_log.specs.declared.log_entries.entry.Entry.TheVariants.{Clock}
use Rattle.replay_spec.specs.Stepping.{step}
use Rattle.replay_spec.specs.LogLaws.HonestServers.{next_logged}
use Rattle.witness_spec.specs.evidence_spec.Showing.{authenticator_showing, versioned_showing}
use Rattle.witness_spec.specs.Events.{ItsIndication, ItsEvidence}
use Rattle.witness_spec.specs.Replies.{Noted, Already, Told, EvidenceIs, Exposed}
use Rattle.witness_spec.specs.Steps.{Learn, Ask}
use Rattle.witness_spec.specs.Standing.{end_of, is_exposed, unless_exposed, noted_before, open_challenges}
use Rattle.witness_spec.specs.Standing.{without_evidence}
use Rattle.witness_spec.specs.Exposing.{new_charge, evidence}
use Rattle.witness_spec.specs.Owing.{Owes}
use Rattle.witness_spec.specs.Histories.{AreOwed}
use Rattle.witness_examples.specs.Worked.{node_five, learned, one_hash, read_hash}
use Rattle.witness_examples.specs.Forks.{forked, two_segment, two_filed, below_forked, end_forked}
use Rattle.witness_examples.proofs.Telling.{told}
use Rattle.witness_examples.proofs.Hashes.{short_first, short_last}
use Rattle.witness_examples.proofs.forks.up_to_the_end.Goals as goal

-- the links of both readings
abbrev first_link : Link
first_link = logged_link 1 (next_logged (Clock 1 0))

abbrev second_link : Link
second_link = logged_link 2 (next_logged (Clock 2 0))

not_yet : is_exposed node_five two_filed ≡ false
unfolding step
not_yet =
    rw (list_same zeros zeros refl, list_same two_segment.closing.hash two_segment.closing.hash refl) refl

forks : is_exposed node_five below_forked ≡ true
unfolding step
forks =
    rw (list_same zeros zeros refl, list_same two_segment.closing.hash two_segment.closing.hash refl)
    (rw (short_first 1 zeros first_link) refl)

below_charge : new_charge node_five two_filed (Learn (learned 1 one_hash)) Noted
    ≡ Some (forked 1 (versioned_showing two_segment)
    (Some (authenticator_showing One (learned 1 one_hash)))).charge
unfolding step
below_charge = rw (short_first 1 zeros first_link) refl

end_charge : new_charge node_five two_filed (Learn (learned 2 one_hash)) Noted
    ≡ Some (forked 2 (versioned_showing two_segment)
    (Some (authenticator_showing One (learned 2 one_hash)))).charge
unfolding step
end_charge =
    rw (short_first 1 (hash_after zeros first_link) second_link) refl

all_steps : AreOwed node_five two_filed
unfolding step
all_steps = search (rules, short_first, short_last)

pub returns-clause-same : goal.returns-clause-same
unfolding step
returns-clause-same c = record {
  steps = all_steps;
  next = told node_five two_filed (Learn (learned 1 read_hash)) Already (λ x. x)
      (rw (list_same zeros zeros refl, list_same two_segment.closing.hash two_segment.closing.hash refl)
      (rw (list_same read_hash read_hash refl) refl));
}

below_noted : Owes node_five two_filed (Learn (learned 1 one_hash)) Noted
unfolding step
below_noted = told node_five two_filed (Learn (learned 1 one_hash)) Noted (λ x. x)
    (rw (list_same zeros zeros refl, list_same two_segment.closing.hash two_segment.closing.hash refl)
    (rw (short_first 1 zeros first_link) refl))

end_noted : Owes node_five two_filed (Learn (learned 2 one_hash)) Noted
unfolding step
end_noted = told node_five two_filed (Learn (learned 2 one_hash)) Noted (λ x. x)
    (rw (list_same zeros zeros refl, list_same two_segment.closing.hash two_segment.closing.hash refl)
    (rw (short_first 1 (hash_after zeros first_link) second_link) refl))

pub returns-clause-below : goal.returns-clause-below
returns-clause-below c = record { steps = all_steps; next = below_noted }

pub returns-clause-at : goal.returns-clause-at
returns-clause-at c = record { steps = all_steps; next = end_noted }

pub returns-clause-exposed : goal.returns-clause-exposed
returns-clause-exposed c = record {
  steps = (below_noted, all_steps);
  next = told node_five below_forked (Ask ItsIndication) (Told Exposed) (λ x. x)
      (ap (λ b. Told (cond b Exposed (without_evidence (open_challenges below_forked)))) forks);
}

pub returns-clause-evidence : goal.returns-clause-evidence
returns-clause-evidence c = record {
  steps = (below_noted, all_steps);
  next = told node_five below_forked (Ask ItsEvidence) _ (λ x. x)
      (ap₂ (λ (b : Bool) g. EvidenceIs (cond b (evidence node_five two_filed)
      (option_map (λ g. record { node = 5; charge = g }) g))) not_yet below_charge);
}

pub returns-clause-at_evidence : goal.returns-clause-at_evidence
returns-clause-at_evidence c = record {
  steps = (end_noted, all_steps);
  next = told node_five end_forked (Ask ItsEvidence) _ (λ x. x)
      (ap₂ (λ (b : Bool) g. EvidenceIs (cond b (evidence node_five two_filed)
      (option_map (λ g. record { node = 5; charge = g }) g))) not_yet end_charge);
}

pub returns-clause-unkept : goal.returns-clause-unkept
unfolding step
returns-clause-unkept c =
    ap (λ b. filter (λ a. nat_lt (end_of node_five below_forked).number a.word)
    (unless_exposed b (Some (learned 1 one_hash)) ++ noted_before node_five two_filed)) forks
