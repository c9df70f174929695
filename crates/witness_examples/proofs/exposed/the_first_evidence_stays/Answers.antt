use Rattle.std.proofs.Common.{◌≡◌, ◌∷◌, Bool, true, false, cond, Some, rules, refl, ap, ap₂, ◌∙◌}
use Rattle.std.specs.Prelude.{option_map}
use Rattle.authenticator.proofs.Signed.{list_same}
use Rattle.secure_log.specs.LogEntries.Chain.{zeros}
use Rattle.witness_spec.specs.Events.{ItsEvidence}
use Rattle.witness_spec.specs.Replies.{Noted, Filed, EvidenceIs}
use Rattle.witness_spec.specs.Steps.{Learn, File, Ask, Past}
use Rattle.witness_spec.specs.Standing.{is_exposed}
use Rattle.witness_spec.specs.Exposing.{new_charge, evidence}
use Rattle.witness_examples.specs.Worked.{node_five, learned, one_hash, other_hash, read_hash, no_hash}
use Rattle.witness_examples.specs.Worked.{out_one}
use Rattle.witness_examples.specs.Worked.{no_out, exposed_out, done, no_done, fork_at_three}
use Rattle.witness_examples.specs.Exposed.{exposed_filed, no_exposed_out, no_exposed_filed}
use Rattle.witness_examples.proofs.Telling.{told}
use Rattle.witness_examples.proofs.exposed.the_first_evidence_stays.Goals as goal

-- one hash at number 3 was learned while the job was out
abbrev then_one : Past → Past
then_one past = (Learn (learned 3 one_hash), Noted) ∷ past

not_yet : is_exposed node_five (then_one out_one) ≡ false
not_yet =
    rw (list_same zeros zeros refl, list_same read_hash read_hash refl)
    (rw (list_same zeros zeros refl, list_same read_hash read_hash refl) refl)

charged : new_charge node_five (then_one out_one) (Learn (learned 3 other_hash)) Noted
    ≡ Some fork_at_three.charge
charged =
    rw (list_same zeros zeros refl, list_same read_hash read_hash refl)
    (rw (list_same zeros zeros refl, list_same read_hash read_hash refl) refl)

exposes : is_exposed node_five exposed_out ≡ true
exposes =
    rw (list_same zeros zeros refl, list_same read_hash read_hash refl)
    (rw (list_same zeros zeros refl, list_same read_hash read_hash refl) refl)

of_out : evidence node_five exposed_out ≡ Some fork_at_three
of_out = ap₂ (λ (b : Bool) g. cond b (evidence node_five (then_one out_one))
    (option_map (λ g. record { node = 5; charge = g }) g)) not_yet charged

pub returns-clause-evidence : goal.returns-clause-evidence
returns-clause-evidence c = record {
  steps = search rules;
  next = told node_five exposed_filed (Ask ItsEvidence) _ (λ x. x)
      (ap (λ b. EvidenceIs (cond b (evidence node_five exposed_out)
      (option_map (λ g. record { node = 5; charge = g })
      (new_charge node_five exposed_out (File (done 1)) Filed)))) exposes ∙ ap EvidenceIs of_out);
}

not_yet_no : is_exposed node_five (then_one no_out) ≡ false
not_yet_no =
    rw (list_same zeros zeros refl, list_same no_hash no_hash refl)
    (rw (list_same zeros zeros refl, list_same no_hash no_hash refl) refl)

charged_no : new_charge node_five (then_one no_out) (Learn (learned 3 other_hash)) Noted
    ≡ Some fork_at_three.charge
charged_no =
    rw (list_same zeros zeros refl, list_same no_hash no_hash refl)
    (rw (list_same zeros zeros refl, list_same no_hash no_hash refl) refl)

exposes_no : is_exposed node_five no_exposed_out ≡ true
exposes_no =
    rw (list_same zeros zeros refl, list_same no_hash no_hash refl)
    (rw (list_same zeros zeros refl, list_same no_hash no_hash refl) refl)

of_no_out : evidence node_five no_exposed_out ≡ Some fork_at_three
of_no_out = ap₂ (λ (b : Bool) g. cond b (evidence node_five (then_one no_out))
    (option_map (λ g. record { node = 5; charge = g }) g)) not_yet_no charged_no

pub returns-clause-first : goal.returns-clause-first
returns-clause-first c = record {
  steps = search rules;
  next = told node_five no_exposed_filed (Ask ItsEvidence) _ (λ x. x)
      (ap (λ b. EvidenceIs (cond b (evidence node_five no_exposed_out)
      (option_map (λ g. record { node = 5; charge = g })
      (new_charge node_five no_exposed_out (File no_done) Filed)))) exposes_no ∙ ap EvidenceIs of_no_out);
}
