-- Logs that are audited: their texts by their versions, and the words of their entries.
-- Serves: Charge::is_whole, Charge::fits, add_replay, add_plain_replay, add_worded_replay, into_charge,
-- take_charge, take_log, take_worded_log, take_worded_entries, replay_finding.
use Rattle.std.proofs.Common.{◌≡◌, ℕ, List, ◌++◌, refl, ap}
use Rattle.std.proofs.Common.{Result, Ok, Err, subst, ◌∙◌, append_assoc, arith}
use Rattle.std.specs.List.{AllByRecursion}
use Rattle.xdr.specs.Item.{Fits, Value, choice, number_spelling, spelling}
use Rattle.xdr.specs.Writing.{Adds, Writes}
use Rattle.authenticator.specs.declared.member.LogVersion.{LogVersion}
use Rattle.authenticator.specs.declared.member.LogVersion.TheVariants.{One, Two}
use Rattle.authenticator.specs.declared.member.Member.{Member}
use Rattle.secure_log.specs.Versioned.{FitsVersion, VersionedParts, is_whole_in}
use Rattle.secure_log.specs.Versioned.{versioned_value}
use Rattle.secure_log.proofs.OneText as logs
use Rattle.replay.specs.replay_spec.Placed.{HasWord, places_in}
use Rattle.replay.proofs.LoggedPlaces.{segment_words}
use Rattle.evidence_showings.specs.evidence_spec.Evidence.{MAX_AUDITED, charge_item, is_charge}
use Rattle.evidence_showings.specs.evidence_spec.Evidence.{is_whole_charge, replay_charge, replay_item}
use Rattle.challenge.specs.Charges.{LogSaysNoMore}
use Rattle.challenge.specs.Findings.{IsAudited}

-- ---- texts of replays, by the version of the log

-- a replay's charge is whole where its log is
pub whole_replay : (v : LogVersion) (s : VersionedParts)
    → is_whole_charge (replay_charge v s) ≡ is_whole_in v (versioned_value v s)
whole_replay One s = refl
whole_replay Two s = refl

-- each part of it has a spelling where each of its log has
pub fits_replay : (v : LogVersion) (s : VersionedParts) → Fits (replay_item v) (versioned_value v s)
    → Fits (choice is_charge charge_item) (replay_charge v s)
fits_replay One s fits = (omega arith, refl, fits)
fits_replay Two s fits = (omega arith, refl, fits)

-- it is written as its number and then its log, each in turn
pub replay_adds : {E : Type 0} (v : LogVersion) (number : ℕ) (s : VersionedParts) (old first new : List ℕ)
    (r : Result (Unit {0}) E) → s.log_version ≡ v → first ≡ old ++ number_spelling 4 number
    → Writes (replay_item s.log_version) (versioned_value s.log_version s) first r new
    → Adds (number_spelling 4 number ++ spelling (replay_item v) (versioned_value v s)) old r new
replay_adds {E} v number s old first new r is start h =
    by_result r (subst (λ w. Writes (replay_item w) (versioned_value w s) first r new) is h)
  where
    by_result : (r : Result (Unit {0}) E) → Writes (replay_item v) (versioned_value v s) first r new
        → Adds (number_spelling 4 number ++ spelling (replay_item v) (versioned_value v s)) old r new
    by_result (Ok x) h =
        h ∙ ap (λ a. a ++ spelling (replay_item v) (versioned_value v s)) start
        ∙ append_assoc old (number_spelling 4 number) (spelling (replay_item v) (versioned_value v s))
    by_result (Err x) h = (number_spelling 4 number, h ∙ start)

-- one of a log of version 1, as its text's value
pub plain_charge : (s : VersionedParts) → s.log_version ≡ One
    → ◌≡◌ {A = Value (choice is_charge charge_item)} (replay_charge s.log_version s)
    (2, versioned_value One s)
plain_charge s is = ap (λ v. replay_charge v s) is

-- ---- what a log says beyond its text

as_written : (v : LogVersion) (s : VersionedParts) → logs.SaysNoMore v s → LogSaysNoMore v s
as_written One s a = a
as_written Two s a = a

-- a log says no more than its text, since it skips what it may
pub says_no_more : (s : VersionedParts) → FitsVersion MAX_AUDITED s → LogSaysNoMore s.log_version s
says_no_more s fits = as_written s.log_version s (logs.says_no_more MAX_AUDITED s fits)

-- ---- the words of its entries

-- each entry of a closed log has a word
pub closed_words : (ms : List Member) (node : ℕ) (s : VersionedParts) (m : Member) → IsAudited ms node s m
    → FitsVersion MAX_AUDITED s → AllByRecursion HasWord (places_in s)
closed_words ms node s m audited fits = segment_words MAX_AUDITED s audited.closed.ends fits
