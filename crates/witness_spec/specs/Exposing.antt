-- The evidence against a node: that of the first step that exposes it.
use Rattle.std.specs.Prelude.{ℕ, ◌+◌, ◌==◌, ◌&&◌, not, is_some, nat_le, List, [], ◌∷◌, ◌++◌, find}
use Rattle.std.specs.Prelude.{Option, Some, None, option_map, option_and_then, if◌then◌else◌}
use Rattle.authenticator.specs.declared.authenticator.Authenticator.{Authenticator}
use Rattle.authenticator.specs.declared.member.LogVersion.{LogVersion}
use Rattle.secure_log.specs.Versioned.{VersionedParts, ClosedParts}
use Rattle.evidence_spec.specs.replay_spec.Replay.{Verdict, Sound, Fault}
use Rattle.evidence_spec.specs.Showing.{ShowingParts, authenticator_showing, versioned_showing}
use Rattle.evidence_spec.specs.Evidence.{Charge, Fork, Replay, Based, EvidenceParts}
use Rattle.witness_spec.specs.Events.{JobParts}
use Rattle.witness_spec.specs.Replies.{Reply}
use Rattle.witness_spec.specs.Starting.{KnownBase, start_number, start_hash, start_showing}
use Rattle.witness_spec.specs.Watched.{Watched}
use Rattle.witness_spec.specs.Steps.{Step, Past}
use Rattle.witness_spec.specs.Pairs.{Pair, pair_of, first_fork, number_of, first_of, last_of, marks_of}
use Rattle.witness_spec.specs.Done.{noted, accepted, filed}
use Rattle.witness_spec.specs.Standing.{end_of, audited, shown, is_exposed, kept, all_accepted, verdict_on}

-- ---- what showed a mark at a number before

-- the segment that holds a place, from its first number to its last
abbrev pub segment_holding : (number : ℕ) → List VersionedParts → Option VersionedParts
segment_holding number segments =
    find (λ s. nat_le (first_of s) number && nat_le number (last_of s)) segments

-- the showing of an authenticator, if there is one, else of a segment, if there is one
abbrev pub or_segment : LogVersion → Option Authenticator → Option VersionedParts → Option ShowingParts
or_segment v (Some a) segment = Some (authenticator_showing v a)
or_segment v None segment = option_map versioned_showing segment

-- the learned authenticator that is kept at the number, else the accepted segment that holds the place
abbrev pub kept_before : LogVersion → List Authenticator → List VersionedParts → (number : ℕ)
    → Option ShowingParts
kept_before v learned segments number =
    or_segment v (find (λ a. number_of v a == number) learned) (segment_holding number segments)

-- what showed a number before: the base's showing up to the base's number
abbrev pub showing_before : Option KnownBase → LogVersion → List Authenticator → List VersionedParts
    → (number : ℕ) → Option ShowingParts
showing_before base v learned segments number =
    if is_some (start_showing base number) then start_showing base number
    else kept_before v learned segments number

-- ---- the evidence

-- A showing that shows another mark at a number, a hash or that no entry has it, is a fork with what showed one
-- there before; at 0 alone where no base shows it, since every log has zeros there.
abbrev pub fork_of : Option KnownBase → LogVersion → List Authenticator → List VersionedParts
    → (new : ShowingParts) (number : ℕ) → Option Charge
fork_of base v learned segments new number =
    if (number == 0) && not (is_some (start_showing base 0)) then
    Some (Fork (record { log_version = v; at = 0; a = new; b = None }))
    else option_map (λ old. Fork (record { log_version = v; at = number; a = old; b = Some new }))
    (showing_before base v learned segments number)

-- the fork that a new showing makes with what a node showed, at the least number
abbrev pub new_fork : Watched → Past → ShowingParts → List Pair → Option Charge
new_fork w past new pairs =
    option_and_then (fork_of w.base w.member.log_version (kept w past) (all_accepted past) new)
    (first_fork pairs (shown w past))

-- all audited entries and those of a segment, with its closing, from where the audit begins
abbrev pub audited_with : Watched → Past → VersionedParts → VersionedParts
audited_with w past s = record {
  log_version = w.member.log_version;
  node = w.member.node;
  first = start_number w.base + 1;
  opening = start_hash w.base;
  entries = audited w past ++ s.entries;
  closing = s.closing;
}

-- a replay of these entries, from the base where there is one
abbrev pub replay_from : Option KnownBase → VersionedParts → Charge
replay_from None s = Replay s
replay_from (Some b) s = Based b.parts s

-- what a replay's fault is shown by
abbrev pub replay_of : Watched → Past → VersionedParts → Verdict → Option Charge
replay_of w past s (Sound t found) = None
replay_of w past s (Fault fault number) = Some (replay_from w.base (audited_with w past s))

-- the charge that follows from an authenticator noted, a segment accepted or a job filed, where there is one
abbrev pub charge_of : Watched → Past
    → Option Authenticator → Option ClosedParts → Option JobParts → Option Charge
charge_of w past (Some a) segment job =
    new_fork w past (authenticator_showing w.member.log_version a) (pair_of w.member.log_version a ∷ [])
charge_of w past None (Some c) job =
    new_fork w past (versioned_showing c.segment) (marks_of c.segment)
charge_of w past None None (Some j) =
    replay_of w past j.segment.segment (verdict_on w.roster (end_of w past).state j)
charge_of w past None None None = None

-- what a step shows against the node
abbrev pub new_charge : Watched → Past → Step → Reply → Option Charge
new_charge w past step reply =
    charge_of w past (noted step reply) (accepted step reply) (filed step reply)

-- The evidence against the node, if it is exposed: the first that there was.
abbrev pub evidence : Watched → Past → Option EvidenceParts
evidence w [] = None
evidence w (p ∷ past) =
    if is_exposed w past then evidence w past
    else option_map (λ g. record { node = w.member.node; charge = g }) (new_charge w past p.0 p.1)
