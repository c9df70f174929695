-- The segment that was filed sound last, and by which bases books may go on.
use Rattle.std.specs.Prelude.{◌≡◌, ℕ, ◌+◌, ◌-◌, ◌==◌, nat_lt, List, [], ◌∷◌, Option, Some, None, if◌then◌else◌}
use Rattle.challenge.specs.KnownBases as bases
use Rattle.secure_log.specs.LogEntries.Chain.{IsAmong, Logged}
use Rattle.secure_log.specs.Marks.{segment_mark_at}
use Rattle.secure_log.specs.Versioned.{ClosedParts, VersionedParts}
use Rattle.secure_log.specs.declared.log_entries.entry.Entry.{Entry}
use Rattle.secure_log.specs.declared.log_entries.entry.Entry.TheVariants as entries
use Rattle.witness_spec.specs.evidence_spec.Base.{base_marks}
use Rattle.witness_spec.specs.evidence_spec.replay_spec.Replay.{Verdict, Sound, Fault}
use Rattle.witness_spec.specs.state_spec.StateText.{state_digest}
use Rattle.witness_spec.specs.Events.{Event, JobParts}
use Rattle.witness_spec.specs.Events as events
use Rattle.witness_spec.specs.Replies.{Reply, Filed}
use Rattle.witness_spec.specs.Histories.{History, IsHistory, Stands}
use Rattle.witness_books.specs.Books.{BooksParts, beginning_of, parts_in}

-- ---- what was filed

-- the segment that a replay with this verdict found sound
abbrev pub sound_by : JobParts → Verdict → Option ClosedParts
sound_by j (Sound state found) = Some j.segment
sound_by j (Fault fault number) = None

-- the segment that an event files as sound
abbrev pub sound_segment : Event → Option ClosedParts
sound_segment (events.File d) = sound_by d.job d.verdict
sound_segment _ = None

-- the segment that was filed sound last, after an event that may file one, with its reply
abbrev pub last_filed : (before : Option ClosedParts) → (sound : Option ClosedParts) → Reply → Option ClosedParts
last_filed before None reply = before
last_filed before (Some c) Filed = Some c
last_filed before (Some c) _ = before

-- In a history for which the books stand a replay that found this segment sound was filed.
pub record WasFiled (b : BooksParts) (c : ClosedParts) : Type 0 where
  pub history : History
  pub is : IsHistory (beginning_of b) history
  pub stands : Stands (beginning_of b) (parts_in b) history
  pub event : Event
  pub filed : IsAmong (event, Filed) history
  pub sound : sound_segment event ≡ Some c

-- A segment of this node that was filed as sound begins at a number.
pub record BeginsFiled (b : BooksParts) (node first : ℕ) : Type 0 where
  pub segment : ClosedParts
  pub filed : WasFiled b segment
  pub is_of : segment.segment.node ≡ node
  pub begins : segment.segment.first ≡ first

-- ---- the CHECK at a number

-- the digest of a CHECK
abbrev pub digest_of : Entry → Option (List ℕ)
digest_of (entries.Check digest) = Some digest
digest_of _ = None

-- the digest of the CHECK among entries that is so many numbers after those before them
abbrev pub check_after : (left : ℕ) → List Logged → Option (List ℕ)
check_after left [] = None
check_after left (l ∷ ls) =
    if 1 + l.skipped == left then digest_of l.entry
    else if nat_lt left (1 + l.skipped) then None
    else check_after (left - (1 + l.skipped)) ls

-- the digest of the CHECK with a number in a segment
abbrev pub check_at : VersionedParts → (number : ℕ) → Option (List ℕ)
check_at s number = check_after (number - (s.first - 1)) s.entries

-- ---- going on

-- A segment has the hash of a base's CHECK at its number.
pub record HasHash (s : VersionedParts) (k : bases.KnownBase) : Type 0 where
  pub hash : List ℕ
  pub shown : IsAmong (k.at, hash) (base_marks (bases.parts_of k))
  pub same : segment_mark_at s k.at ≡ Some hash

-- The CHECK of a base stands in a segment of its node: at its number, with the digest of its state, and with the hash
-- there.
pub record StandsIn (s : VersionedParts) (k : bases.KnownBase) : Type 0 where
  pub node : s.node ≡ k.showing.node
  pub check : check_at s k.at ≡ Some (state_digest k.state)
  pub hash : HasHash s k

-- Books may go on by a base: its CHECK stands in a segment that they have themselves filed as sound.
pub record GoesOnBy (b : BooksParts) (k : bases.KnownBase) : Type 0 where
  pub segment : ClosedParts
  pub filed : WasFiled b segment
  pub stands : StandsIn segment.segment k
