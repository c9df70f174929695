-- What holds of evidence: each law is the contract of a function in src/laws.rt.
use Rattle.std.specs.Prelude.{◌≡◌, ℕ, ◌+◌, List, [], ◌∷◌, ◌++◌, flat_map}
use Rattle.std.specs.Prelude.{Option, Some, option_map, IfSome}
use Rattle.std.specs.List.{AllByRecursion}
use Rattle.sha2.specs.Sha256.{sha256}
use Rattle.xdr.specs.Item.{Fits}
use Rattle.replay_spec.specs.authenticator.declared.member.LogVersion.{LogVersion}
use Rattle.replay_spec.specs.authenticator.declared.member.Member.{Member}
use Rattle.replay_spec.specs.authenticator.Numbers.{number_in}
use Rattle.replay_spec.specs.authenticator.declared.member.Kind.TheVariants.{Client}
use Rattle.replay_spec.specs.authenticator.declared.authenticator.Authenticator.{Authenticator}
use Rattle.replay_spec.specs.authenticator.Roster.{member_of}
use Rattle.replay_spec.specs.authenticator.Signed.{IsSignedIn, authenticator_item, authenticator_value}
use Rattle.replay_spec.specs.secure_log.LogEntries.Chain.{zeros, Logged, NoCollision, IsAmong, last_hash}
use Rattle.replay_spec.specs.secure_log.LogEntries.Chain.{span}
use Rattle.replay_spec.specs.secure_log.LogEntries.Entry.{entry_item, entry_value, kind_number, content}
use Rattle.replay_spec.specs.secure_log.declared.log_entries.entry.Entry.{Entry}
use Rattle.replay_spec.specs.secure_log.declared.log_entries.entry.Entry.TheVariants.{Clock}
use Rattle.replay_spec.specs.secure_log.Log.{log_hash, log_pairs}
use Rattle.replay_spec.specs.secure_log.Versioned.{VersionedParts, FitsVersion, IsClosedIn}
use Rattle.replay_spec.specs.secure_log.Versioned.{segment_marks}
use Rattle.replay_spec.specs.secure_log.declared.segment.TheConstants.{MAX_ENTRIES}
use Rattle.replay_spec.specs.state_spec.State.{State}
use Rattle.replay_spec.specs.Placed.{logged_places, places_in}
use Rattle.replay_spec.specs.Replay.{Honest, Sound, verdict_of}
use Rattle.replay_spec.specs.Opening.{opening_of}
use Rattle.replay_spec.specs.HonestLogs.{IsHonestLog}
use Rattle.replay_spec.specs.StateLaws.{state_texts}
use Rattle.evidence_spec.specs.Showing.{ShowingParts, IsClosedShowing, Shows}
use Rattle.evidence_spec.specs.Showing.{showing_item, showing_value, showing_marks}
use Rattle.evidence_spec.specs.Showing.{authenticator_showing, versioned_showing}
use Rattle.evidence_spec.specs.Base.{BaseParts, IsGoodBase, base_item, base_value}
use Rattle.evidence_spec.specs.Evidence.{Charge, ForkParts, Fork, Replay, Based, EvidenceParts}
use Rattle.evidence_spec.specs.Evidence.{MAX_AUDITED, evidence_item, evidence_value, Accepts}
use Rattle.evidence_spec.specs.Proving.{IsLogOf, log_links, marks_of, texts_of}
use Rattle.evidence_spec.specs.Proving.{versioned_texts, showing_texts, entry_texts}
use Rattle.evidence_spec.specs.Proving.{charge_texts, closings, IsUnforgedIn, Proves}

-- A log has one mark at each number: one hash, or that no entry has it.
abbrev pub OneMarkAtANumber : Type 0
OneMarkAtANumber =
    (log : List Logged) (number : ℕ) (one other : List ℕ)
    → IsAmong (number, one) (marks_of log) → IsAmong (number, other) (marks_of log) → one ≡ other

-- Where a showing's closing is a pair of a log of its version, and no two texts have one digest, all marks
-- that it shows are the log's.
abbrev pub ShownIsOfTheLog : Type 0
ShownIsOfTheLog =
    (v : LogVersion) (ms : List Member) (log : List Logged) (s : ShowingParts) (number : ℕ) (mark : List ℕ)
    → IsLogOf v log → Fits (showing_item v) (showing_value v s) → IsClosedShowing v ms s
    → IsAmong (number_in v s.closing.word, s.closing.hash) (log_pairs log)
    → NoCollision (texts_of log ++ showing_texts s)
    → Shows s number mark → IsAmong (number, mark) (marks_of log)

-- The same of a segment, whose entries are then those of the log after its first number.
pub record IsPartOf (log : List Logged) (s : VersionedParts) : Type 0 where
  pub before : List Logged
  pub rest : List Logged
  pub whole : log ≡ before ++ (s.entries ++ rest)
  pub place : span before + 1 ≡ s.first

abbrev pub SegmentIsOfTheLog : Type 0
SegmentIsOfTheLog =
    (ms : List Member) (log : List Logged) (s : VersionedParts)
    → IsLogOf s.log_version log → FitsVersion MAX_AUDITED s → IsClosedIn ms s
    → IsAmong (number_in s.log_version s.closing.word, s.closing.hash) (log_pairs log)
    → NoCollision (texts_of log ++ versioned_texts s)
    → IsPartOf log s × ((number : ℕ) (mark : List ℕ)
    → IsAmong (number, mark) (segment_marks s) → IsAmong (number, mark) (marks_of log))

-- A log has reached a state at a number: after the entries up to it, it is honest from this state on.
pub record Reached (ms : List Member) (log : List Logged) (number : ℕ) (state : State) : Type 0 where
  pub before : List Logged
  pub rest : List Logged
  pub whole : log ≡ before ++ rest
  pub count : span before ≡ number
  -- the state after each entry of the rest
  pub states : List State
  pub honest : Honest ms state (logged_places number (last_hash zeros (log_links before)) rest) states

-- A segment is a log's, right after a number: its entries stand there, and its opening hash is that of the
-- number.
pub record IsNextIn (log : List Logged) (number : ℕ) (s : VersionedParts) : Type 0 where
  pub first : s.first ≡ number + 1
  -- its closing's number is that of its last entry, or the one before its first
  pub last : number_in s.log_version s.closing.word + 1 ≡ s.first + span s.entries
  pub part : IsPartOf log s
  pub opening : IsAmong (number, s.opening) (log_pairs log)

-- A segment replays sound from a state, and the log has reached the state after it at its closing number.
pub record IsSoundIn (ms : List Member) (log : List Logged) (state : State) (s : VersionedParts)
    : Type 0 where
  pub after : State
  -- what it shows of other nodes
  pub found : List Authenticator
  pub sound : verdict_of ms state (places_in s) ≡ Sound after found
  pub reached : Reached ms log (number_in s.log_version s.closing.word) after

-- A segment of a log, right after a number at which the log has reached a state, replays sound from that
-- state, and the log has reached the state after it at the segment's closing number. No digest is spoken of:
-- that the segment is the log's is a premise.
abbrev pub SegmentsGoOnSound : Type 0
SegmentsGoOnSound =
    (ms : List Member) (log : List Logged) (number : ℕ) (state : State) (s : VersionedParts)
    → Reached ms log number state → IsNextIn log number s → IsSoundIn ms log state s

-- A base whose closing is a pair of an honest log is of the log, where no two texts have one digest: the log has
-- reached the base's state at the base's number, and all that the base shows are marks of the log.
abbrev pub BaseIsOfTheLog : Type 0
BaseIsOfTheLog =
    (ms : List Member) (log : List Logged) (b : BaseParts) (m : Member) (s last : State)
    → IsLogOf b.log_version log → Fits base_item (base_value b) → IsGoodBase ms b m s
    → (h : IsHonestLog ms (opening_of m) log last)
    → IsAmong (number_in b.log_version b.showing.closing.word, b.showing.closing.hash) (log_pairs log)
    → NoCollision (texts_of log
    ++ (showing_texts b.showing ++ flat_map state_texts (s ∷ opening_of m ∷ h.states)))
    → Reached ms log b.at s
    × ((number : ℕ) (mark : List ℕ) → Shows b.showing number mark → IsAmong (number, mark) (marks_of log))

-- Two entries are of one kind, and their contents have one digest.
pub record SameContent (e f : Entry) : Type 0 where
  pub kind : kind_number e ≡ kind_number f
  pub digest : sha256 (content e) ≡ sha256 (content f)

-- Entries whose contents have one digest are the same, where no two of the texts of both have one digest and
-- they are of one kind.
abbrev pub ContentsGiveEntriesBack : Type 0
ContentsGiveEntriesBack =
    (e f : Entry) → Fits entry_item (entry_value e) → Fits entry_item (entry_value f)
    → NoCollision (entry_texts e ++ entry_texts f) → SameContent e f → e ≡ f

-- Evidence that has a text and is accepted proves that the node has no honest log.
abbrev pub AcceptedEvidenceProves : Type 0
AcceptedEvidenceProves =
    (ms : List Member) (e : EvidenceParts)
    → Fits evidence_item (evidence_value e) → Accepts ms e → Proves ms e

-- ---- what is shown of authenticators and segments

-- A showing of a log of a version is closed, has a text, and shows these marks.
pub record ShowsMarks (v : LogVersion) (ms : List Member) (s : ShowingParts) (marks : List (ℕ × List ℕ))
    : Type 0 where
  pub closed : IsClosedShowing v ms s
  pub text : Fits (showing_item v) (showing_value v s)
  pub is : showing_marks s ≡ marks

-- A signed authenticator alone shows its own pair, whatever its word skips.
abbrev pub AuthenticatorsShowOnePair : Type 0
AuthenticatorsShowOnePair =
    (v : LogVersion) (ms : List Member) (a : Authenticator)
    → Fits authenticator_item (authenticator_value a) → IsSignedIn ms a
    → ShowsMarks v ms (authenticator_showing v a) ((number_in v a.word, a.hash) ∷ [])

-- A closed segment's links show its marks, whatever its entries skip.
abbrev pub SegmentsShowTheirMarks : Type 0
SegmentsShowTheirMarks =
    (ms : List Member) (s : VersionedParts) → FitsVersion MAX_ENTRIES s → IsClosedIn ms s
    → ShowsMarks s.log_version ms (versioned_showing s) (segment_marks s)

-- ---- what proves nothing

-- a charge has no base
abbrev pub HasNoBase : Charge → Type 0
HasNoBase (Fork f) = Unit {0}
HasNoBase (Replay s) = Unit {0}
HasNoBase (Based b s) = ⊥

-- Evidence without a base whose texts are all of an honest log's own, and whose signatures are none forged, proves
-- nothing, where no two of the log's texts have one digest.
abbrev pub OwnTextsProveNothing : Type 0
OwnTextsProveNothing =
    (ms : List Member) (member : Member) (e : EvidenceParts) (log : List Logged) (s : State)
    → member_of ms e.node ≡ Some member → IsLogOf member.log_version log
    → IsHonestLog ms (opening_of member) log s
    → AllByRecursion (IsUnforgedIn member.log_version ms member.node log) (closings e.charge)
    → HasNoBase e.charge
    → ((t : List ℕ) → IsAmong t (charge_texts e.charge) → IsAmong t (texts_of log))
    → NoCollision (texts_of log)
    → ¬ Proves ms e

-- Authenticators that aren't signed prove nothing, whatever they show: the log without entries stands against
-- them.
abbrev pub UnsignedProveNothing : Type 0
UnsignedProveNothing =
    (v : LogVersion) (ms : List Member) (member : Member) (node at : ℕ) (a : Authenticator)
    (b : Option Authenticator)
    → member_of ms node ≡ Some member → ¬ IsSignedIn ms a → IfSome b (λ c. ¬ IsSignedIn ms c)
    → let fork : ForkParts = record {
      log_version = v;
      at = at;
      a = authenticator_showing v a;
      b = option_map (authenticator_showing v) b;
    } in
    ¬ Proves ms (record { node = node; charge = Fork fork })

-- A segment of one clock reading, which is all of a client's log, proves nothing: that log stands against it.
abbrev pub one_reading : LogVersion → (node : ℕ) → Authenticator → VersionedParts
one_reading v node closing = record {
  log_version = v;
  node = node;
  first = 1;
  opening = zeros;
  entries = record { skipped = 0; entry = Clock 1 0 } ∷ [];
  closing = closing;
}

abbrev pub OneReadingProvesNothing : Type 0
OneReadingProvesNothing =
    (v : LogVersion) (ms : List Member) (member : Member) (node : ℕ) (closing : Authenticator)
    → member_of ms node ≡ Some member → member.kind ≡ Client
    → closing.word ≡ 1 → closing.hash ≡ log_hash (record { skipped = 0; entry = Clock 1 0 } ∷ [])
    → ¬ Proves ms (record { node = node; charge = Replay (one_reading v node closing) })
