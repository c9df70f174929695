-- What a book in memory says.
use Rattle.std.specs.Prelude.{◌≡◌, ℕ, ◌+◌, ◌≤◌, ◌<◌, List, [], ◌∷◌, ◌++◌, map, take, flat_map, length, Option, Some, None, option_map}
use Rattle.std.specs.Arc.{arc_value}
use Rattle.std.specs.Global.{Global}
use Rattle.std.specs.declared.sync.Arc.{Arc}
use Rattle.std.specs.List.{AllByRecursion}
use Rattle.authenticator.specs.declared.member.LogVersion.{LogVersion}
use Rattle.secure_log.specs.LogEntries.Chain.{Logged, logged_links}
use Rattle.secure_log.specs.LogEntries.Words.{MaySkip}
use Rattle.secure_log.specs.Versioned.{VersionedParts, ClosedParts}
use Rattle.evidence_spec.specs.Evidence.{EvidenceParts}
use Rattle.challenge.specs.KnownBases as bases
use Rattle.witness_spec.specs.Starting.{KnownBase, start_number, start_hash}
use Rattle.witness_spec.specs.Exposing.{replay_from}
use Rattle.witness_spec.specs.Standing as standing
use Rattle.witness_spec.specs.Limits.{MAX_AUDITED}
use Rattle.witness_book_laws.specs.Books.{Book}
use Rattle.node_book.specs.Replies.{challenge_in}
use Rattle.node_book.specs.Outboxes.{outbox_in}
use Rattle.node_book.specs.declared.rows.Stage.{Stage}
use Rattle.node_book.specs.declared.rows.Stage.TheVariants.{NoAudit, Wanted, Given, Out}
use Rattle.node_book.specs.declared.rows.Exposure.{Exposure}
use Rattle.node_book.specs.declared.rows.Exposure.TheVariants.{Nothing, Fork, Replay}
use Rattle.node_book.specs.declared.rows.Rows.{Rows}

-- how far an audit is
abbrev pub stage_in : Stage → standing.Stage
stage_in NoAudit = standing.NoAudit
stage_in (Wanted first last) = standing.Wanted first last
stage_in (Given c) = standing.Given c
stage_in (Out c) = standing.Out c

-- a base that was found good, as a witness keeps it
abbrev pub known_in : bases.KnownBase → KnownBase
known_in k = record { parts = bases.parts_of k; state = k.state }

-- the base from which the audit began, if it did from one
abbrev pub base_in : Option (Arc bases.KnownBase Global) → Option KnownBase
base_in base = option_map (λ b. known_in (arc_value b)) base

-- segments without their rosters
abbrev pub segments_in : List ClosedParts → List VersionedParts
segments_in cs = map (λ c. c.segment) cs

-- the entries of segments, in order
abbrev pub entries_of : List VersionedParts → List Logged
entries_of segments = flat_map (λ s. s.entries) segments

-- The log that is shown where a replay found a fault in a segment, from where the audit began: the entries of
-- so many accepted segments, and its own, with its closing.
abbrev pub replayed_log : Option KnownBase → LogVersion → (node : ℕ) → List VersionedParts → (before : ℕ)
    → VersionedParts → VersionedParts
replayed_log base v node segments before s = record {
  log_version = v;
  node = node;
  first = start_number base + 1;
  opening = start_hash base;
  entries = entries_of (take before segments) ++ s.entries;
  closing = s.closing;
}

-- the evidence against the node, if it is exposed
abbrev pub evidence_in : Option KnownBase → LogVersion → (node : ℕ) → List VersionedParts → Exposure
    → Option EvidenceParts
evidence_in base v node segments Nothing = None
evidence_in base v node segments (Fork e) = Some (arc_value e)
evidence_in base v node segments (Replay before c) = Some (record {
  node = node;
  charge = replay_from base (replayed_log base v node segments before c.segment);
})

-- the book
abbrev pub book_in : Rows → Book
book_in r = record {
  node = r.node;
  log_version = r.log_version;
  base = base_in r.base;
  end = record { number = r.end; state = r.state };
  stage = stage_in r.stage;
  begun = r.begun;
  learned = r.learned.items;
  segments = segments_in r.segments.items;
  challenges = map challenge_in r.challenges.items;
  outbox = outbox_in r.outbox;
  evidence = evidence_in (base_in r.base) r.log_version r.node (segments_in r.segments.items) r.exposure;
}

-- the first number of the first of these segments, or that of another one where there are none
abbrev pub first_shown : List VersionedParts → VersionedParts → ℕ
first_shown [] s = s.first
first_shown (x ∷ segments) s = x.first

-- Where a replay found a fault, the log that is shown begins where the audit did; it has an entry, and no more than evidence may have; it skips
-- as a log of its version may; the segments before it are among those that were accepted.
pub record ShowsLog (base : Option KnownBase) (v : LogVersion) (segments : List VersionedParts) (before : ℕ)
    (s : VersionedParts) : Type 0 where
  pub among : before ≤ length segments
  pub first : first_shown (take before segments) s ≡ start_number base + 1
  pub some : 0 < length s.entries
  pub most : length (entries_of (take before segments)) + length s.entries ≤ MAX_AUDITED
  pub skips : AllByRecursion (MaySkip v)
      (logged_links (start_number base) (entries_of (take before segments) ++ s.entries))

-- what a book's type keeps of what exposed its node
abbrev pub KeepsExposure : Option KnownBase → LogVersion → List VersionedParts → Exposure → Type 0
KeepsExposure base v segments Nothing = Unit {0}
KeepsExposure base v segments (Fork e) = Unit {0}
KeepsExposure base v segments (Replay before c) = ShowsLog base v segments before c.segment

-- A base, where there is one, is of a log of this version.
abbrev pub BaseIsOfLog : Option KnownBase → LogVersion → Type 0
BaseIsOfLog None v = Unit {0}
BaseIsOfLog (Some b) v = b.parts.log_version ≡ v

-- What its type keeps of a book: its base is of its log, and what exposed its node is known.
abbrev pub KeepsRows : Rows → Type 0
KeepsRows r =
    BaseIsOfLog (base_in r.base) r.log_version
    × KeepsExposure (base_in r.base) r.log_version (segments_in r.segments.items) r.exposure
