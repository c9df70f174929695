-- The book of one node, as plain data: what a witness keeps of the node, and what follows from that.
use Rattle.std.specs.Prelude.{ℕ, Bool, nat_le, List, [], ◌∷◌, ◌++◌, map, filter, flat_map}
use Rattle.std.specs.Prelude.{Option, Some, None, is_some, if◌then◌else◌}
use Rattle.authenticator.specs.declared.authenticator.Authenticator.{Authenticator}
use Rattle.authenticator.specs.declared.member.LogVersion.{LogVersion}
use Rattle.authenticator.specs.declared.member.Member.{Member}
use Rattle.secure_log.specs.LogEntries.Chain.{Logged}
use Rattle.secure_log.specs.Versioned.{VersionedParts, ClosedParts}
use Rattle.witness_laws.specs.evidence_spec.Base.{base_marks}
use Rattle.witness_laws.specs.evidence_spec.Showing.{ShowingParts}
use Rattle.witness_laws.specs.evidence_spec.Evidence.{Charge, Fork, Replay, Based, EvidenceParts}
use Rattle.witness_laws.specs.witness_spec.Events.{JobParts}
use Rattle.witness_laws.specs.witness_spec.Replies.{Challenge, Indication, Exposed}
use Rattle.witness_laws.specs.witness_spec.Starting.{KnownBase, start_number, start_state}
use Rattle.witness_laws.specs.witness_spec.Pairs.{Pair, pair_of, first_pair, last_of, marks_of}
use Rattle.witness_laws.specs.witness_spec.Standing.{End, Stage, NoAudit, Wanted, Given, Out}
use Rattle.witness_laws.specs.witness_spec.Standing.{without_evidence}
use Rattle.witness_laws.specs.witness_spec.Histories.{BookParts}

-- What a witness keeps of one node. Each list has the oldest first.
pub record Book : Type 0 where
  -- the node's number
  pub node : ℕ
  -- the version of its log
  pub log_version : LogVersion
  -- the base from which its audit began, if it did from one
  pub base : Option KnownBase
  -- the last number that was audited, and the state there
  pub end : End
  -- how far the audit is, with the segment that is given or out
  pub stage : Stage
  -- how many jobs were begun: so the number of the job that is out
  pub begun : ℕ
  -- the authenticators that were learned before the node was exposed, with numbers above the end
  pub learned : List Authenticator
  -- the segments that were accepted
  pub segments : List VersionedParts
  -- the open challenges
  pub challenges : List Challenge
  -- what is still to be forwarded
  pub outbox : List Authenticator
  -- the evidence, if the node is exposed
  pub evidence : Option EvidenceParts

-- the book of a member at first, from its base if there is one
abbrev pub book_starting : Member → Option KnownBase → Book
book_starting m base = record {
  node = m.node;
  log_version = m.log_version;
  base = base;
  end = record { number = start_number base; state = start_state m base };
  stage = NoAudit;
  begun = 0;
  learned = [];
  segments = [];
  challenges = [];
  outbox = [];
  evidence = None;
}

-- ---- what follows from it

-- the node is exposed
abbrev pub exposed : Book → Bool
exposed b = is_some b.evidence

-- the closing of the newer of a fork's showings
abbrev pub newer_closing : ShowingParts → Option ShowingParts → Authenticator
newer_closing old None = old.closing
newer_closing old (Some new) = new.closing

-- the pair that closes what exposed a node by a fork: that of a learned authenticator, or of a segment
abbrev pub charged_pairs : Charge → List Pair
charged_pairs (Fork f) = pair_of f.log_version (newer_closing f.a f.b) ∷ []
charged_pairs (Replay s) = []
charged_pairs (Based b s) = []

-- the same of the evidence, if there is some
abbrev pub exposing_pairs : Option EvidenceParts → List Pair
exposing_pairs None = []
exposing_pairs (Some e) = charged_pairs e.charge

-- the marks that a base has up to its number; none without one
abbrev pub base_pairs : Option KnownBase → List Pair
base_pairs None = []
base_pairs (Some b) = base_marks b.parts

-- What was shown: the pair before the first entry, what exposed the node, what is kept, the accepted segments,
-- and the base.
abbrev pub book_shown : Book → List Pair
book_shown b =
    first_pair
    ∷ (exposing_pairs b.evidence
    ++ (map (pair_of b.log_version) b.learned ++ (flat_map marks_of b.segments ++ base_pairs b.base)))

-- a segment lies up to the end
abbrev pub is_audited : (end : ℕ) → VersionedParts → Bool
is_audited end s = nat_le (last_of s) end

-- all entries that were audited, in order
abbrev pub book_audited : Book → List Logged
book_audited b = flat_map (λ s. s.entries) (filter (λ s. is_audited b.end.number s) b.segments)

-- the job with a number, of a segment: it begins from the end's state
abbrev pub job_of : Book → (number : ℕ) → ClosedParts → JobParts
job_of b number c = record { node = b.node; number = number; state = b.end.state; segment = c }

-- the job that is out at a stage, if one is
abbrev pub job_out_at : Book → Stage → Option JobParts
job_out_at b NoAudit = None
job_out_at b (Wanted first last) = None
job_out_at b (Given c) = None
job_out_at b (Out c) = Some (job_of b b.begun c)

-- the job that is out, if one is
abbrev pub job_out : Book → Option JobParts
job_out b = job_out_at b b.stage

-- what is said of the node
abbrev pub book_indication : Book → Indication
book_indication b = if exposed b then Exposed else without_evidence b.challenges

-- the book, as what it must hold of its node's own steps is said
abbrev pub parts_of : Book → BookParts
parts_of b = record {
  end = b.end;
  stage = b.stage;
  begun = b.begun;
  pairs = book_shown b;
  learned = b.learned;
  challenges = b.challenges;
  outbox = b.outbox;
  segments = b.segments;
  evidence = b.evidence;
}
