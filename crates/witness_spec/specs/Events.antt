-- What a witness may be handed.
use Rattle.std.specs.Prelude.{◌≡◌, ℕ, IsTrue, List}
use Rattle.xdr.specs.Item.{Fits, IsBytes}
use Rattle.merkle_keys.specs.Signing.{Signed}
use Rattle.authenticator.specs.Signed.{signed_digest, authenticator_item, authenticator_value}
use Rattle.authenticator.specs.declared.authenticator.Authenticator.{Authenticator}
use Rattle.secure_log.specs.Versioned.{ClosedParts, FitsVersion, IsClosedIn, is_whole_in}
use Rattle.secure_log.specs.Versioned.{versioned_value}
use Rattle.secure_log.specs.declared.segment.TheConstants.{MAX_ENTRIES}
use Rattle.packets.specs.envelopes.declared.envelope.Envelope.{Envelope}
use Rattle.packets.specs.envelopes.declared.acknowledgement.Ack.{Ack}
use Rattle.packets.specs.envelopes.Envelope.{envelope_item, envelope_value, envelope_shows}
use Rattle.packets.specs.envelopes.Acknowledgement.{ack_item, ack_value, ack_shows}
use Rattle.state_spec.specs.State.{State}
use Rattle.evidence_spec.specs.replay_spec.Replay.{Verdict, verdict_of}
use Rattle.evidence_spec.specs.replay_spec.Placed.{places_in}

-- a node's public key: the root of its tree of keys, and that tree's height
pub record PublicKey : Type 0 where
  pub root : List ℕ
  pub height : ℕ

-- A replay to be done: of a node, with the number of the job in its book, from a state, of a segment that is
-- closed under a roster. Two jobs are the same where all of these are.
pub record JobParts : Type 0 where
  pub node : ℕ
  pub number : ℕ
  pub state : State
  pub segment : ClosedParts

-- a replay that was done: the job, and its verdict
pub record DoneParts : Type 0 where
  pub job : JobParts
  pub verdict : Verdict

-- what may be asked of a node
pub data Question : Type 0 where
  ItsIndication : Question
  ItsChallenges : Question
  ItsEvidence : Question

-- One step of a witness: bytes as they arrive; what was checked before, with the key, or the roster, that it
-- was checked under; what the witness itself has to do about a node.
pub data Event : Type 0 where
  Deliver : (bytes : List ℕ) → Event
  Learn : Authenticator → PublicKey → Event
  SendChallenge : Envelope → PublicKey → Event
  Answer : ClosedParts → Event
  AckIn : Ack → PublicKey → Event
  Audit : (node : ℕ) → Event
  Begin : (node : ℕ) → Event
  File : DoneParts → Event
  PutBack : JobParts → Event
  Forward : (node : ℕ) → Event
  Ask : (node : ℕ) → Question → Event

-- ---- what the types of these values keep

-- an authenticator is signed under a key
abbrev pub IsSignedUnder : PublicKey → Authenticator → Type 0
IsSignedUnder key a = Signed key.root key.height (signed_digest a.node a.word a.hash) a.signature

-- A segment has a text of its log's version, and is closed under the roster that is kept with it.
pub record IsClosedUnder (c : ClosedParts) : Type 0 where
  pub fits : FitsVersion MAX_ENTRIES c.segment
  pub whole : IsTrue (is_whole_in c.segment.log_version (versioned_value c.segment.log_version c.segment))
  pub closed : IsClosedIn c.roster c.segment

-- Where an event holds a checked value, that has a text and is signed under its key. A done value's verdict
-- is the replay of its own state and segment.
abbrev pub IsEvent : Event → Type 0
IsEvent (Deliver bytes) = IsBytes bytes
IsEvent (Learn a key) = Fits authenticator_item (authenticator_value a) × IsSignedUnder key a
IsEvent (SendChallenge e key) = Fits envelope_item (envelope_value e) × IsSignedUnder key (envelope_shows e)
IsEvent (Answer c) = IsClosedUnder c
IsEvent (AckIn a key) = Fits ack_item (ack_value a) × IsSignedUnder key (ack_shows a)
IsEvent (Audit node) = Unit {0}
IsEvent (Begin node) = Unit {0}
IsEvent (File d) =
    IsClosedUnder d.job.segment
    × (d.verdict ≡ verdict_of d.job.segment.roster d.job.state (places_in d.job.segment.segment))
IsEvent (PutBack j) = IsClosedUnder j.segment
IsEvent (Forward node) = Unit {0}
IsEvent (Ask node question) = Unit {0}
