-- What holds between nodes and witnesses. Each is the contract of a function in src/laws.rt.
use Rattle.std.specs.Prelude.{◌≡◌, ◌≢◌, ◌↔◌, ℕ, IsSome, IsTrue, List, ◌∷◌, ◌++◌, Some, None, Ok, false}
use Rattle.std.specs.List.{AllByRecursion}
use Rattle.xdr.specs.Item.{IsBytes, number_spelling}
use Rattle.xdr.specs.Texts.Text.{IsText}
use Rattle.authenticator.specs.Roster.{IsRoster, member_of}
use Rattle.authenticator.specs.Signed.{IsSignedBy}
use Rattle.authenticator.specs.declared.member.Member.{Member}
use Rattle.secure_log.specs.LogEntries.Chain.{NoCollision, IsAmong}
use Rattle.secure_log.specs.Versioned.{VersionedParts, versioned_text, versioned_value}
use Rattle.secure_log.specs.declared.segment.TheConstants.{MAX_ENTRIES}
use Rattle.envelopes.specs.Envelope.{envelope_message}
use Rattle.envelopes.specs.Acknowledgement.{ack_shows, ack_text, ack_value}
use Rattle.envelopes.specs.Checking.{IsTextOf}
use Rattle.envelopes.specs.declared.envelope.Envelope.{Envelope}
use Rattle.envelopes.specs.declared.acknowledgement.Ack.{Ack}
use Rattle.packets.specs.Packet.{answer_number}
use Rattle.secure_log.specs.declared.fault.SegmentFault.{SegmentFault}
use Rattle.secure_log.specs.declared.fault.SegmentFault.TheVariants.{NoMemory}
use Rattle.commitment.specs.Senders.Sender.{IsSender, signed_at}
use Rattle.commitment.specs.Senders.LookUps.{ack_at}
use Rattle.commitment.specs.Received.{IsReceiptAt}
use Rattle.commitment.specs.Outcomes.{receipt_number}
use Rattle.commitment.specs.declared.outcome.Received.{Received}
use Rattle.nfs_items.specs.Timeval.{Timeval}
use Rattle.node_logs.specs.replay_spec.HonestLogs.{IsHonestLog}
use Rattle.node_logs.specs.replay_spec.Opening.{opening_of}
use Rattle.node_logs.specs.Steps.Nodes.{NodeParts, log_of, sender_of}
use Rattle.node_logs.specs.Nodes.{IsMemberOf}
use Rattle.node_logs.specs.Bases.{GivesBase}
use Rattle.node_logs.specs.Challenges.{AnswersChallenge, RefusesChallenge}
use Rattle.node_logs.specs.Receiving.{Receives}
use Rattle.node_logs.specs.Sending.{TakesReply}
use Rattle.commitment.specs.declared.outcome.Received.TheVariants.{New, Repeat}
use Rattle.node_logs.specs.declared.outcome.Receipt.{Receipt}
use Rattle.state_spec.specs.State.{State}
use Rattle.witness_laws.specs.evidence_spec.Base.{BaseParts, IsGoodBase, base_text, base_value}
use Rattle.witness_laws.specs.evidence_spec.Proving.{texts_of}
use Rattle.witness_laws.specs.witness_spec.Events.{PublicKey, Event, IsEvent}
use Rattle.witness_laws.specs.witness_spec.Events as events
use Rattle.witness_laws.specs.witness_spec.Replies.{Reply, SendOf, Exposed}
use Rattle.witness_laws.specs.witness_spec.Starting.{Beginning}
use Rattle.witness_laws.specs.witness_spec.Watched.{Watched, watched, IsInRoster, IsWatchedFrom}
use Rattle.witness_laws.specs.witness_spec.Whose.{is_key_of, whose}
use Rattle.witness_laws.specs.witness_spec.Standing.{Wanted, stage_of, open_challenges, indication}
use Rattle.witness_laws.specs.witness_spec.Histories.{History, IsOwed, IsHistory, own_of}
use Rattle.witness_laws.specs.witness_spec.Premises.{Unforged, NoCollisionWith}
use Rattle.witness_laws.specs.witness_spec.Laws.{AnswersAudit, ClosesChallenge}
use Rattle.witness_node_laws.specs.Logs.{IsListedAs, MayBegin, ShowsItsOwn}

-- ---- who is never exposed

-- A node that didn't stray is never exposed by a witness that begins under its roster, with whatever
-- bases, where none of its signatures is forged and no two texts have one digest. With a base of the node
-- the texts of the states that its log comes to are among them.
abbrev pub IsNeverExposed : NodeParts → Type 0
IsNeverExposed n =
    n.strayed ≡ false → (g : Beginning) (m : Member) (history : History)
    → let w : Watched = watched g m in
    g.roster ≡ n.roster → IsListedAs n m → IsInRoster w → IsHistory g history
    → Unforged w n.entries (own_of w history)
    → ((log : IsHonestLog g.roster (opening_of m) n.entries n.state)
    → NoCollisionWith w n.entries (opening_of m ∷ log.states) (own_of w history))
    → indication w (own_of w history) ≢ Exposed

-- Nor is it where the witness has no base of it, all that it was shown of the node's log is what the node
-- itself showed, and no two texts of that log have one digest. Nothing is supposed of signatures.
abbrev pub OwnWordsNeverExpose : NodeParts → Type 0
OwnWordsNeverExpose n =
    n.strayed ≡ false → (g : Beginning) (m : Member) (history : History)
    → let w : Watched = watched g m in
    g.roster ≡ n.roster → w.base ≡ None → IsListedAs n m → IsInRoster w → IsHistory g history
    → AllByRecursion (λ p. ShowsItsOwn n p.0) (own_of w history)
    → NoCollision (texts_of n.entries)
    → indication w (own_of w history) ≢ Exposed

-- ---- bytes

-- Bytes that are handed in are the same step as an event: the same replies are owed to both, and after both
-- the node's own steps are the same.
pub record IsSameStep (g : Beginning) (w : Watched) (history : History) (bytes : List ℕ) (event : Event) : Type 0 where
  pub bound : IsEvent (events.Deliver bytes)
  pub step : whose w.roster (events.Deliver bytes) ≡ whose w.roster event
  pub owed : (reply : Reply)
      → IsOwed g history (events.Deliver bytes) reply ↔ IsOwed g history event reply
  pub own_steps : (reply : Reply)
      → own_of w ((events.Deliver bytes, reply) ∷ history) ≡ own_of w ((event, reply) ∷ history)

-- ---- who answers

-- The bytes are the text of a segment that may be handed in, that answers the audit which is open and is
-- accepted for it; and so are they as a packet, after the number of one with a segment of such a log.
pub record IsAcceptedAnswer (g : Beginning) (w : Watched) (history : History) (bytes : List ℕ) : Type 0 where
  pub segment : VersionedParts
  pub version : segment.log_version ≡ w.member.log_version
  pub text : IsText (versioned_text segment.log_version MAX_ENTRIES)
      (versioned_value segment.log_version segment) bytes
  pub event : IsEvent (events.Answer (record { segment = segment; roster = w.roster }))
  pub accepted : AnswersAudit g w history (record { segment = segment; roster = w.roster })
  pub packet : IsSameStep g w history (number_spelling 4 (answer_number segment.log_version) ++ bytes)
      (events.Answer (record { segment = segment; roster = w.roster }))

-- Where an audit is open, a node that signed at the last number, and in whose log a segment may begin with the
-- first, refuses the challenge with its numbers only where memory runs out.
abbrev pub AskedCanBeAnswered : Type 0
AskedCanBeAnswered =
    (g : Beginning) (w : Watched) (history : History) (n : NodeParts) (first last : ℕ) (fault : SegmentFault)
    → IsInRoster w → IsWatchedFrom g w → IsHistory g history
    → stage_of (own_of w history) ≡ Wanted first last
    → IsSender (sender_of n) → IsSome (signed_at (sender_of n) last)
    → MayBegin n.log_version n.entries first
    → RefusesChallenge n first last fault → fault ≡ NoMemory

-- So it does where the roster gives its log the version that it has, the witness has no base of it, and all
-- that it was shown of its log is what the node itself showed: then an audit asks from after an entry on, up
-- to a number at which the node signed.
abbrev pub OwnWordsCanBeAnswered : NodeParts → Type 0
OwnWordsCanBeAnswered n =
    (g : Beginning) (w : Watched) (history : History) (first last : ℕ) (fault : SegmentFault)
    → IsInRoster w → IsWatchedFrom g w → w.base ≡ None → w.member.log_version ≡ n.log_version
    → IsHistory g history
    → AllByRecursion (λ p. ShowsItsOwn n p.0) (own_of w history)
    → stage_of (own_of w history) ≡ Wanted first last
    → RefusesChallenge n first last fault → fault ≡ NoMemory

-- What a node answers to the challenge with the numbers that an audit asked for is accepted, and closes it.
abbrev pub AnswersOfNodesAreAccepted : Type 0
AnswersOfNodesAreAccepted =
    (g : Beginning) (w : Watched) (history : History) (n : NodeParts) (first last : ℕ) (bytes : List ℕ)
    → IsRoster w.roster → IsInRoster w → IsWatchedFrom g w → w.member.node ≡ n.node → IsMemberOf n w.member
    → stage_of (own_of w history) ≡ Wanted first last
    → AnswersChallenge n first last bytes → IsBytes bytes
    → IsAcceptedAnswer g w history bytes

-- The acknowledgement that the RECV with a number makes closes a challenge, handed in with the node's key, or
-- as a packet after its number.
pub record AckCloses (g : Beginning) (w : Watched) (history : History) (n : NodeParts) (number : ℕ) : Type 0 where
  pub ack : Ack
  pub is : ack_at (sender_of n) number ≡ Some ack
  pub signed : IsSignedBy w.member (ack_shows ack)
  pub closes : (key : PublicKey) → IsTrue (is_key_of w.member key) → ClosesChallenge g w history ack key
  pub packet : (key : PublicKey) (text : List ℕ) → IsTrue (is_key_of w.member key)
      → IsText ack_text (ack_value ack) text → IsBytes text
      → IsSameStep g w history (number_spelling 4 4 ++ text) (events.AckIn ack key)

-- Where the RECV of a message stands in a node's log and the message is that of an open challenge, its
-- acknowledgement closes the challenge.
abbrev pub AcksOfNodesClose : Type 0
AcksOfNodesClose =
    (g : Beginning) (w : Watched) (history : History) (n : NodeParts) (number : ℕ) (e : Envelope)
    → IsInRoster w → IsWatchedFrom g w → w.member.node ≡ n.node → IsMemberOf n w.member → IsSender (sender_of n)
    → IsReceiptAt (log_of n) (envelope_message e) number
    → IsAmong (SendOf e) (open_challenges (own_of w history))
    → AckCloses g w history n number

-- ---- where a witness may begin

-- The bytes are the text of a base at a number, which is good under a roster, of a member.
pub record IsGoodBaseText (ms : List Member) (m : Member) (at : ℕ) (bytes : List ℕ) : Type 0 where
  pub base : BaseParts
  pub state : State
  pub number : base.at ≡ at
  pub text : IsText base_text (base_value base) bytes
  pub good : IsGoodBase ms base m state

-- What a node gives at a number is the text of a base that is good under each roster in which the node
-- stands, whether it strayed or not.
abbrev pub BasesOfNodesAreGood : NodeParts → Type 0
BasesOfNodesAreGood n =
    (ms : List Member) (m : Member) (at : ℕ) (bytes : List ℕ)
    → member_of ms n.node ≡ Some m → IsListedAs n m → GivesBase n at bytes → IsGoodBaseText ms m at bytes

-- ---- what is received

-- the number of the RECV of a message that a server received
abbrev pub call_number : Received Receipt → ℕ
call_number (New r) = r.ack
call_number (Repeat r) = r.ack

-- The RECV of the message that a server received, now or before, stands in its log at the number that it
-- gives.
abbrev pub ReceivedCallsAreLogged : Type 0
ReceivedCallsAreLogged =
    (n n' : NodeParts) (time : Timeval) (bytes : List ℕ) (e : Envelope) (h : Received Receipt)
    → Receives n time bytes (Ok h) n' → IsTextOf bytes e
    → IsReceiptAt (log_of n') (envelope_message e) (call_number h)

-- The same of a reply that a client takes.
abbrev pub TakenRepliesAreLogged : Type 0
TakenRepliesAreLogged =
    (n n' : NodeParts) (bytes : List ℕ) (e : Envelope) (r : Received ℕ)
    → TakesReply n bytes (Ok r) n' → IsTextOf bytes e
    → IsReceiptAt (log_of n') (envelope_message e) (receipt_number r)

-- So the acknowledgement that a node gives of the envelope of an open challenge closes it: that of a server,
-- and that of a client.
abbrev pub ReceivedCallsClose : Type 0
ReceivedCallsClose =
    (g : Beginning) (w : Watched) (history : History)
    (n n' : NodeParts) (time : Timeval) (bytes : List ℕ) (e : Envelope) (h : Received Receipt)
    → IsInRoster w → IsWatchedFrom g w → w.member.node ≡ n'.node → IsMemberOf n' w.member → IsSender (sender_of n')
    → IsTextOf bytes e → IsAmong (SendOf e) (open_challenges (own_of w history))
    → Receives n time bytes (Ok h) n'
    → AckCloses g w history n' (call_number h)

abbrev pub TakenRepliesClose : Type 0
TakenRepliesClose =
    (g : Beginning) (w : Watched) (history : History)
    (n n' : NodeParts) (bytes : List ℕ) (e : Envelope) (r : Received ℕ)
    → IsInRoster w → IsWatchedFrom g w → w.member.node ≡ n'.node → IsMemberOf n' w.member → IsSender (sender_of n')
    → IsTextOf bytes e → IsAmong (SendOf e) (open_challenges (own_of w history))
    → TakesReply n bytes (Ok r) n'
    → AckCloses g w history n' (receipt_number r)
