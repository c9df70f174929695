-- What holds of what a witness says. Each is the contract of a function in `witness_laws`.
use Rattle.std.specs.Prelude.{◌≡◌, ◌≢◌, ◌⊎◌, ◌↔◌, ℕ, ◌≤◌, IsTrue, List, [], ◌∷◌, ◌++◌, map}
use Rattle.std.specs.Prelude.{Some, Ok, Err, IsSome}
use Rattle.std.specs.List.{AllByRecursion}
use Rattle.sha2.specs.Sha256.{sha256}
use Rattle.xdr.specs.Item.{Fits}
use Rattle.merkle_keys.specs.Signing.{SignatureParts}
use Rattle.authenticator.specs.Roster.{IsRoster}
use Rattle.authenticator.specs.Signed.{IsSignedBy}
use Rattle.authenticator.specs.declared.authenticator.Authenticator.{Authenticator}
use Rattle.authenticator.specs.declared.member.Member.{Member}
use Rattle.secure_log.specs.LogEntries.Chain.{Logged, IsAmong}
use Rattle.secure_log.specs.declared.log_entries.entry.Entry.TheVariants as entries
use Rattle.secure_log.specs.LogEntries.Messages.{message_hash}
use Rattle.secure_log.specs.LogEntries.Words.{MaySkip}
use Rattle.secure_log.specs.Log.{LogParts, IsOfPlace}
use Rattle.secure_log.specs.Part.{GivesPart, open_links, with_closing}
use Rattle.secure_log.specs.Versioned.{VersionedParts, ClosedParts, IsClosedIn}
use Rattle.secure_log.specs.declared.open.OpenSegment.{OpenSegment}
use Rattle.packets.specs.envelopes.Envelope.{envelope_message}
use Rattle.packets.specs.envelopes.Acknowledgement.{acked_message}
use Rattle.packets.specs.envelopes.declared.envelope.Envelope.{Envelope}
use Rattle.packets.specs.envelopes.declared.acknowledgement.Ack.{Ack}
use Rattle.packets.specs.envelopes.declared.message.Message.{Message}
use Rattle.state_spec.specs.State.{State}
use Rattle.evidence_spec.specs.replay_spec.Opening.{opening_of}
use Rattle.evidence_spec.specs.replay_spec.Placed.{places_in}
use Rattle.evidence_spec.specs.replay_spec.Replay.{Honest}
use Rattle.evidence_spec.specs.replay_spec.HonestLogs.{IsHonestLog}
use Rattle.evidence_spec.specs.Evidence.{EvidenceParts, evidence_item, evidence_value, Accepts}
use Rattle.evidence_spec.specs.Proving.{IsLogOf, Proves}
use Rattle.witness_spec.specs.Refusals.{Refusal, NoMemory, refusal_number}
use Rattle.witness_spec.specs.Events.{PublicKey, JobParts, Event}
use Rattle.witness_spec.specs.Events as events
use Rattle.witness_spec.specs.Replies.{Reply, Accepted, Closed, refused}
use Rattle.witness_spec.specs.Replies.{AuditOf, SendOf, Suspected, Exposed}
use Rattle.witness_spec.specs.Starting.{Beginning}
use Rattle.witness_spec.specs.Watched.{Watched, IsInRoster, IsWatchedFrom}
use Rattle.witness_spec.specs.Steps.{Step, Answer, AckIn, OwnStep, Past}
use Rattle.witness_spec.specs.Whose.{is_key_of, whose}
use Rattle.witness_spec.specs.Pairs.{Pair}
use Rattle.witness_spec.specs.Done.{filed}
use Rattle.witness_spec.specs.Standing.{end_of, shown, Wanted, stage_of, open_challenges, indication}
use Rattle.witness_spec.specs.Exposing.{evidence}
use Rattle.witness_spec.specs.Owing.{Owes}
use Rattle.witness_spec.specs.Histories.{History, own, IsOwed, IsWanting, IsHistory, AreOwed, BookParts}
use Rattle.witness_spec.specs.Histories.{own_of}
use Rattle.witness_spec.specs.Histories.{Stands}
use Rattle.witness_spec.specs.Premises.{Unforged, NoCollisionWith}

-- ---- one reply

-- A step is owed one reply at most.
abbrev pub OneReply : Type 0
OneReply =
    (w : Watched) (past : Past) (step : Step) (one other : Reply)
    → Owes w past step one → Owes w past step other → one ≡ other

-- The own steps of a history have the replies that are owed by the earlier ones of that node alone.
abbrev pub OwnStepsAreOwed : Type 0
OwnStepsAreOwed =
    (g : Beginning) (w : Watched) (history : History)
    → IsInRoster w → IsWatchedFrom g w → IsHistory g history → AreOwed w (own_of w history)

-- ---- own steps alone

-- What a witness says of a node after two histories, each from its own beginning, is the same.
pub record SaysSame (g h : Beginning) (w : Watched) (one two : History) : Type 0 where
  -- the steps with their replies
  pub replies : own_of w one ≡ own_of w two
  -- what it tells
  pub indications : indication w (own_of w one) ≡ indication w (own_of w two)
  pub challenges : open_challenges (own_of w one) ≡ open_challenges (own_of w two)
  pub evidences : evidence w (own_of w one) ≡ evidence w (own_of w two)
  -- what it owes to the next
  pub next : (event : Event) (step : Step) (reply : Reply)
      → whose w.roster event ≡ Ok (record { member = w.member; step = step })
      → IsOwed g one event reply ↔ IsOwed h two event reply

-- Histories in which a node's own steps are the same and in the same order, whatever their replies and
-- whatever else they hold, have the same replies to these, and the witness says the same of the node. They
-- begin with one roster and with the same base of the node, if with one; bases of others may differ.
abbrev pub OwnStepsAlone : Type 0
OwnStepsAlone =
    (g h : Beginning) (w : Watched) (one two : History)
    → IsInRoster w → IsWatchedFrom g w → IsWatchedFrom h w → IsHistory g one → IsHistory h two
    → map (λ p. p.0) (own_of w one) ≡ map (λ p. p.0) (own_of w two)
    → SaysSame g h w one two

-- ---- what is left out

-- An event changes nothing: all books that stood for the history stand for it with the event.
pub record ChangesNothing (g : Beginning) (history : History) (event : Event) (reply : Reply)
    : Type 0 where
  pub own_steps : (node : ℕ) → own g.roster node ((event, reply) ∷ history) ≡ own g.roster node history
  pub books : (books : List BookParts) → Stands g books history
      → Stands g books ((event, reply) ∷ history)

-- An event that is nobody's step by event and roster changes nothing, and gets the same refusal after every
-- history, numbered 1, 2 or 3.
pub record IsLeftOut (g : Beginning) (event : Event) (refusal : Refusal) : Type 0 where
  pub reply : (history : History) (reply : Reply)
      → IsOwed g history event reply ↔ (reply ≡ refused event refusal)
  pub some : 1 ≤ refusal_number refusal
  pub few : refusal_number refusal ≤ 3
  pub changes : (history : History) (reply : Reply) → ChangesNothing g history event reply

-- An event that is nobody's step is left out, whatever the history.
abbrev pub LeftOutChangesNothing : Type 0
LeftOutChangesNothing =
    (g : Beginning) (event : Event) (refusal : Refusal)
    → whose g.roster event ≡ Err refusal → IsLeftOut g event refusal

-- An event that is refused because memory ran out changes nothing.
abbrev pub WantChangesNothing : Type 0
WantChangesNothing =
    (g : Beginning) (history : History) (event : Event) (reply : Reply)
    → IsWanting event reply → ChangesNothing g history event reply

-- Every other event is a step of its node, and is refused neither by 1, 2 or 3 nor as out of memory.
pub record IsTaken (g : Beginning) (history : History) (event : Event) (reply : Reply) (o : OwnStep)
    : Type 0 where
  pub own_step : own g.roster o.member.node ((event, reply) ∷ history)
      ≡ (o.step, reply) ∷ own g.roster o.member.node history
  pub others : (node : ℕ) → node ≢ o.member.node
      → own g.roster node ((event, reply) ∷ history) ≡ own g.roster node history
  pub refusals : (refusal : Refusal) → reply ≡ refused event refusal
      → (4 ≤ refusal_number refusal) × (refusal ≢ NoMemory)

-- An event that is a node's step is taken by that node, with any reply that is owed to it.
abbrev pub OthersAreTaken : Type 0
OthersAreTaken =
    (g : Beginning) (history : History) (event : Event) (reply : Reply) (o : OwnStep)
    → whose g.roster event ≡ Ok o → IsOwed g history event reply → IsTaken g history event reply o

-- ---- who is exposed

-- A number has two marks among pairs: two hashes, or a hash and that no entry has it.
pub record HasTwoHashes (pairs : List Pair) : Type 0 where
  pub number : ℕ
  pub one : List ℕ
  pub other : List ℕ
  pub one_shown : IsAmong (number, one) pairs
  pub other_shown : IsAmong (number, other) pairs
  pub differ : one ≢ other

-- A step was a File that was answered Filed, for a segment that no list of states makes honest after the
-- state at the end.
pub record IsFaultyFile (w : Watched) (past : Past) (p : Step × Reply) : Type 0 where
  pub job : JobParts
  pub filed : filed p.0 p.1 ≡ Some job
  pub none : (states : List State)
      → ¬ Honest w.roster (end_of w past).state (places_in job.segment.segment) states

-- one of the steps filed a segment with a fault
abbrev pub HasFaultyFile : Watched → Past → Type 0
HasFaultyFile w [] = ⊥
HasFaultyFile w (p ∷ past) = IsFaultyFile w past p ⊎ HasFaultyFile w past

-- A node is Exposed exactly if a number has two marks among what was shown, or such a File was filed.
abbrev pub ExposedExactlyIf : Type 0
ExposedExactlyIf =
    (w : Watched) (past : Past)
    → (indication w past ≡ Exposed) ↔ (HasTwoHashes (shown w past) ⊎ HasFaultyFile w past)

-- Where it isn't Exposed, it is Suspected exactly if a challenge is open.
abbrev pub SuspectedExactlyIf : Type 0
SuspectedExactlyIf =
    (w : Watched) (past : Past)
    → (indication w past ≡ Suspected) ↔ ((indication w past ≢ Exposed) × (open_challenges past ≢ []))

-- From such a File on the node is Exposed, whatever follows.
abbrev pub FaultStays : Type 0
FaultStays =
    (w : Watched) (later earlier : History)
    → HasFaultyFile w (own_of w earlier)
    → indication w (own_of w (later ++ earlier)) ≡ Exposed

-- Whatever exposed it, it stays Exposed.
abbrev pub ExposedStays : Type 0
ExposedStays =
    (w : Watched) (later earlier : History)
    → indication w (own_of w earlier) ≡ Exposed
    → indication w (own_of w (later ++ earlier)) ≡ Exposed

-- ---- who answered by the tree

-- A node whose log, of the version that the roster gives it, is honest from the state that it begins with is
-- never exposed, where its signatures aren't forged and no two texts have one digest.
abbrev pub HonestIsNeverExposed : Type 0
HonestIsNeverExposed =
    (g : Beginning) (w : Watched) (history : History) (log : List Logged) (s : State)
    → IsInRoster w → IsWatchedFrom g w → IsHistory g history
    → IsLogOf w.member.log_version log → (h : IsHonestLog w.roster (opening_of w.member) log s)
    → Unforged w log (own_of w history)
    → NoCollisionWith w log (opening_of w.member ∷ h.states) (own_of w history)
    → indication w (own_of w history) ≢ Exposed

-- ---- evidence

-- Evidence is there exactly where the node is Exposed.
abbrev pub EvidenceWhereExposed : Type 0
EvidenceWhereExposed =
    (g : Beginning) (w : Watched) (history : History)
    → IsInRoster w → IsWatchedFrom g w → IsHistory g history
    → IsSome (evidence w (own_of w history)) ↔ (indication w (own_of w history) ≡ Exposed)

-- It is of the node, has a text, and is accepted; so it proves that the node has no honest log.
pub record IsProof (w : Watched) (e : EvidenceParts) : Type 0 where
  pub node : e.node ≡ w.member.node
  pub text : Fits evidence_item (evidence_value e)
  pub accepted : Accepts w.roster e
  pub proves : Proves w.roster e

-- The evidence that a history gives against a member proves that it has no honest log.
abbrev pub EvidenceProves : Type 0
EvidenceProves =
    (g : Beginning) (w : Watched) (history : History) (e : EvidenceParts)
    → IsInRoster w → IsWatchedFrom g w → IsHistory g history
    → evidence w (own_of w history) ≡ Some e → IsProof w e

-- ---- who answers

-- A segment that was asked for is answered by that part of the node's log, closed by its signature there. The
-- answer is the node's step, it is accepted, and after it no audit is open.
pub record AnswersAudit (g : Beginning) (w : Watched) (history : History) (c : ClosedParts) : Type 0 where
  pub closed : IsClosedIn w.roster c.segment
  pub its : whose w.roster (events.Answer c) ≡ Ok (record { member = w.member; step = Answer c })
  pub reply : (reply : Reply) → IsOwed g history (events.Answer c) reply ↔ (reply ≡ Accepted)
  pub closes : (first last : ℕ)
      → let after : History = (events.Answer c, Accepted) ∷ history in
      ¬ IsAmong (AuditOf first last) (open_challenges (own_of w after))

-- a part of a log with its closing, under a roster
abbrev pub answer_of : List Member → OpenSegment → Authenticator → ClosedParts
answer_of ms s closing = record { segment = with_closing s closing; roster = ms }

-- The part of a node's log, of the version that the roster gives it, that was asked for, closed by the node's
-- signature at its last number, answers the audit, where it skips no more than a text may.
abbrev pub AnswersAreAccepted : Type 0
AnswersAreAccepted =
    (g : Beginning) (w : Watched) (history : History) (log : LogParts) (first last : ℕ) (s : OpenSegment)
    (closing : Authenticator)
    → IsRoster w.roster → IsInRoster w → IsWatchedFrom g w → log.node ≡ w.member.node → log.log_version ≡ w.member.log_version
    → stage_of (own_of w history) ≡ Wanted first last → GivesPart log first last (Ok s)
    → AllByRecursion (MaySkip s.log_version) (open_links s) → IsOfPlace log last closing → IsSignedBy w.member closing
    → AnswersAudit g w history (answer_of w.roster s closing)

-- The acknowledgement by a node of a message that it is challenged with is the node's step, it closes the
-- challenge, and after it none of that message is open.
pub record ClosesChallenge (g : Beginning) (w : Watched) (history : History) (a : Ack) (key : PublicKey) : Type 0 where
  pub its : whose w.roster (events.AckIn a key) ≡ Ok (record { member = w.member; step = AckIn a })
  pub reply : (reply : Reply) → IsOwed g history (events.AckIn a key) reply ↔ (reply ≡ Closed)
  pub closes : (e : Envelope) → envelope_message e ≡ acked_message a
      → let after : History = (events.AckIn a key, Closed) ∷ history in
      ¬ IsAmong (SendOf e) (open_challenges (own_of w after))

-- A node's acknowledgement of a message that it is challenged with closes the challenge.
abbrev pub AcksClose : Type 0
AcksClose =
    (g : Beginning) (w : Watched) (history : History) (e : Envelope) (a : Ack) (key : PublicKey)
    → IsInRoster w → IsWatchedFrom g w → IsTrue (is_key_of w.member key) → a.by ≡ w.member.node
    → IsAmong (SendOf e) (open_challenges (own_of w history)) → acked_message a ≡ envelope_message e
    → ClosesChallenge g w history a key

-- A segment has the RECV of a message in its node's log.
pub record HasRecv (s : VersionedParts) (message : Message) : Type 0 where
  pub from : ℕ
  pub seq : ℕ
  pub prev : List ℕ
  pub body : List ℕ
  pub signature : SignatureParts
  pub among : IsAmong (entries.Recv from seq prev body signature) (map (λ (l : Logged). l.entry) s.entries)
  pub is : message ≡ record { from = from; seq = seq; hash = message_hash s.node seq prev (sha256 body) }

-- After a segment that was accepted no audit is open; nor is a challenge with a message whose RECV it has.
-- All other challenges with messages stay open, and none is new.
pub record ClosesWhatItAnswers (w : Watched) (history : History) (c : ClosedParts) : Type 0 where
  pub audits : (first last : ℕ)
      → let after : History = (events.Answer c, Accepted) ∷ history in
      ¬ IsAmong (AuditOf first last) (open_challenges (own_of w after))
  pub sends : (e : Envelope)
      → let after : History = (events.Answer c, Accepted) ∷ history in
      IsAmong (SendOf e) (open_challenges (own_of w after))
      ↔ (IsAmong (SendOf e) (open_challenges (own_of w history))
      × ¬ HasRecv c.segment (envelope_message e))

-- A node's segment that is accepted closes the audit, and each challenge with a message whose RECV it has.
abbrev pub AnswersCloseChallenges : Type 0
AnswersCloseChallenges =
    (w : Watched) (history : History) (c : ClosedParts)
    → whose w.roster (events.Answer c) ≡ Ok (record { member = w.member; step = Answer c })
    → ClosesWhatItAnswers w history c
