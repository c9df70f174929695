-- What a witness answers to a call.
use Rattle.std.specs.Prelude.{◌≡◌, ◌⊎◌, ◌-◌, ℕ, ◌==◌, nat_le, List, [], ◌∷◌, ◌++◌, length, map, Result, Ok, Err}
use Rattle.std.specs.Prelude.{Option, Some, None, option_map, if◌then◌else◌}
use Rattle.xdr.specs.Item.{fixed, number_spelling, spelling}
use Rattle.rpc.specs.Reply.{reply_text}
use Rattle.rpc.specs.declared.reply.Reply.{Reply}
use Rattle.rpc.specs.declared.reply.ReplyBody.{ReplyBody}
use Rattle.rpc.specs.declared.reply.ReplyBody.TheVariants.{SystemError}
use Rattle.authenticator.specs.Roster.{roster_value}
use Rattle.authenticator.specs.Signed.{authenticator_item, authenticator_value}
use Rattle.authenticator.specs.declared.authenticator.Authenticator.{Authenticator}
use Rattle.authenticator.specs.declared.member.Member.{Member}
use Rattle.envelopes.specs.declared.envelope.Envelope.{Envelope}
use Rattle.packets.specs.Packet.{SendChallenge, packet_text}
use Rattle.peer_calls.specs.Answers.{NodeCase, NoCase, Here, TooLarge, case_text, message_value, shown_text, told_item}
use Rattle.peer_calls.specs.Answers.{wanted_item}
use Rattle.peer_calls.specs.Calls.{Call, success_text}
use Rattle.peer_calls.specs.WitnessRequests.{WitnessAsk, Null, Greet, Deliver, Wanted, Told, Shown, Case, Base}
use Rattle.peer_calls.specs.WitnessRequests.{witness_ask_at}
use Rattle.peer_calls.specs.declared.cases.TheConstants.{MAX_CASE}
use Rattle.peer_calls.specs.declared.call.Asked.{Asked}
use Rattle.peer_calls.specs.declared.call.Unasked.{Unasked}
use Rattle.peer_calls.specs.declared.call.Unasked.TheVariants.{NoCall, Refused}
use Rattle.witness_spec.specs.Replies.{Challenge, AuditOf, SendOf, Indication, Trusted, Suspected, Exposed}
use Rattle.witness_books.specs.node_book.Replies.{indication_in}
use Rattle.challenge.specs.Cases.{case_item}
use Rattle.witness_spec.specs.evidence_spec.Evidence.{EvidenceParts, evidence_value}
use Rattle.watching.specs.BaseGiving.{based_results}
use Rattle.watching.specs.Shown.{MayNote, Notes, StandingParts, last_shown}
use Rattle.watching.specs.Telling.{IsDelivered, ListsIf, MayBeDelivered, ShowsIf, TellsIf, WereAsked}
use Rattle.watching.specs.Telling.{delivered_number}
use Rattle.watching.specs.declared.answer.Outcome.{Outcome}
use Rattle.watching.specs.declared.answer.Outcome.TheVariants as outcomes
use Rattle.watching.specs.declared.deliver.Delivered.{Delivered}
use Rattle.watching.specs.declared.results.Host.{Host}
use Rattle.watching.specs.declared.results.Opened.{Opened}
use Rattle.watching.specs.declared.told.NodeTold.{NodeTold}

-- ---- results

-- 0 where both go by one roster, else 1 and the digest of the own one
abbrev pub IsGreeted : (theirs own results : List ℕ) → Type 0
IsGreeted theirs own results =
    ((theirs ≡ own) × (results ≡ number_spelling 4 0))
    ⊎ ((¬ (theirs ≡ own)) × (results ≡ number_spelling 4 1 ++ spelling (fixed 32) own))

-- the first and the last number of the audit among challenges
abbrev pub audit_of : List Challenge → Option (ℕ × ℕ)
audit_of [] = None
audit_of (AuditOf first last ∷ challenges) = Some (first, last)
audit_of (SendOf e ∷ challenges) = audit_of challenges

-- the messages among them
abbrev pub messages_of : List Challenge → List Envelope
messages_of [] = []
messages_of (AuditOf first last ∷ challenges) = messages_of challenges
messages_of (SendOf e ∷ challenges) = e ∷ messages_of challenges

-- what a node is to answer
abbrev pub wanted_results : List Challenge → List ℕ
wanted_results challenges = spelling wanted_item
    (audit_of challenges, map message_value (messages_of challenges))

-- the packet of a challenge's message
abbrev pub message_text : Challenge → List ℕ
message_text (AuditOf first last) = []
message_text (SendOf e) = packet_text (SendChallenge e)

-- and those of challenges
abbrev pub messages_text : List Challenge → List ℕ
messages_text [] = []
messages_text (c ∷ challenges) = message_text c ++ messages_text challenges

-- 1 trusted, 2 suspected, 3 exposed
abbrev pub standing_number : Indication → ℕ
standing_number Trusted = 1
standing_number Suspected = 2
standing_number Exposed = 3

-- how many seconds ago a node's oldest open challenge was opened; 0 of a node that isn't listed
abbrev pub seconds_of : (time : ℕ) → List Opened → (node : ℕ) → ℕ
seconds_of time [] node = 0
seconds_of time (o ∷ opened) node = if o.node == node then time - o.at else seconds_of time opened node

-- the same where a challenge is open
abbrev pub seconds_told : Host → NodeTold → ℕ
seconds_told h told = if told.open == 0 then 0 else seconds_of h.time h.opened.items told.node

-- what is told of a node; of one who is no member zeros
abbrev pub told_results : Host → Option NodeTold → List ℕ
told_results h None = spelling told_item (0, (0, (0, 0)))
told_results h (Some told) =
    spelling told_item
    (standing_number (indication_in told.indication), (told.open, (told.end, seconds_told h told)))

-- the packet of what a node showed last, if it showed something
abbrev pub shown_results : Option Authenticator → List ℕ
shown_results a = shown_text (option_map (λ x. spelling authenticator_item (authenticator_value x)) a)

-- the bytes of the file with evidence: the roster's text, and then the evidence's
abbrev pub case_file : List Member → EvidenceParts → List ℕ
case_file ms e = spelling case_item (roster_value ms, evidence_value e)

-- the file, or how many bytes it has, where these are too many
abbrev pub case_sent : (file : List ℕ) → NodeCase
case_sent file = if nat_le (length file) MAX_CASE then Here file else TooLarge (length file)

-- what is answered of the evidence against a node, if there is some
abbrev pub case_results : List Member → Option EvidenceParts → List ℕ
case_results ms None = case_text NoCase
case_results ms (Some e) = case_text (case_sent (case_file ms e))

-- ---- what is asked

-- What was asked of a witness has these results, by what its books replied, and led it on to this.
abbrev pub Does : Host → StandingParts → WitnessAsk → (results : List ℕ) → StandingParts → Type 0
Does h s Null results s' = (results ≡ []) × (s' ≡ s)
Does h s (Greet digest node) results s' = IsGreeted digest h.digest results × (s' ≡ s)
Does h s (Deliver packet) results s' =
    (became : Delivered) × IsDelivered s.books packet became s'.books × Notes s packet became s'
    × (results ≡ number_spelling 4 (delivered_number became))
Does h s (Wanted node) results s' =
    (challenges : List Challenge) × ListsIf s.books node challenges s'.books × (s'.shown ≡ s.shown)
    × (results ≡ wanted_results challenges)
Does h s (Told node) results s' =
    (told : Option NodeTold) × TellsIf s.books node told s'.books × (s'.shown ≡ s.shown)
    × (results ≡ told_results h told)
Does h s (Shown node) results s' = (results ≡ shown_results (last_shown s node)) × (s' ≡ s)
Does h s (Case node) results s' =
    (evidence : Option EvidenceParts) × ShowsIf s.books node evidence s'.books × (s'.shown ≡ s.shown)
    × (results ≡ case_results s.books.roster evidence)
Does h s (Base node after) results s' = (results ≡ based_results s.books node after) × (s' ≡ s)

-- Memory was refused while it was done, or for its results: the books may have been led on by it, and by
-- nothing else.
abbrev pub MayDo : StandingParts → WitnessAsk → StandingParts → Type 0
MayDo s Null s' = s' ≡ s
MayDo s (Greet digest node) s' = s' ≡ s
MayDo s (Deliver packet) s' = MayBeDelivered s.books packet s'.books × MayNote s packet s'
MayDo s (Wanted node) s' = WereAsked s.books node s'.books × (s'.shown ≡ s.shown)
MayDo s (Told node) s' = WereAsked s.books node s'.books × (s'.shown ≡ s.shown)
MayDo s (Shown node) s' = s' ≡ s
MayDo s (Case node) s' = WereAsked s.books node s'.books × (s'.shown ≡ s.shown)
MayDo s (Base node after) s' = s' ≡ s

-- ---- what is answered

-- a reply without results
abbrev pub without_results : (xid : ℕ) → ReplyBody → List ℕ
without_results xid body = reply_text (record { xid = xid; body = body })

-- What is answered to what is asked: its results after SUCCESS, or SYSTEM_ERR where memory was refused.
pub data Answers (h : Host) (s : StandingParts) (xid : ℕ) (a : WitnessAsk) (text : List ℕ)
    (s' : StandingParts)
    : Type 0 where
  Done : (results : List ℕ) → Does h s a results s' → text ≡ success_text xid ++ results
      → Answers h s xid a text s'
  NoMemory : MayDo s a s' → text ≡ without_results xid SystemError → Answers h s xid a text s'

-- what is answered to the arguments of a procedure, or to those that ask nothing
abbrev pub AnswersRead : Host → StandingParts → (xid : ℕ) → Result WitnessAsk ReplyBody → (text : List ℕ)
    → StandingParts
    → Type 0
AnswersRead h s xid (Ok a) text s' = Answers h s xid a text s'
AnswersRead h s xid (Err body) text s' =
    (s' ≡ s) × ((text ≡ without_results xid body) ⊎ (text ≡ without_results xid SystemError))

-- what becomes of the books where memory was refused for a reply
abbrev pub MayDoRead : StandingParts → Result WitnessAsk ReplyBody → StandingParts → Type 0
MayDoRead s (Ok a) s' = (s' ≡ s) ⊎ MayDo s a s'
MayDoRead s (Err body) s' = s' ≡ s

-- A call was answered so.
abbrev pub RepliesTo : Host → StandingParts → (xid : ℕ) → Result WitnessAsk ReplyBody → Outcome → (text : List ℕ)
    → StandingParts → Type 0
RepliesTo h s xid ask outcomes.Replied text s' = AnswersRead h s xid ask text s'
RepliesTo h s xid ask outcomes.NoMemory text s' = MayDoRead s ask s'
RepliesTo h s xid ask outcomes.NoCall text s' = ⊥

-- a reply without results was written, or memory was refused for it
abbrev pub IsWritten : Reply → Outcome → (text : List ℕ) → Type 0
IsWritten reply outcomes.Replied text = text ≡ reply_text reply
IsWritten reply outcomes.NoMemory text = Unit {0}
IsWritten reply outcomes.NoCall text = ⊥

-- the call of the program's value
abbrev pub call_in : Asked → Call
call_in a = record { xid = a.xid; procedure = a.procedure; arguments = a.arguments.now }

-- What becomes of a record, by what its bytes ask of a witness: what is no call gets no reply, and a refused
-- call its refusal.
abbrev pub AnswersRecord : Host → StandingParts → Result Call Unasked → Outcome → (text : List ℕ) → StandingParts
    → Type 0
AnswersRecord h s (Err NoCall) outcome text s' = (outcome ≡ outcomes.NoCall) × (s' ≡ s)
AnswersRecord h s (Err (Refused reply)) outcome text s' = IsWritten reply outcome text ×
    (s' ≡ s)
AnswersRecord h s (Ok c) outcome text s' =
    RepliesTo h s c.xid (witness_ask_at c.procedure c.arguments) outcome text s'
