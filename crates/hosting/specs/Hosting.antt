-- What a server answers to the calls of others: what its node owes to each of them.
use Rattle.std.specs.Prelude.{◌≡◌, ◌⊎◌, ◌==◌, ℕ, Bool, true, false, List, [], ◌++◌, Result, Ok, Err, Option, Some, None}
use Rattle.std.specs.Prelude.{IsSomeAnd, if◌then◌else◌, option_map}
use Rattle.nfs_items.specs.Timeval.{Timeval}
use Rattle.xdr.specs.Item.{Value, number_spelling, spelling}
use Rattle.rpc.specs.Call.{message_at}
use Rattle.rpc.specs.Reply.{reply_text}
use Rattle.rpc.specs.declared.reply.Reply.{Reply}
use Rattle.rpc.specs.declared.reply.ReplyBody.{ReplyBody}
use Rattle.rpc.specs.declared.reply.ReplyBody.TheVariants.{ProcedureUnavailable, SystemError}
use Rattle.authenticator.specs.Numbers.{number_in}
use Rattle.authenticator.specs.Signed.{authenticator_item, authenticator_value}
use Rattle.authenticator.specs.declared.member.LogVersion.{LogVersion}
use Rattle.secure_log.specs.Log.{hash_at}
use Rattle.secure_log.specs.declared.fault.SegmentFault.TheVariants as faults
use Rattle.envelopes.specs.Acknowledgement.{ack_item, ack_value}
use Rattle.envelopes.specs.Envelope.{envelope_item, envelope_value}
use Rattle.envelopes.specs.declared.acknowledgement.Ack.{Ack}
use Rattle.envelopes.specs.declared.envelope.Envelope.{Envelope}
use Rattle.commitment.specs.RefusalNumbers.{refusal_number}
use Rattle.commitment.specs.Senders.LookUps.{IsLastSigned, ack_at, authenticator_at}
use Rattle.commitment.specs.Senders.Sender.{SenderParts}
use Rattle.commitment.specs.declared.outcome.Received.{Received}
use Rattle.commitment.specs.declared.outcome.Received.TheVariants.{New, Repeat}
use Rattle.commitment.specs.declared.refusal.Refusal.{Refusal}
use Rattle.node_logs.specs.AckTaking.{TakesAck}
use Rattle.node_logs.specs.Challenges.{AnswersChallenge, RefusesChallenge}
use Rattle.node_logs.specs.Nodes.{NodeParts, sender_of}
use Rattle.node_logs.specs.Receiving.{Receives}
use Rattle.node_logs.specs.declared.outcome.AckTaken.{AckTaken}
use Rattle.node_logs.specs.declared.outcome.AckTaken.TheVariants.{Logged, Already}
use Rattle.node_logs.specs.declared.outcome.Receipt.{Receipt}
use Rattle.nodes.specs.Shareds.{HasNotStrayed}
use Rattle.nodes.specs.Sides.{IsReplyAt}
use Rattle.packets.specs.Packet.{answer_number}
use Rattle.peer_calls.specs.Answers as answers
use Rattle.peer_calls.specs.Answers.{Answered, Taken, delivered_text, greeted_text, segment_text, signed_text}
use Rattle.peer_calls.specs.Answers.{stands_text}
use Rattle.peer_calls.specs.declared.answers.Greeted.TheVariants.{Same, Other}
use Rattle.peer_calls.specs.Calls.{Call, judged, success_text}
use Rattle.peer_calls.specs.NodeRequests.{NodeAsk, Null, Greet, Deliver, Acknowledge, Signed, Segment, Stands, Base}
use Rattle.peer_calls.specs.NodeRequests.{node_ask_at}
use Rattle.peer_calls.specs.declared.call.Asked.{Asked}
use Rattle.peer_calls.specs.declared.call.TheConstants.{NODE_PROGRAM}
use Rattle.peer_calls.specs.declared.call.Unasked.{Unasked}
use Rattle.peer_calls.specs.declared.call.Unasked.TheVariants.{NoCall, Refused}
use Rattle.hosting.specs.BaseGiving.{IsBased}
use Rattle.hosting.specs.declared.host.Host.{Host}
use Rattle.hosting.specs.declared.unwritten.Progress.{Progress}
use Rattle.hosting.specs.declared.unwritten.Progress.TheVariants as progress
use Rattle.hosting.specs.declared.unwritten.Unwritten.{Unwritten}
use Rattle.request_streams.specs.declared.answerer.Outcome.{Outcome}
use Rattle.request_streams.specs.declared.answerer.Outcome.TheVariants as outcomes

-- ---- results

-- the results say a refusal by its number; being out of memory has none
abbrev pub IsNumber : Option ℕ → (results : List ℕ) → Type 0
IsNumber None results = ⊥
IsNumber (Some number) results = results ≡ number_spelling 4 number

-- 0 where both go by one roster, else 1 and the digest of the own one
abbrev pub IsGreeted : (theirs own results : List ℕ) → Type 0
IsGreeted theirs own results =
    ((theirs ≡ own) × (results ≡ greeted_text Same))
    ⊎ ((¬ (theirs ≡ own)) × (results ≡ greeted_text (Other own)))

-- the text of an acknowledgement, and of the envelope of a reply, if there is one
abbrev pub ack_spelling : Ack → List ℕ
ack_spelling a = spelling ack_item (ack_value a)

abbrev pub reply_spelling : Option Envelope → Option (List ℕ)
reply_spelling e = option_map (λ x. spelling envelope_item (envelope_value x)) e

-- The results are what a node shows of a message: its acknowledgement, and the reply's envelope, if one is owed.
pub record IsShown (n : NodeParts) (r : Receipt) (results : List ℕ) : Type 0 where
  pub ack : Ack
  pub envelope : Option Envelope
  pub made : ack_at (sender_of n) r.ack ≡ Some ack
  pub at : IsReplyAt (sender_of n) r.reply envelope
  pub results_are : results ≡ delivered_text (Taken (ack_spelling ack) (reply_spelling envelope))

-- the same results, of an answer that is still to be written
abbrev pub unwritten_results : Unwritten → List ℕ
unwritten_results u = delivered_text (Taken (ack_spelling u.ack) (reply_spelling u.reply))

-- what a node that received a message, or refused it, answers
abbrev pub IsDelivered : Result (Received Receipt) Refusal → NodeParts → (results : List ℕ) → Type 0
IsDelivered (Ok (New r)) n results = IsShown n r results
IsDelivered (Ok (Repeat r)) n results = IsShown n r results
IsDelivered (Err refusal) n results = IsNumber (refusal_number refusal) results

-- what became of an acknowledgement: 0 where it was logged, 10 where its SEND had one
abbrev pub IsAckTold : Result AckTaken Refusal → (results : List ℕ) → Type 0
IsAckTold (Ok (Logged number)) results = results ≡ number_spelling 4 0
IsAckTold (Ok Already) results = results ≡ number_spelling 4 10
IsAckTold (Err refusal) results = IsNumber (refusal_number refusal) results

-- the authenticator of a number, if there is one
abbrev pub IsSignedText : SenderParts → Option ℕ → (results : List ℕ) → Type 0
IsSignedText s None results = results ≡ signed_text None
IsSignedText s (Some number) results =
    IsSomeAnd (authenticator_at s number) (λ a.
    results ≡ signed_text (Some (spelling authenticator_item (authenticator_value a))))

-- the results with a segment's text
abbrev pub audited_text : LogVersion → (text : List ℕ) → List ℕ
audited_text version text = segment_text (Answered (number_spelling 4 (answer_number version) ++ text))

-- a segment's packet, or why there is none
pub data IsAudited (n : NodeParts) (first last : ℕ) (results : List ℕ) : Type 0 where
  is_answer : (text : List ℕ) → AnswersChallenge n first last text
      → results ≡ audited_text n.log_version text
      → IsAudited n first last results
  out_of_range : RefusesChallenge n first last faults.OutOfRange → results ≡ segment_text answers.OutOfRange
      → IsAudited n first last results
  too_long : RefusesChallenge n first last faults.TooLong → results ≡ segment_text answers.TooLong
      → IsAudited n first last results

-- An authenticator names this node, and the number for which its word stands and its hash are a pair of the log.
pub record HasPair (n : NodeParts) (a : Value authenticator_item) : Type 0 where
  pub is_named : a.0 ≡ n.node
  pub is_pair : hash_at n.entries (number_in n.log_version a.1.0) ≡ Some a.1.1.0

-- whether it does
abbrev pub IsStood : NodeParts → Value authenticator_item → (results : List ℕ) → Type 0
IsStood n a results =
    (HasPair n a × (results ≡ stands_text true)) ⊎ ((¬ HasPair n a) × (results ≡ stands_text false))

-- ---- what is asked

-- whether a procedure gives out a log, or what a whole state is: SEGMENT (5) and BASE (7)
abbrev pub gives_logs : (procedure : ℕ) → Bool
gives_logs procedure = if procedure == 5 then true else procedure == 7

-- whether a host serves a procedure: these two where it gives segments, and all others
abbrev pub serves : Host → (procedure : ℕ) → Bool
serves h procedure = if gives_logs procedure then h.gives_segments else true

-- what the arguments of a procedure ask of a host, or PROC_UNAVAIL where it doesn't serve the procedure (RFC 5531,
-- section 9)
abbrev pub host_ask_at : Host → (procedure : ℕ) → (arguments : List ℕ) → Result NodeAsk ReplyBody
host_ask_at h procedure arguments =
    if serves h procedure then node_ask_at procedure arguments else Err ProcedureUnavailable

-- What was asked of a node at a time has these results, and left it so.
abbrev pub Does : Host → NodeParts → Timeval → NodeAsk → (results : List ℕ) → NodeParts → Type 0
Does h n time Null results n' = (results ≡ []) × (n' ≡ n)
Does h n time (Greet digest node) results n' = IsGreeted digest h.digest results × (n' ≡ n)
Does h n time (Deliver text) results n' =
    (r : Result (Received Receipt) Refusal) × Receives n time text r n' × IsDelivered r n' results
Does h n time (Acknowledge text) results n' =
    (r : Result AckTaken Refusal) × TakesAck n text r n' × IsAckTold r results
Does h n time (Signed after) results n' =
    (l : Option ℕ) × IsLastSigned (sender_of n) after l × IsSignedText (sender_of n) l results × (n' ≡ n)
Does h n time (Segment first last) results n' = IsAudited n first last results × (n' ≡ n)
Does h n time (Stands a) results n' = IsStood n a results × (n' ≡ n)
Does h n time (Base node after) results n' = IsBased n node after results × (n' ≡ n)

-- what has its results written at once: all but that a message is to be received
abbrev pub IsNoMessage : NodeAsk → Type 0
IsNoMessage Null = Unit {0}
IsNoMessage (Greet digest node) = Unit {0}
IsNoMessage (Deliver text) = ⊥
IsNoMessage (Acknowledge text) = Unit {0}
IsNoMessage (Signed after) = Unit {0}
IsNoMessage (Segment first last) = Unit {0}
IsNoMessage (Stands a) = Unit {0}
IsNoMessage (Base node after) = Unit {0}

-- what is told of a node that is only looked at
abbrev pub OnlyLooks : NodeAsk → Type 0
OnlyLooks Null = Unit {0}
OnlyLooks (Greet digest node) = Unit {0}
OnlyLooks (Deliver text) = ⊥
OnlyLooks (Acknowledge text) = ⊥
OnlyLooks (Signed after) = Unit {0}
OnlyLooks (Segment first last) = Unit {0}
OnlyLooks (Stands a) = Unit {0}
OnlyLooks (Base node after) = Unit {0}

-- Memory was refused while it was done, or for its results: what was done then stands, and nothing else was done.
abbrev pub MayDo : NodeParts → Timeval → NodeAsk → NodeParts → Type 0
MayDo n time Null n' = n' ≡ n
MayDo n time (Greet digest node) n' = n' ≡ n
MayDo n time (Deliver text) n' = (r : Result (Received Receipt) Refusal) × Receives n time text r n'
MayDo n time (Acknowledge text) n' = (r : Result AckTaken Refusal) × TakesAck n text r n'
MayDo n time (Signed after) n' = n' ≡ n
MayDo n time (Segment first last) n' = n' ≡ n
MayDo n time (Stands a) n' = n' ≡ n
MayDo n time (Base node after) n' = n' ≡ n

-- ---- what is answered

-- a reply without results
abbrev pub bare : (xid : ℕ) → ReplyBody → List ℕ
bare xid body = reply_text (record { xid = xid; body = body })

-- What is answered to a request that was read: its results after SUCCESS; or SYSTEM_ERR where memory was refused.
pub data AnswersAsk (h : Host) (n : NodeParts) (time : Timeval) (xid : ℕ) (a : NodeAsk) (text : List ℕ)
    (n' : NodeParts) : Type 0 where
  done : (results : List ℕ) → Does h n time a results n' → text ≡ success_text xid ++ results
      → AnswersAsk h n time xid a text n'
  no_memory : MayDo n time a n' → text ≡ bare xid SystemError → AnswersAsk h n time xid a text n'

-- the same by what became of it; where memory was refused for the reply too, it may have been done
abbrev pub IsAnswerTo : Host → NodeParts → Timeval → (xid : ℕ) → NodeAsk → Outcome → (text : List ℕ) → NodeParts
    → Type 0
IsAnswerTo h n time xid a outcomes.Replied text n' = AnswersAsk h n time xid a text n'
IsAnswerTo h n time xid a outcomes.NoCall text n' = ⊥
IsAnswerTo h n time xid a outcomes.NoMemory text n' = (n' ≡ n) ⊎ MayDo n time a n'

-- a reply without results was written, or memory was refused for it
abbrev pub IsReplied : Reply → Outcome → (text : List ℕ) → Type 0
IsReplied reply outcomes.Replied text = text ≡ reply_text reply
IsReplied reply outcomes.NoCall text = ⊥
IsReplied reply outcomes.NoMemory text = Unit {0}

-- A refusal was told by its number after SUCCESS; or SYSTEM_ERR was written, or memory was refused for that, too.
abbrev pub IsRefused : Refusal → (xid : ℕ) → Outcome → (text : List ℕ) → Type 0
IsRefused refusal xid outcomes.Replied text =
    ((results : List ℕ) × IsNumber (refusal_number refusal) results × (text ≡ success_text xid ++ results))
    ⊎ (text ≡ bare xid SystemError)
IsRefused refusal xid outcomes.NoCall text = ⊥
IsRefused refusal xid outcomes.NoMemory text = Unit {0}

-- What a node shows of a message is left to be written; or SYSTEM_ERR was written, or memory was refused for that, too.
abbrev pub IsLeft : NodeParts → Receipt → (xid : ℕ) → Progress → (text : List ℕ) → Type 0
IsLeft n r xid (progress.Done outcome) text = IsReplied (record { xid = xid; body = SystemError }) outcome text
IsLeft n r xid (progress.Unwritten u) text = (u.xid ≡ xid) × IsShown n r (unwritten_results u)

-- a refusal is told at once
abbrev pub IsRefusedAtOnce : Refusal → (xid : ℕ) → Progress → (text : List ℕ) → Type 0
IsRefusedAtOnce refusal xid (progress.Done outcome) text = IsRefused refusal xid outcome text
IsRefusedAtOnce refusal xid (progress.Unwritten u) text = ⊥

-- what became of the answer to a message that a node received, or refused
abbrev pub IsReceivedTold : Result (Received Receipt) Refusal → NodeParts → (xid : ℕ) → Progress → (text : List ℕ)
    → Type 0
IsReceivedTold (Ok (New r)) n xid p text = IsLeft n r xid p text
IsReceivedTold (Ok (Repeat r)) n xid p text = IsLeft n r xid p text
IsReceivedTold (Err refusal) n xid p text = IsRefusedAtOnce refusal xid p text

-- An answer that was left to be written was written: its results after SUCCESS; or SYSTEM_ERR, or memory was refused
-- for that, too.
abbrev pub IsFinished : Unwritten → Outcome → (text : List ℕ) → Type 0
IsFinished u outcomes.Replied text =
    (text ≡ success_text u.xid ++ unwritten_results u) ⊎ (text ≡ bare u.xid SystemError)
IsFinished u outcomes.NoCall text = ⊥
IsFinished u outcomes.NoMemory text = Unit {0}

-- This holds of what became of a record, and of the text of the answer: where it is left to be written, of whatever
-- may be written.
abbrev pub OnceFinished : (Outcome → List ℕ → Type 0) → Progress → (text : List ℕ) → Type 0
OnceFinished Holds (progress.Done outcome) text = Holds outcome text
OnceFinished Holds (progress.Unwritten u) text =
    (outcome : Outcome) (finished : List ℕ) → IsFinished u outcome finished → Holds outcome finished

-- the call that the program's value says
abbrev pub call_of : Asked → Call
call_of a = record { xid = a.xid; procedure = a.procedure; arguments = a.arguments.now }

-- the same by what the arguments ask, or their refusal
abbrev pub AnswersRead : Host → NodeParts → Timeval → (xid : ℕ) → Result NodeAsk ReplyBody → (text : List ℕ)
    → NodeParts → Type 0
AnswersRead h n time xid (Ok a) text n' = AnswersAsk h n time xid a text n'
AnswersRead h n time xid (Err body) text n' =
    ((text ≡ bare xid body) ⊎ (text ≡ bare xid SystemError)) × (n' ≡ n)

-- What stands where memory was refused for a reply: what was asked may have been done.
abbrev pub StandsAfter : NodeParts → Timeval → Result Call Unasked → NodeParts → Type 0
StandsAfter n time (Err e) n' = n' ≡ n
StandsAfter n time (Ok c) n' =
    (n' ≡ n) ⊎ ((a : NodeAsk) × (node_ask_at c.procedure c.arguments ≡ Ok a) × MayDo n time a n')

-- What is answered to a call, or to what is none, which gets no reply.
abbrev pub AnswersCall : Host → NodeParts → Timeval → Result Call Unasked → Outcome → (text : List ℕ) → NodeParts
    → Type 0
AnswersCall h n time call outcomes.NoMemory text n' = StandsAfter n time call n'
AnswersCall h n time (Err NoCall) outcomes.NoCall text n' = n' ≡ n
AnswersCall h n time (Err (Refused reply)) outcomes.NoCall text n' = ⊥
AnswersCall h n time (Ok c) outcomes.NoCall text n' = ⊥
AnswersCall h n time (Err NoCall) outcomes.Replied text n' = ⊥
AnswersCall h n time (Err (Refused reply)) outcomes.Replied text n' = (text ≡ reply_text reply) × (n' ≡ n)
AnswersCall h n time (Ok c) outcomes.Replied text n' =
    AnswersRead h n time c.xid (host_ask_at h c.procedure c.arguments) text n'

-- A text is an answer to a record by a server that lay under a lock: neither it nor what it was left as has strayed.
pub record IsAnsweredUnderLock (h : Host) (record_bytes text : List ℕ) : Type 0 where
  pub node : NodeParts
  pub time : Timeval
  pub left : NodeParts
  pub straight : HasNotStrayed node
  pub stays : HasNotStrayed left
  pub answers :
      AnswersCall h node time (judged NODE_PROGRAM (message_at record_bytes)) outcomes.Replied text left
