-- What is answered to a message that was received, or refused, once the answer is written.
-- Serves: answer_asked, answer_request, deliver.
use Rattle.std.proofs.Common.{◌≡◌, ℕ, List, true, Result, Ok, Err, sym, subst, ◌∙◌, ap, inl, inr}
use Rattle.std.specs.Prelude.{◌++◌}
use Rattle.nfs_items.specs.Timeval.{Timeval}
use Rattle.rpc.specs.declared.reply.ReplyBody.{ReplyBody}
use Rattle.rpc.specs.declared.reply.ReplyBody.TheVariants.{SystemError}
use Rattle.commitment.specs.declared.outcome.Received.{Received}
use Rattle.commitment.specs.declared.outcome.Received.TheVariants.{New, Repeat}
use Rattle.commitment.specs.declared.refusal.Refusal.{Refusal}
use Rattle.node_logs.specs.Nodes.{NodeParts}
use Rattle.node_logs.specs.Receiving.{Receives}
use Rattle.node_logs.specs.declared.outcome.Receipt.{Receipt}
use Rattle.peer_calls.specs.Calls.{Call, success_text}
use Rattle.peer_calls.specs.NodeRequests.{NodeAsk, Deliver, node_ask_at}
use Rattle.hosting.specs.declared.host.Host.{Host}
use Rattle.hosting.specs.declared.unwritten.Progress.{Progress}
use Rattle.hosting.specs.declared.unwritten.Progress.TheVariants as progress
use Rattle.hosting.specs.declared.unwritten.Unwritten.{Unwritten}
use Rattle.hosting.specs.Hosting.{AnswersCall, AnswersRead, IsAnswerTo, IsDelivered, IsFinished, IsReceivedTold}
use Rattle.hosting.specs.Hosting.{IsRefused, IsReplied, OnceFinished, bare, done, no_memory, serves, unwritten_results}
use Rattle.hosting.proofs.Answered.{asked}
use Rattle.request_streams.specs.declared.answerer.Outcome.{Outcome}
use Rattle.request_streams.specs.declared.answerer.Outcome.TheVariants as outcomes

-- what follows of every answer follows once it is written
pub once : (P Q : Outcome → List ℕ → Type 0) (p : Progress) (text : List ℕ)
    → ((outcome : Outcome) (t : List ℕ) → P outcome t → Q outcome t) → OnceFinished P p text → OnceFinished Q p text
once P Q (progress.Done outcome) text leads holds = leads outcome text holds
once P Q (progress.Unwritten u) text leads holds =
    λ outcome finished is. leads outcome finished (holds outcome finished is)

-- the answer to a message that was received
pub finished_as : (h : Host) (n : NodeParts) (time : Timeval) (xid : ℕ) (message : List ℕ)
    (r : Result (Received Receipt) Refusal) (n' : NodeParts) (u : Unwritten) → Receives n time message r n'
    → u.xid ≡ xid → IsDelivered r n' (unwritten_results u) → (outcome : Outcome) (text : List ℕ)
    → IsFinished u outcome text → IsAnswerTo h n time xid (Deliver message) outcome text n'
finished_as h n time xid message r n' u receives same delivered outcomes.Replied text (inl is) =
    done (unwritten_results u) (r, receives, delivered)
    (is ∙ ap (λ (x : ℕ). success_text x ++ unwritten_results u) same)
finished_as h n time xid message r n' u receives same delivered outcomes.Replied text (inr is) =
    no_memory (r, receives) (is ∙ ap (λ (x : ℕ). bare x SystemError) same)
finished_as h n time xid message r n' u receives same delivered outcomes.NoCall text is = absurd is
finished_as h n time xid message r n' u receives same delivered outcomes.NoMemory text is = inr (r, receives)

-- the answer where memory was refused for what is shown of it
pub short : (h : Host) (n : NodeParts) (time : Timeval) (xid : ℕ) (message : List ℕ)
    (r : Result (Received Receipt) Refusal) (n' : NodeParts) → Receives n time message r n' → (outcome : Outcome)
    (text : List ℕ) → IsReplied (record { xid = xid; body = SystemError }) outcome text
    → IsAnswerTo h n time xid (Deliver message) outcome text n'
short h n time xid message r n' receives outcomes.Replied text is = no_memory (r, receives) is
short h n time xid message r n' receives outcomes.NoCall text is = absurd is
short h n time xid message r n' receives outcomes.NoMemory text is = inr (r, receives)

-- the answer to a message that was refused
pub refused_for : (h : Host) (n : NodeParts) (time : Timeval) (xid : ℕ) (message : List ℕ) (refusal : Refusal)
    (n' : NodeParts) → Receives n time message (Err refusal) n' → (outcome : Outcome) (text : List ℕ)
    → IsRefused refusal xid outcome text → IsAnswerTo h n time xid (Deliver message) outcome text n'
refused_for h n time xid message refusal n' receives outcomes.Replied text (inl told) =
    done told.0 (Err refusal, receives, told.1) told.2
refused_for h n time xid message refusal n' receives outcomes.Replied text (inr is) =
    no_memory (Err refusal, receives) is
refused_for h n time xid message refusal n' receives outcomes.NoCall text is = absurd is
refused_for h n time xid message refusal n' receives outcomes.NoMemory text is = inr (Err refusal, receives)

-- the answer to a message, once it is written
pub received_as : (h : Host) (n : NodeParts) (time : Timeval) (xid : ℕ) (message : List ℕ)
    (r : Result (Received Receipt) Refusal) (n' : NodeParts) (p : Progress) (text : List ℕ)
    → Receives n time message r n' → IsReceivedTold r n' xid p text
    → OnceFinished (λ (outcome : Outcome) (t : List ℕ). IsAnswerTo h n time xid (Deliver message) outcome t n') p text
received_as h n time xid message (Ok (New r)) n' (progress.Done outcome) text receives told =
    short h n time xid message (Ok (New r)) n' receives outcome text told
received_as h n time xid message (Ok (New r)) n' (progress.Unwritten u) text receives told =
    finished_as h n time xid message (Ok (New r)) n' u receives told.0 told.1
received_as h n time xid message (Ok (Repeat r)) n' (progress.Done outcome) text receives told =
    short h n time xid message (Ok (Repeat r)) n' receives outcome text told
received_as h n time xid message (Ok (Repeat r)) n' (progress.Unwritten u) text receives told =
    finished_as h n time xid message (Ok (Repeat r)) n' u receives told.0 told.1
received_as h n time xid message (Err refusal) n' (progress.Done outcome) text receives told =
    refused_for h n time xid message refusal n' receives outcome text told
received_as h n time xid message (Err refusal) n' (progress.Unwritten u) text receives told = absurd told

-- the answer to a call whose arguments were read
pub read_as : (h : Host) (n : NodeParts) (time : Timeval) (c : Call) (a : NodeAsk) (n' : NodeParts)
    → serves h c.procedure ≡ true → node_ask_at c.procedure c.arguments ≡ Ok a → (outcome : Outcome)
    (text : List ℕ) → IsAnswerTo h n time c.xid a outcome text n' → AnswersCall h n time (Ok c) outcome text n'
read_as h n time c a n' is read outcomes.Replied text answers =
    subst (λ (r : Result NodeAsk ReplyBody). AnswersRead h n time c.xid r text n') (sym (asked h c true is ∙ read)) answers
read_as h n time c a n' is read outcomes.NoCall text answers = absurd answers
read_as h n time c a n' is read outcomes.NoMemory text (inl same) = inl same
read_as h n time c a n' is read outcomes.NoMemory text (inr may) = inr (a, read, may)
