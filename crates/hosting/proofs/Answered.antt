-- What is answered where nothing was done, or memory was refused.
-- Serves: add_answer, answer_asked, add_results.
use Rattle.std.proofs.Common.{◌≡◌, ℕ, Bool, true, List, Result, Ok, Err, refl, sym, subst, ◌∙◌, ap}
use Rattle.std.proofs.Common.{inl, inr}
use Rattle.std.specs.Prelude.{◌⊎◌, ◌++◌, OnErr, OnOk, if◌then◌else◌}
use Rattle.nfs_items.specs.Timeval.{Timeval}
use Rattle.rpc.specs.declared.reply.ReplyBody.{ReplyBody}
use Rattle.rpc.specs.declared.reply.ReplyBody.TheVariants.{ProcedureUnavailable, SystemError}
use Rattle.commitment.specs.declared.refusal.Refusal.TheVariants.{NoMemory}
use Rattle.node_logs.specs.Nodes.{NodeParts}
use Rattle.peer_calls.specs.Calls.{Call}
use Rattle.peer_calls.specs.NodeRequests.{NodeAsk, Null, Greet, Deliver, Acknowledge, Signed, Segment, Stands, Base}
use Rattle.peer_calls.specs.NodeRequests.{node_ask_at}
use Rattle.hosting.specs.declared.host.Host.{Host}
use Rattle.hosting.specs.Hosting.{AnswersCall, AnswersRead, IsReplied, MayDo, bare, host_ask_at}
use Rattle.hosting.specs.Hosting.{no_memory, serves}
use Rattle.request_streams.specs.declared.answerer.Outcome.{Outcome}
use Rattle.request_streams.specs.declared.answerer.Outcome.TheVariants as outcomes

-- nothing was done
pub nothing_done : (n : NodeParts) (time : Timeval) (a : NodeAsk) → MayDo n time a n
nothing_done n time Null = refl
nothing_done n time (Greet digest node) = refl
nothing_done n time (Deliver text) = (Err NoMemory, refl)
nothing_done n time (Acknowledge text) = (Err NoMemory, refl)
nothing_done n time (Signed after) = refl
nothing_done n time (Segment first last) = refl
nothing_done n time (Stands a) = refl
nothing_done n time (Base node after) = refl

-- memory was refused while the arguments were read
unread : (h : Host) (n : NodeParts) (time : Timeval) (xid : ℕ) (text : List ℕ) (r : Result NodeAsk ReplyBody)
    → text ≡ bare xid SystemError → AnswersRead h n time xid r text n
unread h n time xid text (Ok a) is = no_memory (nothing_done n time a) is
unread h n time xid text (Err body) is = (inr is, refl)

-- what a call asks of a host that serves its procedure, or doesn't
pub asked : (h : Host) (c : Call) (b : Bool) → serves h c.procedure ≡ b
    → host_ask_at h c.procedure c.arguments
    ≡ (if b then node_ask_at c.procedure c.arguments else Err ProcedureUnavailable)
asked h c b is = ap (λ (x : Bool). if x then node_ask_at c.procedure c.arguments else Err ProcedureUnavailable) is

-- a reply without results, where the call asks for it
refused_as : (h : Host) (n : NodeParts) (time : Timeval) (c : Call) (body : ReplyBody) (outcome : Outcome)
    (text : List ℕ) → host_ask_at h c.procedure c.arguments ≡ Err body
    → IsReplied (record { xid = c.xid; body = body }) outcome text → AnswersCall h n time (Ok c) outcome text n
refused_as h n time c body outcomes.NoCall text refused replied = absurd replied
refused_as h n time c body outcomes.NoMemory text refused replied = inl refl
refused_as h n time c body outcomes.Replied text refused replied =
    subst (λ (r : Result NodeAsk ReplyBody). AnswersRead h n time c.xid r text n) (sym refused) (inl replied, refl)

-- a reply that says that memory was refused
short_of_memory : (h : Host) (n : NodeParts) (time : Timeval) (c : Call) (body : ReplyBody) (outcome : Outcome)
    (text : List ℕ) → body ≡ SystemError → IsReplied (record { xid = c.xid; body = body }) outcome text
    → AnswersCall h n time (Ok c) outcome text n
short_of_memory h n time c body outcomes.NoCall text memory replied = absurd replied
short_of_memory h n time c body outcomes.NoMemory text memory replied = inl refl
short_of_memory h n time c body outcomes.Replied text memory replied =
    unread h n time c.xid text (host_ask_at h c.procedure c.arguments)
    (replied ∙ ap (λ (b : ReplyBody). bare c.xid b) memory)

-- a call whose arguments are refused
pub refused_read : (h : Host) (n : NodeParts) (time : Timeval) (c : Call) (body : ReplyBody) (outcome : Outcome)
    (text : List ℕ) → serves h c.procedure ≡ true
    → (body ≡ SystemError) ⊎ (node_ask_at c.procedure c.arguments ≡ Err body)
    → IsReplied (record { xid = c.xid; body = body }) outcome text → AnswersCall h n time (Ok c) outcome text n
refused_read h n time c body outcome text is (inl memory) replied =
    short_of_memory h n time c body outcome text memory replied
refused_read h n time c body outcome text is (inr refused) replied =
    refused_as h n time c body outcome text (asked h c true is ∙ refused) replied

-- what the results are of that a node gives which was only looked at
pub told_of : {E : Type 0} (Is : NodeParts → List ℕ → Type 0) (n m : NodeParts) (old new : List ℕ)
    (r : Result (Unit {0}) E) → m ≡ n → OnOk r ((x : List ℕ) × Is m x × (new ≡ old ++ x))
    → OnOk r ((x : List ℕ) × (Is n x × (n ≡ n)) × (new ≡ old ++ x))
told_of Is n m old new (Ok x) same told =
    (told.0, (subst (λ (k : NodeParts). Is k told.0) same told.1, refl), told.2)
told_of Is n m old new (Err e) same told = tt

-- what holds of every error holds of this result
pub on_err : {A E P : Type 0} (r : Result A E) → P → OnErr r P
on_err (Ok x) p = tt
on_err (Err e) p = p
