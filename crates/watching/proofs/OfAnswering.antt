-- What is answered to a call.
-- Serves: answer_asked, answer_read, add_answer.
use Rattle.std.proofs.Common.{◌≡◌, ◌⊎◌, inl, inr, ℕ, List, ◌++◌, sym, ap, subst, ◌∙◌}
use Rattle.std.specs.Prelude.{Result, Ok, Err}
use Rattle.rpc.specs.declared.reply.ReplyBody.{ReplyBody}
use Rattle.rpc.specs.declared.reply.ReplyBody.TheVariants.{SystemError}
use Rattle.peer_calls.specs.Calls.{success_text}
use Rattle.peer_calls.specs.WitnessRequests.{WitnessAsk, Null, Greet, Deliver, Wanted, Told, Shown, Case, Base}
use Rattle.watching.specs.Shown.{StandingParts}
use Rattle.watching.specs.Answers.{Answers, Done, NoMemory, AnswersRead, Does, IsWritten, MayDo, RepliesTo}
use Rattle.watching.specs.Answers.{without_results}
use Rattle.watching.specs.Telling.{WereAsked}
use Rattle.watching.specs.declared.answer.Outcome.{Outcome}
use Rattle.watching.specs.declared.answer.Outcome.TheVariants as outcomes
use Rattle.watching.specs.declared.results.Host.{Host}
use Rattle.watching.proofs.OfAsking.{asked_nothing}

-- nothing was asked
asked_none : (s s' : StandingParts) (node : ℕ) → s' ≡ s → WereAsked s.books node s'.books × (s'.shown ≡ s.shown)
asked_none s s' node same = (
  asked_nothing s.books s'.books node (ap (λ (x : StandingParts). x.books) same),
  ap (λ (x : StandingParts). x.shown) same,
)

-- nothing was done
pub undone : (s s' : StandingParts) (a : WitnessAsk) → s' ≡ s → MayDo s a s'
undone s s' Null same = same
undone s s' (Greet digest node) same = same
undone s s' (Deliver packet) same =
    (inl (ap (λ (x : StandingParts). x.books) same), inl (ap (λ (x : StandingParts). x.shown) same))
undone s s' (Wanted node) same = asked_none s s' node same
undone s s' (Told node) same = asked_none s s' node same
undone s s' (Shown node) same = same
undone s s' (Case node) same = asked_none s s' node same
undone s s' (Base node after) same = same

-- it was done, and its results follow SUCCESS
pub is_done : (h : Host) (s : StandingParts) (xid : ℕ) (a : WitnessAsk) (text : List ℕ) (s' : StandingParts)
    → ((results : List ℕ) × Does h s a results s' × (text ≡ success_text xid ++ results))
    → Answers h s xid a text s'
is_done h s xid a text s' (results, does, is) = Done results does is

-- a refusal of the arguments, or SYSTEM_ERR in its place
answers_refused : (h : Host) (s s' : StandingParts) (xid : ℕ) (ask : Result WitnessAsk ReplyBody)
    (body : ReplyBody)
    (text : List ℕ) → s' ≡ s → (body ≡ SystemError) ⊎ (ask ≡ Err body) → text
    ≡ without_results xid body
    → AnswersRead h s xid ask text s'
answers_refused h s s' xid (Ok a) body text same (inl want) is =
    NoMemory (undone s s' a same) (is ∙ ap (without_results xid) want)
answers_refused h s s' xid (Err e) body text same (inl want) is =
    (same, inr (is ∙ ap (without_results xid) want))
answers_refused h s s' xid ask body text same (inr refused) is =
    subst (λ x. AnswersRead h s xid x text s') (sym refused) (same, inl is)

pub replies_refused : (h : Host) (s s' : StandingParts) (xid : ℕ) (ask : Result WitnessAsk ReplyBody)
    (body : ReplyBody) (outcome : Outcome) (text : List ℕ) → s' ≡ s
    → (body ≡ SystemError) ⊎ (ask ≡ Err body) → IsWritten (record { xid = xid; body = body }) outcome text
    → RepliesTo h s xid ask outcome text s'
replies_refused h s s' xid ask body outcomes.Replied text same why is =
    answers_refused h s s' xid ask body text same why is
replies_refused h s s' xid ask body outcomes.NoMemory text same why is = stays ask
  where
    stays : (ask : Result WitnessAsk ReplyBody) → RepliesTo h s xid ask outcomes.NoMemory text s'
    stays (Ok a) = inl same
    stays (Err e) = same
replies_refused h s s' xid ask body outcomes.NoCall text same why is = absurd is
