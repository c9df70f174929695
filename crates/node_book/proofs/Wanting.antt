-- Where memory may run out, the book owes neither a refusal nor Already.
-- Serves: Rows::decide, Rows::prepare.
use Rattle.std.proofs.Common.{◌≡◌, false, true≢false, Some, None, Result, Ok, Err, IfErr}
use Rattle.std.proofs.Common.{refl, sym}
use Rattle.witness_spec.specs.Events.{Question, ItsIndication, ItsChallenges, ItsEvidence}
use Rattle.witness_spec.specs.Replies as spec
use Rattle.witness_spec.specs.Steps as steps
use Rattle.witness_book_laws.specs.Books.{Book}
use Rattle.witness_book_laws.specs.Replying.{BookOwes, IsOut, book_reply, reply_to_ask}
use Rattle.node_book.specs.Deciding.{AddsOne, Decides, reply_of}
use Rattle.node_book.specs.Events.{step_in}
use Rattle.node_book.specs.Replies.{reply_in}
use Rattle.node_book.specs.Stepping.{MayRunOut, StepMayWant, is_refusal_or_already}
use Rattle.node_book.specs.declared.decision.AnswerDecision.TheVariants as a
use Rattle.node_book.specs.declared.decision.AuditDecision.TheVariants as q
use Rattle.node_book.specs.declared.decision.ReturnDecision.TheVariants as c
use Rattle.node_book.specs.declared.decision.LearnDecision.TheVariants as l
use Rattle.node_book.specs.declared.decision.ChallengeDecision.TheVariants as o
use Rattle.node_book.specs.declared.decision.Decision.{Decision}
use Rattle.node_book.specs.declared.decision.Decision.TheVariants as d
use Rattle.node_book.specs.declared.step.Step.{Step}
use Rattle.node_book.specs.declared.step.Step.TheVariants as s

-- where a fact holds, it holds of each error
pub if_err : {A B P : Type 0} → (r : Result A B) → P → IfErr r (λ x. P)
if_err (Ok x) p = tt
if_err (Err e) p = p

-- a question is answered
pub told_is_more : (b : Book) (question : Question) → is_refusal_or_already (reply_to_ask b question) ≡ false
told_is_more b ItsIndication = refl
told_is_more b ItsChallenges = refl
told_is_more b ItsEvidence = refl

-- a step with which no job comes back
pub without_job : (b : Book) (step : steps.Step) → (IsOut b step → ⊥) → StepMayWant step
    → is_refusal_or_already (book_reply false b step) ≡ false → MayRunOut b step
without_job b step none may more = record {
  may = may;
  owed = book_reply false b step;
  owes = record {
    is_out = false;
    decides = (λ e. absurd (true≢false (sym e)), λ out. absurd (none out));
    told = refl;
  };
  is_more = more;
}

-- where what was decided adds something, that is owed
pub adds_is_more : (b : Book) (step : Step) (decided : Decision) → Decides b step decided
    → BookOwes b (step_in step) (reply_in (reply_of step decided)) → AddsOne decided
    → MayRunOut b (step_in step)
adds_is_more b (s.Learn x) (d.Learn (l.Noted None)) decides owes adds =
    record { may = tt; owed = spec.Noted; owes = owes; is_more = refl }
adds_is_more b (s.SendChallenge x) (d.SendChallenge o.Opened) decides owes adds =
    record { may = tt; owed = spec.Opened; owes = owes; is_more = refl }
adds_is_more b (s.Answer x) (d.Answer (a.Accepted share evidence)) decides owes adds =
    record { may = tt; owed = spec.Accepted; owes = owes; is_more = refl }
adds_is_more b s.Audit (d.Audit (q.Asked first last)) decides owes adds =
    record { may = tt; owed = spec.Asked first last; owes = owes; is_more = refl }
adds_is_more b (s.File x) (d.File c.IsOut) decides owes adds =
    record { may = tt; owed = spec.Filed; owes = owes; is_more = refl }
adds_is_more b step (d.Learn (l.Noted None)) decides owes adds = absurd decides
adds_is_more b step (d.SendChallenge o.Opened) decides owes adds = absurd decides
adds_is_more b step (d.Answer (a.Accepted share evidence)) decides owes adds = absurd decides
adds_is_more b step (d.Audit (q.Asked first last)) decides owes adds = absurd decides
adds_is_more b step (d.File c.IsOut) decides owes adds = absurd decides
adds_is_more b step (d.Learn l.Known) decides owes adds = absurd adds
adds_is_more b step (d.Learn l.Below) decides owes adds = absurd adds
adds_is_more b step (d.Learn l.Full) decides owes adds = absurd adds
adds_is_more b step (d.Learn l.Ignored) decides owes adds = absurd adds
adds_is_more b step (d.Learn (l.Noted (Some e))) decides owes adds = absurd adds
adds_is_more b step (d.SendChallenge o.Known) decides owes adds = absurd adds
adds_is_more b step (d.SendChallenge o.Full) decides owes adds = absurd adds
adds_is_more b step (d.Answer a.NotAsked) decides owes adds = absurd adds
adds_is_more b step (d.AckIn x) decides owes adds = absurd adds
adds_is_more b step (d.Audit (q.Refused refusal)) decides owes adds = absurd adds
adds_is_more b step (d.Begin x) decides owes adds = absurd adds
adds_is_more b step (d.File c.NoJob) decides owes adds = absurd adds
adds_is_more b step (d.File c.Another) decides owes adds = absurd adds
adds_is_more b step (d.PutBack x) decides owes adds = absurd adds
adds_is_more b step (d.Forward x) decides owes adds = absurd adds
adds_is_more b step (d.Ask x) decides owes adds = absurd adds
