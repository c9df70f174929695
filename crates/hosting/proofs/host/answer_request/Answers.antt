use Rattle.std.proofs.Common.{List, ℕ}
use Rattle.rpc.specs.Call.{message_at}
use Rattle.peer_calls.specs.Calls.{judged}
use Rattle.peer_calls.specs.declared.call.TheConstants.{NODE_PROGRAM}
use Rattle.request_streams.specs.Serving.{IsAnswerIf}
use Rattle.request_streams.specs.declared.answerer.Outcome.{Outcome}
use Rattle.hosting.specs.Hosting.{AnswersCall, IsAnsweredUnderLock}
use Rattle.hosting.proofs.OnceFinished.{once}
use Rattle.hosting.proofs.UnderLock.{under_lock}
use Rattle.hosting.proofs.host.answer_request.Goals as goal

pub returns-clause-answer : goal.returns-clause-answer
returns-clause-answer c =
    once (λ (outcome : Outcome) (text : List ℕ). AnswersCall c.args.host.now c.args.server.now c.args.time
    (judged NODE_PROGRAM (message_at c.args.bytes.now)) outcome text c.answer_bytes.new.server)
    (λ (outcome : Outcome) (text : List ℕ). IsAnswerIf (IsAnsweredUnderLock c.args.host.now) c.args.bytes.now text outcome)
    c.answer_bytes.result c.answer_bytes.new.out.items
    (λ outcome text is. under_lock c.args.host.now c.args.server.now c.args.time c.args.bytes.now text outcome
    c.answer_bytes.new.server c.answer_bytes.ensures.straight c.answer_bytes.ensures.stays is)
    c.answer_bytes.ensures.answers
