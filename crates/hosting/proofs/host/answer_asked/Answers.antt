use Rattle.std.proofs.Common.{◌∙◌, List, Ok, ℕ, sym}
use Rattle.peer_calls.specs.NodeRequests.{node_ask}
use Rattle.request_streams.specs.declared.answerer.Outcome.{Outcome}
use Rattle.hosting.specs.Hosting.{AnswersCall, IsAnswerTo, call_of}
use Rattle.hosting.proofs.Answered.{refused_read}
use Rattle.hosting.proofs.OnceFinished.{once, read_as}
use Rattle.hosting.proofs.host.answer_asked.Goals as goal

pub returns-in-Ok : goal.returns-in-Ok
returns-in-Ok c =
    once (λ (outcome : Outcome) (text : List ℕ). IsAnswerTo c.args.host.now c.args.server.now c.args.time
    c.args.asked.now.xid (node_ask c.in-Ok.request) outcome text c.answer_read.new.server)
    (λ (outcome : Outcome) (text : List ℕ). AnswersCall c.args.host.now c.args.server.now c.args.time
    (Ok (call_of c.args.asked.now)) outcome text c.answer_read.new.server)
    c.answer_read.result c.answer_read.new.out.items
    (read_as c.args.host.now c.args.server.now c.args.time (call_of c.args.asked.now) (node_ask c.in-Ok.request)
    c.answer_read.new.server (sym c.serves.ensures ∙ c.if-not-serves.false) c.in-Ok.ensures)
    c.answer_read.ensures

pub returns-in-Err : goal.returns-in-Err
returns-in-Err c =
    refused_read c.args.host.now c.args.server.now c.args.time (call_of c.args.asked.now) c.in-Err.body
    c.replied-in-Err.result c.replied-in-Err.new.out.items (sym c.serves.ensures ∙ c.if-not-serves.false) c.in-Err.ensures
    c.replied-in-Err.ensures
