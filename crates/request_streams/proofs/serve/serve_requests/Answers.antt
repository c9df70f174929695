use Rattle.std.proofs.lemmas.Result.{err_from_is_err_and}
use Rattle.request_streams.proofs.OfServing.{goes_on, stops_at}
use Rattle.request_streams.proofs.serve.serve_requests.Goals as goal

pub returns-in_err-answer_one : goal.returns-in_err-answer_one
returns-in_err-answer_one g c =
    let p = err_from_is_err_and c.from_residual-in_err-answer_one.result
    c.from_residual-in_err-answer_one.ensures.1 in
    let found = rw c.in-Some.is at c.in_ok-bytes.ensures.found in
    record {
      served = stops_at _ _ _ _ _ _ _ _ _ _ _ _ _ _ p.1 p.2 c.deref.ensures.value c.loop.invariant
          (g.A.Bound.most c.loop.answerer, found) c.in_err-answer_one.ensures.answered;
    }

pub loop-preserved : goal.loop-preserved
loop-preserved g c =
    let found = rw c.in-Some.is at c.in_ok-bytes.ensures.found in
    goes_on _ _ _ _ _ _ _ _ _ _ _ _ _ _ c.loop.invariant c.deref.ensures.value
    (g.A.Bound.most c.loop.answerer, found) c.in_ok-answer_one.ensures.answered
    c.if-not-branch.false c.in_ok-answer_one.ensures.kept
    (rw c.loop.invariant.fresh at c.in_ok-bytes.ensures.failed)
