use Rattle.std.proofs.lemmas.Result.{err_from_is_err_and}
use Rattle.watching.proofs.OfResults.{begins_on}
use Rattle.watching.proofs.results.add_messages.Goals as goal

pub returns-in_err-add_message : goal.returns-in_err-add_message
returns-in_err-add_message c =
    let (done, is, more) = c.loop-rest.invariant in
    rw (err_from_is_err_and c.from_residual.result c.from_residual.ensures.1).1
    (begins_on _ _ _ done is c.in_err-add_message.ensures)
