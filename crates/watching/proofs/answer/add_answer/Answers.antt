use Rattle.std.proofs.Common.{refl}
use Rattle.std.proofs.lemmas.Result.{err_from_is_err_and}
use Rattle.watching.proofs.OfAnswering.{undone}
use Rattle.watching.proofs.answer.add_answer.Goals as goal

pub returns-in_err-write_success-clause-refused : goal.returns-in_err-write_success-clause-refused
returns-in_err-write_success-clause-refused c =
    rw (err_from_is_err_and c.from_residual.result c.from_residual.ensures.1).1 (undone _ _ _ refl)
