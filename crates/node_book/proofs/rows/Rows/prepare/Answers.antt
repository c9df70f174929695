-- Where there is no room for what was decided to be added, that is owed.
use Rattle.node_book.specs.Rows.{book_in}
use Rattle.node_book.proofs.Wanting.{adds_is_more, if_err}
use Rattle.node_book.proofs.rows.Rows.prepare.Goals as goal

pub returns-in_err-make_room_for-clause-err : goal.returns-in_err-make_room_for-clause-err
returns-in_err-make_room_for-clause-err c =
    if_err c.from_residual-in_err-make_room_for.result
    (adds_is_more (book_in c.args.self.now) c.args.step.now c.in_ok-decided.decided
    c.in_ok-decided.ensures.ok c.in_ok-decided.ensures.owes c.in_err-make_room_for.ensures.err)
