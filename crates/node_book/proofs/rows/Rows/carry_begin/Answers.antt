use Rattle.node_book.specs.Rows.{book_in}
use Rattle.node_book.proofs.Faulted.{begun_room}
use Rattle.node_book.proofs.rows.Rows.carry_begin.Goals as goal

-- the job's state has room for what its segment shows
pub new-requires : goal.new-requires
new-requires c =
    let ready = c.requires.ready in
    begun_room (book_in c.args.self.now) c.in-Begun.job ready.fits ready.limits ready.few
    (rw c.in-Begun.is at c.requires.decided)
