-- Books at first stand for the journal of nothing.
use Rattle.witness_books.proofs.Witnessed.{is_journal}
use Rattle.witness_books.proofs.laws.start_is_a_journal.Goals as goal

-- the law on journals says so of these books
pub returns : goal.returns
returns c b started = is_journal c.journals_are_histories.ensures.starting b started
