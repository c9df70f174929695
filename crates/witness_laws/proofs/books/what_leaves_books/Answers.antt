use Rattle.witness_laws.proofs.OfBooks.Journals.{left_out_leaves, want_leaves, out_of_memory_leaves}
use Rattle.witness_laws.proofs.books.what_leaves_books.Goals as goal

pub returns-clause-out : goal.returns-clause-out
returns-clause-out c = left_out_leaves

pub returns-clause-want : goal.returns-clause-want
returns-clause-want c = want_leaves

pub returns-clause-copied : goal.returns-clause-copied
returns-clause-copied c = out_of_memory_leaves
