-- Books as a program has them.
use Rattle.witness_books.specs.Books.{BooksParts, beginning_of, parts_in}
use Rattle.witness_books.specs.node_book.witness_spec.Contract.{AreBooks}

-- Books stand for a history from their beginning: what is said of their steps is said of something.
abbrev pub StandForHistory : BooksParts → Type 0
StandForHistory b = AreBooks (beginning_of b) (parts_in b)
