use Rattle.std.proofs.Common.{ap, ◌∙◌}
use Rattle.node_book.specs.witness_spec.Starting.{from_the_first}
use Rattle.witness_books.specs.Books.{bases_in, beginning_in, books_at_first}
use Rattle.witness_books.proofs.Starts.{first_parts, keeps_first, none_begin}
use Rattle.witness_books.proofs.books.Books.new.Goals as goal

pub books_at_first-requires : goal.books_at_first-requires
books_at_first-requires c =
    none_begin c.args.roster (bases_in c.deref.result.now)
    (ap bases_in (c.deref.ensures.value ∙ c.new-bases.ensures.items))

pub invariant_of-result : goal.invariant_of-result
invariant_of-result c =
    keeps_first c.books_are_ready.ensures.starting
    (beginning_in c.args.roster c.new-bases.result.items) c.in-Ok.books.items
    c.in-Ok.ensures.roster
    (none_begin c.args.roster (bases_in c.new-bases.result.items) (ap bases_in c.new-bases.ensures.items))
    (c.in-Ok.ensures.books
    ∙ ap (λ xs. books_at_first (beginning_in c.args.roster xs)) c.deref.ensures.value)

pub returns-in-Ok-clause-opening : goal.returns-in-Ok-clause-opening
returns-in-Ok-clause-opening c =
    first_parts (from_the_first c.args.roster) c.in-Ok.books.items
    (c.in-Ok.ensures.books
    ∙ ap (λ xs. books_at_first (beginning_in c.args.roster xs))
    (c.deref.ensures.value ∙ c.new-bases.ensures.items))
