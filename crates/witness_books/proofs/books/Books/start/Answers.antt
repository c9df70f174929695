use Rattle.std.proofs.Common.{List, [], map, ap, sym, subst, ◌∙◌}
use Rattle.node_book.specs.Rows.{known_in}
use Rattle.node_book.specs.witness_spec.Starting.{KnownBase, IsBeginning}
use Rattle.node_book.specs.witness_spec.Histories.{BookParts, Stands}
use Rattle.witness_books.specs.Books.{beginning_in, books_at_first}
use Rattle.witness_books.proofs.Starts.{first_parts, keeps_first}
use Rattle.witness_books.proofs.books.Books.start.Goals as goal

pub invariant_of-result : goal.invariant_of-result
invariant_of-result c =
    let g = beginning_in c.args.roster c.in_ok-bases.bases.items in
    let begins : IsBeginning g =
    subst (λ (bs : List KnownBase). IsBeginning (record { roster = c.args.roster; bases = bs }))
    (ap (map (λ x. known_in x.value)) c.deref.ensures.value ∙ sym c.in_ok-bases.ensures)
    c.in_ok-check_start.ensures.begins in
    keeps_first c.books_are_ready.ensures.starting g c.in_ok-books.books.items c.in_ok-books.ensures.roster
    begins (c.in_ok-books.ensures.books
    ∙ ap (λ xs. books_at_first (beginning_in c.args.roster xs)) c.deref-2.ensures.value)

pub returns-clause-opening : goal.returns-clause-opening
returns-clause-opening c =
    let g = beginning_in c.args.roster c.in_ok-bases.bases.items in
    first_parts g c.in_ok-books.books.items
    (c.in_ok-books.ensures.books
    ∙ ap (λ xs. books_at_first (beginning_in c.args.roster xs)) c.deref-2.ensures.value)

pub returns-clause-stands : goal.returns-clause-stands
returns-clause-stands c =
    let g = beginning_in c.args.roster c.in_ok-bases.bases.items in
    let are = c.in_ok-books.ensures.books
    ∙ ap (λ xs. books_at_first (beginning_in c.args.roster xs)) c.deref-2.ensures.value in
    subst (λ (bs : List BookParts). Stands g bs []) (sym (first_parts g c.in_ok-books.books.items are))
    (c.books_can_stand.ensures.starting g).1
