-- What a witness holds from its first event on.
-- Serves: Books::new, Books::start, run, start_is_a_journal.
use Rattle.std.proofs.Common.{◌≡◌, List, [], ◌∷◌, map, Option, Some, None, refl, sym, ap, ap₂, subst, ◌∙◌}
use Rattle.authenticator.specs.declared.member.Member.{Member}
use Rattle.node_book.specs.witness_spec.Events.{Event}
use Rattle.node_book.specs.witness_spec.Replies.{Reply}
use Rattle.node_book.specs.witness_spec.Starting.{KnownBase, Beginning, base_of}
use Rattle.node_book.specs.witness_spec.Histories.{BookParts}
use Rattle.node_book.specs.witness_spec.Contract.{starting_book, starting_books, RunsTo, IsJournalOf}
use Rattle.node_book.specs.witness_spec.ContractLaws.{StartingJournal, RunsAreHistories}
use Rattle.node_book.specs.witness_book_laws.Books.{book_starting, parts_of}
use Rattle.witness_books.specs.Books.{BooksParts, beginning_of, books_at_first, parts_in}
use Rattle.witness_books.specs.Witnessed.{AreStarted, IsWitnessed}

-- a book at first is that of the contract
book_same : (m : Member) (base : Option KnownBase) → parts_of (book_starting m base) ≡ starting_book m base
book_same m None = refl
book_same m (Some b) = refl

each_same : (g : Beginning) (ms : List Member)
    → map parts_of (map (λ m. book_starting m (base_of g m.node)) ms)
    ≡ map (λ m. starting_book m (base_of g m.node)) ms
each_same g [] = refl
each_same g (m ∷ ms) =
    ap₂ (λ (b : BookParts) (bs : List BookParts). b ∷ bs) (book_same m (base_of g m.node)) (each_same g ms)

-- the books at first are those of the contract
pub starting_same : (g : Beginning) → map parts_of (books_at_first g) ≡ starting_books g
starting_same g = each_same g g.roster

-- a run from the books at first is witnessed
pub is_witnessed : RunsAreHistories → (old new : BooksParts) (events : List Event) (replies : List Reply)
    → RunsTo (beginning_of old) (parts_in old) events replies (parts_in new) → AreStarted old
    → IsWitnessed (beginning_of old) events replies new
is_witnessed law old new events replies run started =
    let g = beginning_of old in
    let both = law g (parts_in new) events replies
    (subst (λ (bs : List BookParts). RunsTo g bs events replies (parts_in new))
    (ap (map parts_of) started ∙ starting_same g) run) in
    record { history = both.0; stands = both.1 }

-- books at first are those of the journal of nothing
pub is_journal : StartingJournal → (b : BooksParts) → AreStarted b
    → IsJournalOf (beginning_of b) [] (parts_in b)
is_journal law b started =
    let g = beginning_of b in
    subst (λ (bs : List BookParts). IsJournalOf g [] bs)
    (sym (ap (map parts_of) started ∙ starting_same g)) (law g)
