-- What a witness holds from its first event on, and that two such witnesses agree.
use Rattle.std.specs.Prelude.{◌≡◌, List, [], map}
use Rattle.node_book.specs.witness_spec.Events.{Event}
use Rattle.node_book.specs.witness_spec.Replies.{Reply}
use Rattle.node_book.specs.witness_spec.Starting.{Beginning}
use Rattle.node_book.specs.witness_spec.Watched.{Watched, IsInRoster, IsWatchedFrom}
use Rattle.node_book.specs.witness_spec.Histories.{own_of, IsHistory, BookParts, Stands}
use Rattle.node_book.specs.witness_spec.Contract.{starting_books, joined, RunsTo, IsJournalOf}
use Rattle.node_book.specs.witness_spec.Laws.{SaysSame}
use Rattle.witness_books.specs.Books.{BooksParts, beginning_of, books_at_first, parts_in}

-- The books are those before any step, each from its base if it has one.
abbrev pub AreStarted : BooksParts → Type 0
AreStarted b = b.books ≡ books_at_first (beginning_of b)

-- Such books stand for the journal of nothing.
abbrev pub StartIsJournal : Type 0
StartIsJournal = (b : BooksParts) → AreStarted b → IsJournalOf (beginning_of b) [] (parts_in b)

-- Events with their replies are a history, and the books stand for it.
pub record IsWitnessed (g : Beginning) (events : List Event) (replies : List Reply) (new : BooksParts)
    : Type 0 where
  -- they are a history
  pub history : IsHistory g (joined events replies [])
  -- the books stand for it
  pub stands : Stands g (parts_in new) (joined events replies [])

-- Two witnesses of one roster, from their first events on, agree on a member that has the same base at both,
-- or none, where its steps, in all that was handed to each, are the same and in the same order: the replies
-- to these are the same, and both say the same of the member, whatever else was handed to one of them.
abbrev pub WitnessesAgree : Type 0
WitnessesAgree =
    (g h : Beginning) (w : Watched) (new last : List BookParts) (events more : List Event)
    (replies others : List Reply)
    → IsInRoster w → IsWatchedFrom g w → IsWatchedFrom h w
    → RunsTo g (starting_books g) events replies new
    → RunsTo h (starting_books h) more others last
    → map (λ p. p.0) (own_of w (joined events replies []))
    ≡ map (λ p. p.0) (own_of w (joined more others []))
    → SaysSame g h w (joined events replies []) (joined more others [])
