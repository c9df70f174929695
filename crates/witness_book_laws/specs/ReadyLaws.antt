-- What holds of books that can make their steps. Each is the contract of a function in src/laws.rt.
use Rattle.std.specs.Prelude.{◌≡◌, List, map, Some, Ok}
use Rattle.authenticator.specs.Roster.{IsRoster}
use Rattle.witness_laws.specs.witness_spec.Events.{Event, IsEvent}
use Rattle.witness_laws.specs.witness_spec.Replies.{Reply}
use Rattle.witness_laws.specs.witness_spec.Starting.{Beginning, IsBeginning, base_of}
use Rattle.witness_laws.specs.witness_spec.Watched.{Watched, IsInRoster, IsWatchedFrom}
use Rattle.witness_laws.specs.witness_spec.Steps.{Step}
use Rattle.witness_laws.specs.witness_spec.Whose.{whose}
use Rattle.witness_laws.specs.witness_spec.Contract.{StepsTo}
use Rattle.witness_book_laws.specs.Books.{Book, book_starting, parts_of}
use Rattle.witness_book_laws.specs.Replying.{BookOwes}
use Rattle.witness_book_laws.specs.Going.{book_after}
use Rattle.witness_book_laws.specs.Fitting.{IsOfMember}
use Rattle.witness_book_laws.specs.Together.{book_at, with_book_at}
use Rattle.witness_book_laws.specs.Ready.{IsReady, AreReady, IsOfLog}

-- The books of a beginning's members can make their steps at first.
abbrev pub StartingBooksAreReady : Type 0
StartingBooksAreReady =
    (g : Beginning) → IsRoster g.roster → IsBeginning g
    → AreReady g (map (λ m. book_starting m (base_of g m.node)) g.roster)

-- Where an event is a member's step, and the reply is the one that its book owes, the books with that one
-- gone on keep the contract of all books, and can make their steps again.
abbrev pub ReadyBooksStep : Type 0
ReadyBooksStep =
    (g : Beginning) (w : Watched) (books : List Book) (b : Book) (event : Event) (step : Step) (reply : Reply)
    → IsRoster w.roster → IsWatchedFrom g w → AreReady g books
    → IsEvent event → whose w.roster event ≡ Ok (record { member = w.member; step = step })
    → book_at w.roster books w.member.node ≡ Some b → BookOwes b step reply
    → StepsTo g (map parts_of books) event reply
    (map parts_of (with_book_at w.roster w.member.node (book_after b step reply) books))
    × AreReady g (with_book_at w.roster w.member.node (book_after b step reply) books)

-- The book of each member is the member's, and can make a step.
abbrev pub ReadyBooksAreReady : Type 0
ReadyBooksAreReady =
    (g : Beginning) (w : Watched) (books : List Book) (b : Book)
    → AreReady g books → IsInRoster w → IsWatchedFrom g w → book_at w.roster books w.member.node ≡ Some b
    → IsReady b × IsOfMember w b

-- An event that is a member's step and gives a segment gives it of a log of the member's version.
abbrev pub StepsAreOfTheLog : Type 0
StepsAreOfTheLog =
    (w : Watched) (event : Event) (step : Step)
    → IsEvent event → whose w.roster event ≡ Ok (record { member = w.member; step = step })
    → IsOfLog w.member.log_version step
