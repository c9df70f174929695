-- What holds of books that keep their contract. Each is the contract of a function in `witness_laws::books`.
use Rattle.std.specs.Prelude.{◌≡◌, ◌⊎◌, ◌↔◌, false, List, [], ◌∷◌, ◌++◌, map, Some, Ok, Err}
use Rattle.std.specs.List.{AllByRecursion}
use Rattle.authenticator.specs.Roster.{IsRoster}
use Rattle.witness_spec.specs.Refusals.{Refusal}
use Rattle.witness_spec.specs.Events.{Event, Question, IsEvent}
use Rattle.witness_spec.specs.Events as events
use Rattle.witness_spec.specs.Replies.{Reply, refused, is_want_of_memory}
use Rattle.witness_spec.specs.Starting.{Beginning}
use Rattle.witness_spec.specs.Watched.{Watched, IsInRoster, IsWatchedFrom}
use Rattle.witness_spec.specs.Steps.{Step}
use Rattle.witness_spec.specs.Whose.{whose}
use Rattle.witness_spec.specs.Histories.{History, IsOwed, MayWant, IsWanting, IsHistory, BookParts, own_of}
use Rattle.witness_spec.specs.Histories.{StandsFor, Stands}
use Rattle.witness_spec.specs.Laws.{SaysSame}
use Rattle.witness_spec.specs.Contract.{starting_books, books_of, book_in, with_book, AreBooks, StepsTo}
use Rattle.witness_spec.specs.Contract.{BookStepsTo, joined, RunsTo, StepsInTurn, IsOutOfMemory, IsNotedStep}
use Rattle.witness_spec.specs.Contract.{IsJournal, IsJournalOf, recorded, told_by}

-- ---- books can stand

-- The books of a beginning stand at first for the history of nothing.
abbrev pub StartingBooksStand : Type 0
StartingBooksStand =
    (g : Beginning) → AreBooks g (starting_books g) × Stands g (starting_books g) []

-- For every history there are books that stand.
abbrev pub HistoriesHaveBooks : Type 0
HistoriesHaveBooks = (g : Beginning) (history : History) → Stands g (books_of g history) history

-- ---- steps keep books

-- Books that stand for a history lead by a step to books that do.
abbrev pub StepsKeepBooks : Type 0
StepsKeepBooks =
    (g : Beginning) (old new : List BookParts) (event : Event) (reply : Reply)
    → AreBooks g old → StepsTo g old event reply new → AreBooks g new

-- The reply to a step is the one that is owed, unless it is NoMemory. To a job that is put back, and to a
-- question for the indication, it always is.
abbrev pub StepsAnswerWhatIsOwed : Type 0
StepsAnswerWhatIsOwed =
    (g : Beginning) (old new : List BookParts) (event : Event) (reply : Reply) (history : History)
    → IsHistory g history → Stands g old history → StepsTo g old event reply new
    → (is_want_of_memory reply ≡ false) ⊎ (¬ MayWant event) → IsOwed g history event reply

-- Steps in turn are a run.
abbrev pub StepsAreARun : Type 0
StepsAreARun =
    (g : Beginning) (old new : List BookParts) (events : List Event) (replies : List Reply)
    → StepsInTurn g old events replies new → RunsTo g old events replies new

-- Where nothing was handed in, the books stay.
abbrev pub NothingIsARun : Type 0
NothingIsARun = (g : Beginning) (books : List BookParts) → RunsTo g books [] [] books

-- A run and a step after it are a run.
abbrev pub OneStepMore : Type 0
OneStepMore =
    (g : Beginning) (old mid new : List BookParts) (events : List Event) (replies : List Reply)
    (event : Event) (reply : Reply)
    → RunsTo g old events replies mid → StepsTo g mid event reply new
    → RunsTo g old (events ++ event ∷ []) (replies ++ reply ∷ []) new

-- A run from the books at first gives a history of all its events, for which the books stand that it leaves.
abbrev pub RunsAreHistories : Type 0
RunsAreHistories =
    (g : Beginning) (new : List BookParts) (events : List Event) (replies : List Reply)
    → RunsTo g (starting_books g) events replies new
    → IsHistory g (joined events replies []) × Stands g new (joined events replies [])

-- Two runs, each from books that stand for a history, answer alike where a member's steps in all that was
-- handed in are the same and in the same order, whatever else there is: the replies to these are the same,
-- and the witness says the same of the member.
abbrev pub RunsThatAgree : Type 0
RunsThatAgree =
    (g h : Beginning) (w : Watched) (old first new last : List BookParts) (history earlier : History)
    (events more : List Event) (replies others : List Reply)
    → IsInRoster w → IsWatchedFrom g w → IsWatchedFrom h w
    → IsHistory g history → Stands g old history
    → IsHistory h earlier → Stands h first earlier
    → RunsTo g old events replies new → RunsTo h first more others last
    → map (λ p. p.0) (own_of w (joined events replies history))
    ≡ map (λ p. p.0) (own_of w (joined more others earlier))
    → SaysSame g h w (joined events replies history) (joined more others earlier)

-- ---- journals

-- A journal is a history in which nothing ran out of memory.
abbrev pub JournalsExactlyIf : Type 0
JournalsExactlyIf =
    (g : Beginning) (journal : History)
    → IsJournal g journal
    ↔ (IsHistory g journal × AllByRecursion (λ p. is_want_of_memory p.1 ≡ false) journal)

-- A step that isn't answered NoMemory is a noted step.
abbrev pub StepsAreNoted : Type 0
StepsAreNoted =
    (g : Beginning) (old new : List BookParts) (event : Event) (reply : Reply)
    → is_want_of_memory reply ≡ false → StepsTo g old event reply new → IsNotedStep g old event reply new

-- The journal of nothing is that of the books at first.
abbrev pub StartingJournal : Type 0
StartingJournal = (g : Beginning) → IsJournalOf g [] (starting_books g)

-- A noted step keeps a journal with its books, whether it has one place more or ran out of memory.
abbrev pub NotedStepsKeepJournals : Type 0
NotedStepsKeepJournals =
    (g : Beginning) (old new : List BookParts) (journal : History) (event : Event) (reply : Reply)
    → IsJournalOf g journal old → IsNotedStep g old event reply new
    → IsJournalOf g (recorded event reply journal) new

-- ---- what leaves the books

-- An event that is nobody's step gets its refusal, 1, 2 or 3, and the books stay.
abbrev pub LeftOutLeavesBooks : Type 0
LeftOutLeavesBooks =
    (g : Beginning) (books : List BookParts) (event : Event) (refusal : Refusal)
    → IsEvent event → whose g.roster event ≡ Err refusal
    → StepsTo g books event (refused event refusal) books

-- An event that ran out of memory leaves the books.
abbrev pub WantLeavesBooks : Type 0
WantLeavesBooks =
    (g : Beginning) (books : List BookParts) (event : Event) (reply : Reply)
    → IsEvent event → IsWanting event reply → StepsTo g books event reply books

-- So does one that did where event and reply are copied.
abbrev pub OutOfMemoryLeavesBooks : Type 0
OutOfMemoryLeavesBooks =
    (g : Beginning) (books : List BookParts) (event : Event) (reply : Reply)
    → IsOutOfMemory event reply → IsNotedStep g books event reply books

-- ---- one book is enough

-- A step of a member's book is a step of all books: the others stay as they are.
abbrev pub OneBookIsEnough : Type 0
OneBookIsEnough =
    (g : Beginning) (w : Watched) (books : List BookParts) (old new : BookParts)
    (event : Event) (step : Step) (reply : Reply)
    → IsRoster w.roster → IsEvent event → IsWatchedFrom g w
    → whose w.roster event ≡ Ok (record { member = w.member; step = step })
    → book_in w.roster books w.member.node ≡ Some old → BookStepsTo w old step reply new
    → StepsTo g books event reply (with_book w.roster w.member.node new books)

-- After histories in which a member's own steps are the same and in the same order, whatever else they hold,
-- the same book of that member stands.
abbrev pub BookOfOwnStepsAlone : Type 0
BookOfOwnStepsAlone =
    (g h : Beginning) (w : Watched) (one two : History) (b : BookParts)
    → IsInRoster w → IsWatchedFrom g w → IsWatchedFrom h w → IsHistory g one → IsHistory h two
    → map (λ p. p.0) (own_of w one) ≡ map (λ p. p.0) (own_of w two)
    → StandsFor w (own_of w one) b ↔ StandsFor w (own_of w two) b

-- The books that stand for a history have one for each member, that stands for the member's own steps.
abbrev pub EachBookStands : Type 0
EachBookStands =
    (g : Beginning) (w : Watched) (books : List BookParts) (history : History)
    → IsInRoster w → IsWatchedFrom g w → Stands g books history
    → (b : BookParts) × ((book_in w.roster books w.member.node ≡ Some b) × StandsFor w (own_of w history) b)

-- ---- what books tell

-- To a question about a member, what its book tells is owed, and nothing else.
abbrev pub BooksTell : Type 0
BooksTell =
    (g : Beginning) (w : Watched) (books : List BookParts) (b : BookParts) (history : History)
    (question : Question) (reply : Reply)
    → IsInRoster w → IsWatchedFrom g w → IsHistory g history → Stands g books history
    → book_in w.roster books w.member.node ≡ Some b
    → IsOwed g history (events.Ask w.member.node question) reply ↔ (reply ≡ told_by b question)

-- After histories in which a member's own steps are the same and in the same order, books tell the same of
-- it.
abbrev pub BooksTellTheSame : Type 0
BooksTellTheSame =
    (g h : Beginning) (w : Watched) (one two : History) (b other : BookParts) (question : Question)
    → IsInRoster w → IsWatchedFrom g w → IsWatchedFrom h w → IsHistory g one → IsHistory h two
    → map (λ p. p.0) (own_of w one) ≡ map (λ p. p.0) (own_of w two)
    → StandsFor w (own_of w one) b → StandsFor w (own_of w two) other
    → told_by b question ≡ told_by other question
