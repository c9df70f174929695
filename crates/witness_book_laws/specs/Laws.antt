-- What holds of books. Each is the contract of a function here.
use Rattle.std.specs.Prelude.{◌≡◌, ◌↔◌, ℕ, false, List, ◌∷◌, map, Some, Ok}
use Rattle.authenticator.specs.Roster.{IsRoster}
use Rattle.secure_log.specs.Versioned.{VersionedParts}
use Rattle.witness_laws.specs.witness_spec.Events.{Event, IsEvent}
use Rattle.witness_laws.specs.witness_spec.Replies.{Reply}
use Rattle.witness_laws.specs.witness_spec.Starting.{Beginning, IsBeginning, base_of}
use Rattle.witness_laws.specs.witness_spec.Watched.{Watched, watched, IsInRoster, IsWatchedFrom}
use Rattle.witness_laws.specs.witness_spec.Steps.{Step}
use Rattle.witness_laws.specs.witness_spec.Whose.{whose}
use Rattle.witness_laws.specs.witness_spec.Standing.{audited, is_exposed, indication, Wanted}
use Rattle.witness_laws.specs.witness_spec.Owing.{Owes}
use Rattle.witness_laws.specs.witness_spec.Histories.{History, IsHistory, Stands, own_of}
use Rattle.witness_laws.specs.witness_spec.Contract.{StepsTo, BookStepsTo, starting_book}
use Rattle.witness_laws.specs.witness_spec.Pairs.{is_shown, is_fork, first_fork, first_of, marks_of}
use Rattle.witness_book_laws.specs.Books.{Book, book_starting, exposed, book_shown, book_audited}
use Rattle.witness_book_laws.specs.Books.{book_indication, parts_of}
use Rattle.witness_book_laws.specs.Replying.{BookOwes}
use Rattle.witness_book_laws.specs.Going.{book_after, book_after_steps}
use Rattle.witness_book_laws.specs.Fitting.{FitsTogether, IsBookOf, IsOfMember}
use Rattle.witness_book_laws.specs.LookUps.{hash_shown, is_hash, is_other_hash, HasOneMark}
use Rattle.witness_book_laws.specs.Answers.{answer_fork}
use Rattle.witness_book_laws.specs.Keeping.{KeepsLimits}
use Rattle.witness_book_laws.specs.Together.{book_at, with_book_at, AreKept}

-- A member's book after its own steps of a history replies to each step what is owed after that history, and
-- nothing else.
abbrev pub BooksOweTheSame : Type 0
BooksOweTheSame =
    (g : Beginning) (w : Watched) (history : History) (step : Step) (reply : Reply)
    → IsInRoster w → IsWatchedFrom g w → IsHistory g history
    → Owes w (own_of w history) step reply
    ↔ BookOwes (book_after_steps w (own_of w history)) step reply

-- It holds what the steps say.
abbrev pub BooksAreOfTheirSteps : Type 0
BooksAreOfTheirSteps =
    (g : Beginning) (w : Watched) (history : History)
    → IsInRoster w → IsWatchedFrom g w → IsHistory g history
    → IsBookOf w (own_of w history) (book_after_steps w (own_of w history))

-- Its parts fit together.
abbrev pub BooksFitTogether : Type 0
BooksFitTogether =
    (g : Beginning) (w : Watched) (history : History)
    → IsInRoster w → IsWatchedFrom g w → IsHistory g history
    → FitsTogether (book_after_steps w (own_of w history))

-- It has evidence exactly if the node is exposed.
abbrev pub BooksHaveEvidenceIfExposed : Type 0
BooksHaveEvidenceIfExposed =
    (g : Beginning) (w : Watched) (history : History)
    → IsInRoster w → IsWatchedFrom g w → IsHistory g history
    → exposed (book_after_steps w (own_of w history)) ≡ is_exposed w (own_of w history)

-- It tells the indication that is told of the node.
abbrev pub BooksTellTheIndication : Type 0
BooksTellTheIndication =
    (g : Beginning) (w : Watched) (history : History)
    → IsInRoster w → IsWatchedFrom g w → IsHistory g history
    → book_indication (book_after_steps w (own_of w history)) ≡ indication w (own_of w history)

-- The entries of its audited segments are those that were audited.
abbrev pub BooksHaveTheAudited : Type 0
BooksHaveTheAudited =
    (g : Beginning) (w : Watched) (history : History)
    → IsInRoster w → IsWatchedFrom g w → IsHistory g history
    → book_audited (book_after_steps w (own_of w history)) ≡ audited w (own_of w history)

-- The books of all members stand for the history.
abbrev pub BooksStand : Type 0
BooksStand =
    (g : Beginning) (history : History) → IsRoster g.roster → IsBeginning g → IsHistory g history
    → Stands g
    (map (λ m. parts_of (book_after_steps (watched g m) (own_of (watched g m) history))) g.roster) history

-- ---- any book

-- A book goes on with a member's step: the event with its reply makes the history longer, and the book after
-- it fits together and is that of the member's own steps of the longer history.
pub record GoesOn (g : Beginning) (w : Watched) (history : History) (event : Event) (step : Step) (reply : Reply)
    (b : Book) : Type 0 where
  -- the history is longer
  pub is : IsHistory g ((event, reply) ∷ history)
  -- the parts fit together
  pub fits : FitsTogether (book_after b step reply)
  -- the book is of the steps
  pub of : IsBookOf w (own_of w ((event, reply) ∷ history)) (book_after b step reply)

-- Any book that fits together owes, after every history for which it stands as the member's, what is owed.
abbrev pub AnyBookOwesTheSame : Type 0
AnyBookOwesTheSame =
    (g : Beginning) (w : Watched) (history : History) (b : Book) (step : Step) (reply : Reply)
    → IsInRoster w → IsWatchedFrom g w → IsHistory g history
    → FitsTogether b → IsBookOf w (own_of w history) b
    → Owes w (own_of w history) step reply ↔ BookOwes b step reply

-- With an event that may be handed in and is the member's step, and the reply that the book owes, it goes on.
abbrev pub AnyBookGoesOn : Type 0
AnyBookGoesOn =
    (g : Beginning) (w : Watched) (history : History) (b : Book) (event : Event) (step : Step) (reply : Reply)
    → IsInRoster w → IsWatchedFrom g w → IsHistory g history
    → FitsTogether b → IsBookOf w (own_of w history) b
    → IsEvent event → whose w.roster event ≡ Ok (record { member = w.member; step = step })
    → BookOwes b step reply
    → GoesOn g w history event step reply b

-- Such a step keeps the contract of a book, whatever the history for which the book stood.
abbrev pub AnyBookKeepsItsContract : Type 0
AnyBookKeepsItsContract =
    (w : Watched) (b : Book) (event : Event) (step : Step) (reply : Reply)
    → IsInRoster w → FitsTogether b → IsOfMember w b
    → IsEvent event → whose w.roster event ≡ Ok (record { member = w.member; step = step })
    → BookOwes b step reply
    → BookStepsTo w (parts_of b) step reply (parts_of (book_after b step reply))

-- A member's book at first is that of the contract, and fits together.
abbrev pub StartsStand : Type 0
StartsStand =
    (w : Watched) → IsInRoster w
    → (parts_of (book_starting w.member w.base) ≡ starting_book w.member w.base)
    × FitsTogether (book_starting w.member w.base)

-- ---- the books of all members

-- The books of a beginning's members are kept at first.
abbrev pub StartingBooksAreKept : Type 0
StartingBooksAreKept =
    (g : Beginning) → IsRoster g.roster → IsBeginning g
    → AreKept g (map (λ m. book_starting m (base_of g m.node)) g.roster)

-- Where an event is a member's step, and the reply is the one that its book owes, the books with that one
-- gone on keep the contract of all books, and are kept.
abbrev pub KeptBooksStep : Type 0
KeptBooksStep =
    (g : Beginning) (w : Watched) (books : List Book) (b : Book) (event : Event) (step : Step) (reply : Reply)
    → IsRoster w.roster → IsWatchedFrom g w → AreKept g books
    → IsEvent event → whose w.roster event ≡ Ok (record { member = w.member; step = step })
    → book_at w.roster books w.member.node ≡ Some b → BookOwes b step reply
    → StepsTo g (map parts_of books) event reply
    (map parts_of (with_book_at w.roster w.member.node (book_after b step reply) books))
    × AreKept g (with_book_at w.roster w.member.node (book_after b step reply) books)

-- ---- what a book looks up

-- A book that is kept, of a member whose node isn't exposed, shows one mark at each number.
abbrev pub KeptBooksHaveOneMark : Type 0
KeptBooksHaveOneMark =
    (g : Beginning) (w : Watched) (books : List Book) (b : Book)
    → AreKept g books → IsInRoster w → IsWatchedFrom g w → book_at w.roster books w.member.node ≡ Some b
    → HasOneMark b

-- What such a book looks up at a number tells whether a pair was shown, and whether another mark is there.
abbrev pub LookUpsTell : Type 0
LookUpsTell =
    (b : Book) (number : ℕ) (x : List ℕ)
    → FitsTogether b → HasOneMark b → exposed b ≡ false
    → (is_shown (number, x) (book_shown b) ≡ is_hash x (hash_shown b number))
    × (is_fork (number, x) (book_shown b) ≡ is_other_hash x (hash_shown b number))

-- Where a segment that follows on the end, from the first number that was asked for on, makes the first fork
-- with what such a book shows is looked up: at its opening, and at each learned authenticator.
abbrev pub AnAnswerLooksUp : Type 0
AnAnswerLooksUp =
    (b : Book) (s : VersionedParts) (last : ℕ)
    → FitsTogether b → HasOneMark b → exposed b ≡ false → b.stage ≡ Wanted (first_of s) last
    → first_fork (marks_of s) (book_shown b) ≡ answer_fork b s

-- ---- limits

-- A member's book after its own steps of a history keeps its limits.
abbrev pub BooksKeepLimits : Type 0
BooksKeepLimits =
    (g : Beginning) (w : Watched) (history : History)
    → IsInRoster w → IsWatchedFrom g w → IsHistory g history
    → KeepsLimits (book_after_steps w (own_of w history))

-- So does any book that fits together, stands for them and keeps its limits, with each further step.
abbrev pub AnyBookKeepsLimits : Type 0
AnyBookKeepsLimits =
    (g : Beginning) (w : Watched) (history : History) (b : Book) (event : Event) (step : Step) (reply : Reply)
    → IsInRoster w → IsWatchedFrom g w → IsHistory g history
    → FitsTogether b → IsBookOf w (own_of w history) b → KeepsLimits b
    → IsEvent event → whose w.roster event ≡ Ok (record { member = w.member; step = step })
    → BookOwes b step reply
    → KeepsLimits (book_after b step reply)
