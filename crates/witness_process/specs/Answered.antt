-- What a witness answers, and by which of its books.
use Rattle.std.specs.Prelude.{◌≡◌, ◌⊎◌, ◌<◌, ◌==◌, ℕ, nat_lt, Bool, true, false, List, [], ◌∷◌, drop, get_or}
use Rattle.std.specs.Prelude.{length, set, All, Option, Some, None, Result, Ok, Err, if◌then◌else◌}
use Rattle.xdr.specs.Reading.{number_at}
use Rattle.authenticator.specs.declared.member.Member.{Member}
use Rattle.rpc.specs.Call.{message_at}
use Rattle.rpc.specs.declared.reply.ReplyBody.{ReplyBody}
use Rattle.peer_calls.specs.Calls.{Call, judged}
use Rattle.peer_calls.specs.WitnessRequests.{WitnessAsk, Null, Greet, Deliver, Wanted, Told, Shown, Case, Base}
use Rattle.peer_calls.specs.WitnessRequests.{witness_ask_at}
use Rattle.peer_calls.specs.declared.call.TheConstants.{WITNESS_PROGRAM}
use Rattle.peer_calls.specs.declared.call.Unasked.{Unasked}
use Rattle.watching.specs.Answers.{AnswersRecord, standing_number}
use Rattle.watching.specs.Shown.{StandingParts}
use Rattle.watching.specs.Telling.{TellsIf}
use Rattle.watching.specs.declared.answer.Outcome.TheVariants as outcomes
use Rattle.watching.specs.declared.results.Host.{Host}
use Rattle.watching.specs.declared.told.NodeTold.{NodeTold}
use Rattle.witness_books.specs.Books.{beginning_of}
use Rattle.witness_books.specs.node_book.Replies.{indication_in}
use Rattle.witness_books.specs.node_book.witness_spec.Events as events
use Rattle.witness_books.specs.node_book.witness_spec.Steps.{OwnStep}
use Rattle.witness_books.specs.node_book.witness_spec.Whose.{whose}
use Rattle.witness_process.specs.Histories.{StandForHistory}
use Rattle.witness_process.specs.Overlaps.{StandBeside}
use Rattle.witness_process.specs.declared.brought.RequestKind.{RequestKind}
use Rattle.witness_process.specs.declared.brought.RequestKind.TheVariants as kinds
use Rattle.witness_process.specs.declared.overlap.Before.{Before}
use Rattle.witness_process.specs.declared.overlap.NodeBooks.{NodeBooks}
use Rattle.witness_process.specs.declared.sets.BookSets.{BookSets}

-- ---- what is asked, and of whom

-- what is asked, where it is something
abbrev pub ask_or_none : Result WitnessAsk ReplyBody → Option WitnessAsk
ask_or_none (Ok ask) = Some ask
ask_or_none (Err refusal) = None

-- what a call asks
abbrev pub ask_of : Result Call Unasked → Option WitnessAsk
ask_of (Ok c) = ask_or_none (witness_ask_at c.procedure c.arguments)
ask_of (Err refusal) = None

-- what a record asks of a witness; nothing where it is no call of its program, or its arguments don't decode
abbrev pub ask_in : (record_bytes : List ℕ) → Option WitnessAsk
ask_in record_bytes = ask_of (judged WITNESS_PROGRAM (message_at record_bytes))

-- Whom a request is about: of whom it asks; nobody; of a packet that is a member's step, that member.
abbrev pub IsAbout : List Member → WitnessAsk → Option ℕ → Type 0
IsAbout ms Null whom = whom ≡ None
IsAbout ms (Greet digest n) whom = whom ≡ None
IsAbout ms (Deliver packet) whom =
    (own : OwnStep) → whose ms (events.Deliver packet) ≡ Ok own → whom ≡ Some own.member.node
IsAbout ms (Wanted n) whom = whom ≡ Some n
IsAbout ms (Told n) whom = whom ≡ Some n
IsAbout ms (Shown n) whom = whom ≡ Some n
IsAbout ms (Case n) whom = whom ≡ Some n
IsAbout ms (Base n after) whom = whom ≡ Some n

-- what kind of request it is: a packet, for what is said of a node or the evidence against it, or another
abbrev pub kind_of : WitnessAsk → RequestKind
kind_of Null = kinds.Other
kind_of (Greet digest n) = kinds.Other
kind_of (Deliver packet) = kinds.Packet
kind_of (Wanted n) = kinds.Other
kind_of (Told n) = kinds.Faults
kind_of (Shown n) = kinds.Other
kind_of (Case n) = kinds.Faults
kind_of (Base n after) = kinds.Other

-- ---- by books

-- A text is the answer to a record by a witness's books, with what nodes showed last: by what they replied to what the
-- record asks, by the digest of the roster, and by some time of the clock. The answer leads the books on to others of
-- the same beginning.
pub record IsAnsweredBy (standing : StandingParts) (digest : List ℕ) (left : StandingParts)
    (record_bytes text : List ℕ)
    : Type 0 where
  pub host : Host
  pub own : host.digest ≡ digest
  pub same : beginning_of left.books ≡ beginning_of standing.books
  pub answers :
      AnswersRecord host standing (judged WITNESS_PROGRAM (message_at record_bytes)) outcomes.Replied text left

-- whether what one set of books told of a node is less bad than what another one did, where both told something
abbrev pub is_worse : (current earlier : Option NodeTold) → Bool
is_worse None earlier = false
is_worse (Some current) None = false
is_worse (Some current) (Some earlier) =
    nat_lt (standing_number (indication_in current.indication)) (standing_number (indication_in earlier.indication))

-- Books and others were asked of a node, and told whether the others say worse. Nothing else became of either.
pub record SaysWorse (node : ℕ) (current before : StandingParts) (worse : Bool) (current' before' : StandingParts)
    : Type 0 where
  pub told : Option NodeTold
  pub earlier : Option NodeTold
  pub tells : TellsIf current.books node told current'.books
  pub shown : current'.shown ≡ current.shown
  pub told_earlier : TellsIf before.books node earlier before'.books
  pub shown_earlier : before'.shown ≡ before.shown
  pub is : worse ≡ is_worse told earlier

-- ---- by two sets of books

-- By the second where that says worse, else by the first. The other one stays.
abbrev pub IsAnsweredByWhich : (worse : Bool) → (current before : StandingParts) → (digest : List ℕ)
    → (current' before' : StandingParts) → (record_bytes text : List ℕ) → Type 0
IsAnsweredByWhich true current before digest current' before' record_bytes text =
    IsAnsweredBy before digest before' record_bytes text × (current' ≡ current)
IsAnsweredByWhich false current before digest current' before' record_bytes text =
    IsAnsweredBy current digest current' record_bytes text × (before' ≡ before)

-- the same, once both were asked
pub record IsAnsweredByWorse (node : ℕ) (current before : StandingParts) (digest : List ℕ)
    (current' before' : StandingParts) (record_bytes text : List ℕ)
    : Type 0 where
  pub worse : Bool
  pub asked : StandingParts
  pub asked_before : StandingParts
  pub says : SaysWorse node current before worse asked asked_before
  pub answers : IsAnsweredByWhich worse asked asked_before digest current' before' record_bytes text

-- An answer to a packet says that it lies below the base: after the six words of a reply to SUCCESS (RFC 5531, section
-- 9) stands 16 and the number of that refusal, 15, and nothing more.
pub record TellsBelow (text : List ℕ) : Type 0 where
  pub long : length text ≡ 28
  pub rest : List ℕ
  pub number : number_at 4 (drop 24 text) ≡ Ok (31, rest)

-- By the first; where that says that a packet lies below the base, by the second.
abbrev pub IsAnsweredInTurn : (current before : StandingParts) → (digest : List ℕ)
    → (current' before' : StandingParts) → (record_bytes text : List ℕ) → Type 0
IsAnsweredInTurn current before digest current' before' record_bytes text =
    (first : List ℕ) × IsAnsweredBy current digest current' record_bytes first
    × (((¬ TellsBelow first) × (text ≡ first) × (before' ≡ before))
    ⊎ (TellsBelow first × IsAnsweredBy before digest before' record_bytes text))

-- By both, by what kind of request it is.
abbrev pub IsAnsweredByTwo : RequestKind → (node : ℕ) → (current before : StandingParts) → (digest : List ℕ)
    → (current' before' : StandingParts) → (record_bytes text : List ℕ) → Type 0
IsAnsweredByTwo kinds.Packet node current before digest current' before' record_bytes text =
    IsAnsweredInTurn current before digest current' before' record_bytes text
IsAnsweredByTwo kinds.Faults node current before digest current' before' record_bytes text =
    IsAnsweredByWorse node current before digest current' before' record_bytes text
IsAnsweredByTwo kinds.Other node current before digest current' before' record_bytes text =
    IsAnsweredBy current digest current' record_bytes text × (before' ≡ before)

-- By books beside which others may stand.
abbrev pub IsAnsweredBeside : RequestKind → (node : ℕ) → (current : StandingParts) → Option Before → (digest : List ℕ)
    → (current' : StandingParts) → Option Before → (record_bytes text : List ℕ) → Type 0
IsAnsweredBeside kind node current None digest current' None record_bytes text =
    IsAnsweredBy current digest current' record_bytes text
IsAnsweredBeside kind node current (Some before) digest current' (Some after) record_bytes text =
    IsAnsweredByTwo kind node current before.standing digest current' after.standing record_bytes text
    × StandBeside before after
IsAnsweredBeside kind node current None digest current' (Some after) record_bytes text = ⊥
IsAnsweredBeside kind node current (Some before) digest current' None record_bytes text = ⊥

-- the same by the books of a server
pub record IsAnsweredByBooks (kind : RequestKind) (b : NodeBooks) (digest : List ℕ) (left : NodeBooks)
    (record_bytes text : List ℕ)
    : Type 0 where
  pub answers :
      IsAnsweredBeside kind b.node b.current b.before digest left.current left.before record_bytes text
  pub node : left.node ≡ b.node
  pub begun : left.begun ≡ b.begun

-- ---- by which books

-- the books of a node among some
abbrev pub books_of : (node : ℕ) → List NodeBooks → Option NodeBooks
books_of node [] = None
books_of node (b ∷ own) = if b.node == node then Some b else books_of node own

-- the same where there is a node
abbrev pub books_about : Option ℕ → List NodeBooks → Option NodeBooks
books_about None own = None
books_about (Some node) own = books_of node own

-- some, with these in the place of those of their node
abbrev pub with_books : NodeBooks → List NodeBooks → List NodeBooks
with_books left [] = []
with_books left (b ∷ own) = if b.node == left.node then left ∷ own else b ∷ with_books left own

-- The books of a node stand at a place of some.
pub record IsPlaceOf (own : List NodeBooks) (found : Option NodeBooks) (node place : ℕ) : Type 0 where
  pub inside : place < length own
  pub here : (b : NodeBooks) → b ≡ get_or own place b → (found ≡ Some b) × (b.node ≡ node)
  pub put : (left : NodeBooks) → left.node ≡ node → with_books left own ≡ set own place left

-- By the books of whom a request is about, where it has its own, else by those of all others. All others stay.
abbrev pub IsAnsweredByOwn : Option NodeBooks → RequestKind → (sets : BookSets) → (digest : List ℕ)
    → (left : BookSets) → (record_bytes text : List ℕ) → Type 0
IsAnsweredByOwn None kind sets digest left record_bytes text =
    IsAnsweredBy sets.shared digest left.shared record_bytes text × (left.own.items ≡ sets.own.items)
IsAnsweredByOwn (Some b) kind sets digest left record_bytes text =
    (after : NodeBooks) × IsAnsweredByBooks kind b digest after record_bytes text
    × (left.own.items ≡ with_books after sets.own.items) × (left.shared ≡ sets.shared)

-- What asks nothing is answered by the books of all others: nothing of them is in the answer.
abbrev pub IsAnsweredOf : Option WitnessAsk → (sets : BookSets) → (digest : List ℕ) → (left : BookSets)
    → (record_bytes text : List ℕ) → Type 0
IsAnsweredOf None sets digest left record_bytes text =
    IsAnsweredByOwn None kinds.Other sets digest left record_bytes text
IsAnsweredOf (Some ask) sets digest left record_bytes text =
    (whom : Option ℕ) × IsAbout sets.shared.books.roster ask whom
    × IsAnsweredByOwn (books_about whom sets.own.items) (kind_of ask) sets digest left record_bytes text

-- A text is the answer to a record by all books of a witness, which it leads on to these.
abbrev pub IsAnsweredBySets : (sets : BookSets) → (digest : List ℕ) → (left : BookSets) → (record_bytes text : List ℕ)
    → Type 0
IsAnsweredBySets sets digest left record_bytes text =
    IsAnsweredOf (ask_in record_bytes) sets digest left record_bytes text

-- the same, whatever it leads them on to
abbrev pub AreAnsweredBySets : (sets : BookSets) → (digest record_bytes text : List ℕ) → Type 0
AreAnsweredBySets sets digest record_bytes text =
    (left : BookSets) × IsAnsweredBySets sets digest left record_bytes text

-- The books of a server stand for histories, and those beside them, if some do.
abbrev pub BesideStands : Option Before → Type 0
BesideStands None = Unit {0}
BesideStands (Some before) = StandForHistory before.standing.books

pub record OwnStand (b : NodeBooks) : Type 0 where
  pub current : StandForHistory b.current.books
  pub before : BesideStands b.before

-- All books of a witness stand for histories.
pub record SetsStand (sets : BookSets) : Type 0 where
  pub shared : StandForHistory sets.shared.books
  pub own : All OwnStand sets.own.items

-- The same by books that lay under a lock, each of which stood for a history.
pub record IsAnsweredUnderLock (digest record_bytes text : List ℕ) : Type 0 where
  pub sets : BookSets
  pub stand : SetsStand sets
  pub answers : AreAnsweredBySets sets digest record_bytes text
