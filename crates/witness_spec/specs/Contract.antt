-- What a step of a witness's books owes, and a run, and a journal that keeps events with their replies. Books
-- are those of all members of a roster. Each clause speaks of every history that the books before stand for.
use Rattle.std.specs.Prelude.{◌≡◌, ℕ, true, false, ◌==◌, List, [], ◌∷◌, map, length}
use Rattle.std.specs.Prelude.{Option, Some, None, is_some, if◌then◌else◌}
use Rattle.authenticator.specs.declared.member.Member.{Member}
use Rattle.witness_spec.specs.Refusals.{NoMemory}
use Rattle.witness_spec.specs.Events.{Event, IsEvent, Question, ItsIndication, ItsChallenges, ItsEvidence}
use Rattle.witness_spec.specs.Replies.{Reply, Told, OpenList, EvidenceIs, refused, is_want_of_memory}
use Rattle.witness_spec.specs.Replies.{Indication, Exposed}
use Rattle.witness_spec.specs.Starting.{KnownBase, Beginning, base_of, start_number, start_state, start_pairs}
use Rattle.witness_spec.specs.Watched.{Watched, watched, IsWatchedFrom}
use Rattle.witness_spec.specs.Steps.{Step, Past}
use Rattle.witness_spec.specs.Standing.{end_of, shown, kept, NoAudit, stage_of, begins, open_challenges}
use Rattle.witness_spec.specs.Standing.{without_evidence, outbox, all_accepted}
use Rattle.witness_spec.specs.Exposing.{evidence}
use Rattle.witness_spec.specs.Owing.{Owes}
use Rattle.witness_spec.specs.Histories.{History, IsOwed, IsHistory, BookParts, StandsFor, Stands}
use Rattle.witness_spec.specs.Histories.{own_of}

-- ---- books

-- what a member's book holds at first, from its base if there is one
abbrev pub starting_book : Member → Option KnownBase → BookParts
starting_book m base = record {
  end = record { number = start_number base; state = start_state m base };
  stage = NoAudit;
  begun = 0;
  pairs = start_pairs base;
  learned = [];
  challenges = [];
  outbox = [];
  segments = [];
  evidence = None;
}

-- the books of a beginning at first
abbrev pub starting_books : Beginning → List BookParts
starting_books g = map (λ m. starting_book m (base_of g m.node)) g.roster

-- what a member's own steps say, as a book, each list in their order
abbrev pub book_of : Watched → Past → BookParts
book_of w past = record {
  end = end_of w past;
  stage = stage_of past;
  begun = begins past;
  pairs = shown w past;
  learned = kept w past;
  challenges = open_challenges past;
  outbox = outbox w past;
  segments = all_accepted past;
  evidence = evidence w past;
}

-- what a history says, as books
abbrev pub books_of : Beginning → History → List BookParts
books_of g history = map (λ m. book_of (watched g m) (own_of (watched g m) history)) g.roster

-- the book of the member with a number
abbrev pub book_in : List Member → List BookParts → (node : ℕ) → Option BookParts
book_in [] books node = None
book_in (m ∷ ms) [] node = None
book_in (m ∷ ms) (b ∷ books) node = if m.node == node then Some b else book_in ms books node

-- the books with another one for the member with a number
abbrev pub with_book : List Member → (node : ℕ) → BookParts → List BookParts → List BookParts
with_book [] node new books = books
with_book (m ∷ ms) node new [] = []
with_book (m ∷ ms) node new (b ∷ books) =
    if m.node == node then new ∷ books else b ∷ with_book ms node new books

-- Books as a program has them: they stand for a history.
pub record AreBooks (g : Beginning) (books : List BookParts) : Type 0 where
  pub history : History
  pub is : IsHistory g history
  pub stands : Stands g books history

-- ---- a step

-- A step leads from old books to new ones, with a reply. After every history that the old books stand for,
-- the event may be handed in, the reply is the one that is owed, or NoMemory where a step may answer that
-- (IsWanting), and the new books stand for the history with this event.
abbrev pub StepsTo : Beginning → (old : List BookParts) → Event → Reply → (new : List BookParts) → Type 0
StepsTo g old event reply new =
    (history : History) → IsHistory g history → Stands g old history
    → IsHistory g ((event, reply) ∷ history) × Stands g new ((event, reply) ∷ history)

-- The same of the book of the member whose step it is: the reply is the one that is owed to that step. It is
-- a step of all books, since another member's step changes nothing here.
abbrev pub BookStepsTo : Watched → (old : BookParts) → Step → Reply → (new : BookParts) → Type 0
BookStepsTo w old step reply new =
    (g : Beginning) (history : History)
    → IsWatchedFrom g w → IsHistory g history → StandsFor w (own_of w history) old
    → Owes w (own_of w history) step reply
    × StandsFor w ((step, reply) ∷ own_of w history) new

-- ---- a run

-- A list of events, the oldest first, with their replies, joined to a history, the newest first.
abbrev pub joined : List Event → List Reply → History → History
joined [] replies history = history
joined (e ∷ events) [] history = history
joined (e ∷ events) (r ∷ replies) history = joined events replies ((e, r) ∷ history)

-- A run leads from old books to new ones: each event has a reply, and all of them together keep what a step
-- keeps.
pub record RunsTo (g : Beginning) (old : List BookParts) (events : List Event) (replies : List Reply)
    (new : List BookParts) : Type 0 where
  pub count : length replies ≡ length events
  pub keeps : (history : History) → IsHistory g history → Stands g old history
      → IsHistory g (joined events replies history) × Stands g new (joined events replies history)

-- Each event is a step of its own, from the books that the one before left.
abbrev pub StepsInTurn : Beginning → (old : List BookParts) → List Event → List Reply
    → (new : List BookParts) → Type 0
StepsInTurn g old [] [] new = old ≡ new
StepsInTurn g old [] (r ∷ replies) new = ⊥
StepsInTurn g old (e ∷ events) [] new = ⊥
StepsInTurn g old (e ∷ events) (r ∷ replies) new =
    (next : List BookParts) × (StepsTo g old e r next × StepsInTurn g next events replies new)

-- ---- where event and reply are copied

-- An event is refused as out of memory, whatever it is. A step that copies event and reply may run out of
-- memory at each, also where an indication is asked for or a job is put back.
abbrev pub IsOutOfMemory : Event → Reply → Type 0
IsOutOfMemory event reply = reply ≡ refused event NoMemory

-- A step that is copied: the reply is the one that is owed, and the new books stand for the history with this
-- event; or it ran out of memory, and the books are as before.
pub record IsNotedStep (g : Beginning) (old : List BookParts) (event : Event) (reply : Reply)
    (new : List BookParts) : Type 0 where
  pub noted : (history : History) → is_want_of_memory reply ≡ false
      → IsHistory g history → Stands g old history
      → IsEvent event × IsOwed g history event reply × Stands g new ((event, reply) ∷ history)
  pub refused : is_want_of_memory reply ≡ true → IsOutOfMemory event reply × (new ≡ old)

-- ---- journals

-- A journal has events that may be handed in, each with the reply that is owed after the earlier ones, the
-- newest first. None of them ran out of memory.
abbrev pub IsJournal : Beginning → History → Type 0
IsJournal g [] = Unit {0}
IsJournal g (p ∷ journal) = IsEvent p.0 × IsOwed g journal p.0 p.1 × IsJournal g journal

-- It is a journal, for which the books stand.
pub record IsJournalOf (g : Beginning) (journal : History) (books : List BookParts) : Type 0 where
  pub replies : IsJournal g journal
  pub stands : Stands g books journal

-- a journal after a noted step: with one place more, or as it was, where the step ran out of memory
abbrev pub recorded : Event → Reply → History → History
recorded event reply journal = if is_want_of_memory reply then journal else (event, reply) ∷ journal

-- ---- what books tell

-- the indication that a book tells: Exposed where it has evidence
abbrev pub indication_by : BookParts → Indication
indication_by b = if is_some b.evidence then Exposed else without_evidence b.challenges

-- what a book tells of its node
abbrev pub told_by : BookParts → Question → Reply
told_by b ItsIndication = Told (indication_by b)
told_by b ItsChallenges = OpenList b.challenges
told_by b ItsEvidence = EvidenceIs b.evidence
