-- A step of which notes are made.
-- Serves: Books::step_noting, Books::noted_step.
use Rattle.std.proofs.Common.{◌≡◌, ◌⊎◌, inl, inr, false, List, [], ◌∷◌, map, Option, Some, None}
use Rattle.std.proofs.Common.{refl, sym, ap, subst, ◌∙◌}
use Rattle.authenticator.specs.Roster.{IsRoster}
use Rattle.authenticator.specs.declared.member.Member.{Member}
use Rattle.node_book.specs.witness_spec.Refusals as refusals
use Rattle.node_book.specs.witness_spec.Events.{JobParts, Event, IsEvent}
use Rattle.node_book.specs.witness_spec.Events as events
use Rattle.node_book.specs.witness_spec.Replies.{Reply, refused, is_want_of_memory}
use Rattle.node_book.specs.witness_spec.Steps as steps
use Rattle.node_book.specs.witness_spec.Starting.{Beginning}
use Rattle.node_book.specs.witness_spec.Watched.{Watched, watched}
use Rattle.node_book.specs.witness_spec.Histories.{own_of, IsWanting, BookParts}
use Rattle.node_book.specs.witness_spec.Contract.{StepsTo, IsNotedStep}
use Rattle.node_book.specs.witness_spec.ContractLaws.{LeftOutLeavesBooks, WantLeavesBooks}
use Rattle.node_book.specs.witness_spec.ContractLaws.{OutOfMemoryLeavesBooks}
use Rattle.node_book.specs.witness_spec.ContractLaws.{StepsAreNoted}
use Rattle.node_book.proofs.witness_laws.Replied.{owed_good, good_want, want_refused}
use Rattle.node_book.specs.witness_book_laws.Books.{Book, parts_of}
use Rattle.node_book.specs.witness_book_laws.Replying.{BookOwes}
use Rattle.node_book.specs.witness_book_laws.Together.{book_at, with_book_at}
use Rattle.node_book.specs.witness_book_laws.Ready.{AreReady}
use Rattle.node_book.specs.witness_book_laws.ReadyLaws.{ReadyBooksStep}
use Rattle.node_book.proofs.witness_book_laws.AllBooks.{its, its_beginning, its_book}
use Rattle.node_book.proofs.witness_book_laws.Histories.{in_roster}
use Rattle.node_book.proofs.witness_book_laws.AnyBook.{any_owes}
use Rattle.node_book.specs.Replies.{reply_in}
use Rattle.node_book.specs.Stepping.{NotedSteps}
use Rattle.node_book.specs.declared.reply.ReplyOf.{ReplyOf}
use Rattle.witness_books.specs.Given.{StepsKeepHeadline}
use Rattle.witness_books.specs.Headline.{KeepsHeadline}
use Rattle.witness_books.specs.Memory.{AreBytes}
use Rattle.witness_books.specs.Routing.{IsStepOf, IsNobodys}
use Rattle.witness_books.specs.Places.{OneDoes}
use Rattle.witness_books.specs.Notes.{for_memory, AreNotesOf, NotesRefusal}
use Rattle.witness_books.proofs.Stepping.{with_same, made_goes, its_member, refused_steps}

-- Notes of a reply, if there are some.
abbrev pub Notes : Type 0
Notes = Option (ReplyOf JobParts JobParts × ReplyOf JobParts JobParts)

-- Books lead to others by a noted step, and these can make their steps.
pub record GoesNoting (g : Beginning) (old : List Book) (event : Event) (reply : Reply) (notes : Notes)
    (new : List Book) : Type 0 where
  -- they lead to them
  pub noted : IsNotedStep g (map parts_of old) event reply (map parts_of new)
  -- these can make their steps
  pub ready : AreReady g new
  -- what the notes say
  pub say : AreNotesOf reply notes

-- ---- a member's step

-- what a member's book owes doesn't say that memory ran out
pub owed_enough : (g : Beginning) (m : Member) (old : List Book) (book : Book) (event : Event)
    (step : steps.Step) (reply : Reply) → IsRoster g.roster → AreReady g old → IsEvent event
    → IsStepOf g.roster event m step → book_at g.roster old m.node ≡ Some book → BookOwes book step reply
    → is_want_of_memory reply ≡ false
owed_enough g m old book event step reply roster ready is of there owes =
    let w : Watched = watched g m in
    let history = ready.kept.are.history in
    let fits = (its g m old book event step reply roster ready.kept is of.whose_is there owes).1 in
    let its_own = its_book g m old book event step reply roster ready.kept is of.whose_is there owes in
    let member = in_roster g m ready.kept.begins (its_member g.roster event m step of) in
    good_want reply
    (owed_good w (own_of w history) step reply
    ((any_owes g w history book member (its_beginning g m) ready.kept.are.is fits its_own step reply).1 owes))

-- the laws
pub record Laws : Type 0 where
  -- of steps
  pub step : ReadyBooksStep
  -- of steps that are noted
  pub noted : StepsAreNoted
  -- of memory that was refused
  pub want : OutOfMemoryLeavesBooks

-- the laws together
pub laws_of : ReadyBooksStep → StepsAreNoted → OutOfMemoryLeavesBooks → Laws
laws_of step noted want = record { step = step; noted = noted; want = want }

-- a member's step with notes is one of all books
pub noting_goes : Laws → (g : Beginning) (m : Member) (old new : List Book) (event : Event)
    (step : steps.Step) (reply : ReplyOf JobParts JobParts) (notes : Notes)
    → IsRoster g.roster → AreReady g old → IsEvent event → IsStepOf g.roster event m step
    → OneDoes g.roster m.node old (λ b after. NotedSteps b step reply notes after) new
    → GoesNoting g old event (reply_in reply) notes new
noting_goes laws g m old new event step reply notes roster ready is of one = by notes one.does
  where
    by : (notes : Notes) → NotedSteps one.book step reply notes one.after
        → GoesNoting g old event (reply_in reply) notes new
    by None out =
        let refusal : reply_in reply ≡ refused event refusals.NoMemory =
        out.refused ∙ sym (of.refused_as refusals.NoMemory) in
        let want : GoesNoting g old event (reply_in reply) None old =
        record {
          noted = laws.want g (map parts_of old) event (reply_in reply) refusal;
          ready = ready;
          say = ap is_want_of_memory refusal ∙ want_refused event;
        } in
        subst (GoesNoting g old event (reply_in reply) None)
        (sym (one.are ∙ ap (λ b. with_book_at g.roster m.node b old) out.stays
        ∙ with_same g.roster m.node old one.book one.there)) want
    by (Some pair) made =
        let goes = made_goes laws.step g m old new one.book one.after event step (reply_in reply) roster
        ready is of one.there made.2 one.are in
        let enough = owed_enough g m old one.book event step (reply_in reply) roster ready is of
        one.there made.2.owes in
        record {
          noted = laws.noted g (map parts_of old) (map parts_of new) event (reply_in reply) enough
              goes.steps;
          ready = goes.ready;
          say = record { enough = enough; is_one = made.0; is_two = made.1 };
        }

-- where memory was enough, a noted step is a step
noted_is_step : (g : Beginning) (old new : List BookParts) (event : Event) (reply : Reply)
    → is_want_of_memory reply ≡ false → IsNotedStep g old event reply new → StepsTo g old event reply new
noted_is_step g old new event reply enough noted history h stands =
    let all = noted.noted history enough h stands in
    ((all.0, inl all.1, h), all.2)

-- so it keeps the headline
pub noted_keeps : StepsKeepHeadline → (g : Beginning) (old new : List BookParts) (event : Event)
    (reply : Reply) → IsNotedStep g old event reply new → is_want_of_memory reply ≡ false
    → KeepsHeadline g old (event ∷ []) (reply ∷ []) new
noted_keeps law g old new event reply noted enough =
    law g old new event reply (noted_is_step g old new event reply enough noted)

-- ---- what is refused before it is a step

-- a refusal of an event becomes one as out of memory
for_memory_of : (event : Event) (refusal : refusals.Refusal)
    → for_memory (refused event refusal) ≡ refused event refusals.NoMemory
for_memory_of (events.Deliver bytes) refusal = refl
for_memory_of (events.Learn a key) refusal = refl
for_memory_of (events.SendChallenge e key) refusal = refl
for_memory_of (events.Answer c) refusal = refl
for_memory_of (events.AckIn a key) refusal = refl
for_memory_of (events.Audit node) refusal = refl
for_memory_of (events.Begin node) refusal = refl
for_memory_of (events.File d) refusal = refl
for_memory_of (events.PutBack j) refusal = refl
for_memory_of (events.Forward node) refusal = refl
for_memory_of (events.Ask node question) refusal = refl

-- so does what is refused before it is a step
for_memory_is : (g : Beginning) (event : Event) (reply : Reply)
    → IsNobodys g.roster event reply ⊎ (AreBytes event × IsWanting event reply)
    → for_memory reply ≡ refused event refusals.NoMemory
for_memory_is g event reply (inl nobodys) = ap for_memory nobodys.is ∙ for_memory_of event nobodys.why
for_memory_is g event reply (inr wants) = ap for_memory wants.1.is ∙ for_memory_of event refusals.NoMemory

-- a refusal with its notes leaves the books
pub refusal_goes : Laws → LeftOutLeavesBooks → WantLeavesBooks → (g : Beginning) (books : List Book)
    (event : Event) (refusal reply : Reply) (notes : Notes) → AreReady g books → IsEvent event
    → IsNobodys g.roster event refusal ⊎ (AreBytes event × IsWanting event refusal)
    → NotesRefusal refusal reply notes
    → GoesNoting g books event reply notes books
refusal_goes laws out want g books event refusal reply None ready is why given =
    let same : reply ≡ refused event refusals.NoMemory = given ∙ for_memory_is g event refusal why in
    record {
      noted = laws.want g (map parts_of books) event reply same;
      ready = ready;
      say = ap is_want_of_memory same ∙ want_refused event;
    }
refusal_goes laws out want g books event refusal reply (Some notes) ready is why given =
    let steps = refused_steps out want g books event refusal is why in
    let goes : GoesNoting g books event refusal (Some notes) books =
    record {
      noted = laws.noted g (map parts_of books) (map parts_of books) event refusal given.1.enough steps;
      ready = ready;
      say = given.1;
    } in
    subst (λ r. GoesNoting g books event r (Some notes) books) (sym given.0) goes
