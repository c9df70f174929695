-- A step of a member's book is one of all books.
-- Serves: Books::step.
use Rattle.std.proofs.Common.{◌≡◌, ◌⊎◌, inl, inr, ℕ, Bool, true, false, cond, ◌==◌, List, [], ◌∷◌, map}
use Rattle.std.proofs.Common.{Option, Some, refl, sym, ap, subst, ◌∙◌}
use Rattle.std.proofs.lemmas.Option.{same_Some}
use Rattle.authenticator.specs.Roster.{IsRoster, member_of}
use Rattle.authenticator.specs.declared.member.Member.{Member}
use Rattle.node_book.specs.witness_spec.Starting.{Beginning}
use Rattle.node_book.specs.witness_spec.Watched.{watched}
use Rattle.node_book.specs.witness_spec.Refusals.{NoMemory}
use Rattle.node_book.specs.witness_spec.Events.{Event, IsEvent}
use Rattle.node_book.specs.witness_spec.Replies.{Reply}
use Rattle.node_book.specs.witness_spec.Steps as steps
use Rattle.node_book.specs.witness_spec.Histories.{IsWanting}
use Rattle.node_book.specs.witness_spec.Contract.{StepsTo}
use Rattle.node_book.specs.witness_spec.ContractLaws.{LeftOutLeavesBooks, WantLeavesBooks}
use Rattle.node_book.proofs.witness_laws.OwnSteps.{of_member}
use Rattle.node_book.specs.witness_book_laws.Books.{Book, parts_of}
use Rattle.node_book.specs.witness_book_laws.Together.{book_at, with_book_at}
use Rattle.node_book.specs.witness_book_laws.Ready.{AreReady}
use Rattle.node_book.specs.witness_book_laws.ReadyLaws.{ReadyBooksStep}
use Rattle.node_book.proofs.witness_book_laws.AllBooks.{its_beginning}
use Rattle.node_book.specs.Stepping.{StepMayWant, IsStep, RanOut, Steps}
use Rattle.witness_books.specs.Memory.{AreBytes}
use Rattle.witness_books.specs.Routing.{IsStepOf, IsNobodys}
use Rattle.witness_books.specs.Places.{OneDoes}

-- with the book that is there, nothing changes
pub with_same : (ms : List Member) (node : ℕ) (books : List Book) (b : Book) → book_at ms books node ≡ Some b
    → with_book_at ms node b books ≡ books
with_same [] node books b h = refl
with_same (m ∷ ms) node [] b h = refl
with_same (m ∷ ms) node (c ∷ books) b h = by (m.node == node) h (λ k. with_same ms node books b k)
  where
    by : (x : Bool) → ◌≡◌ {A = Option Book} (cond x (Some c) (book_at ms books node)) (Some b)
        → (book_at ms books node ≡ Some b → with_book_at ms node b books ≡ books)
        → cond x (b ∷ books) (c ∷ with_book_at ms node b books) ≡ c ∷ books
    by true k rest = ap (λ z. z ∷ books) (sym (same_Some _ _ k))
    by false k rest = ap (λ l. c ∷ l) (rest k)

-- Books lead to others by a step, and these can make their steps.
pub record Goes (g : Beginning) (old : List Book) (event : Event) (reply : Reply) (new : List Book)
    : Type 0 where
  -- they lead to them
  pub steps : StepsTo g (map parts_of old) event reply (map parts_of new)
  -- these can make their steps
  pub ready : AreReady g new

-- an event's step is its member's
pub its_member : (ms : List Member) (event : Event) (m : Member) (step : steps.Step)
    → IsStepOf ms event m step → member_of ms m.node ≡ Some m
its_member ms event m step of = of_member ms event (record { member = m; step = step }) of.whose_is

-- the step that a member's book made
pub made_goes : ReadyBooksStep → (g : Beginning) (m : Member) (old new : List Book) (book after : Book)
    (event : Event) (step : steps.Step) (reply : Reply) → IsRoster g.roster → AreReady g old → IsEvent event
    → IsStepOf g.roster event m step → book_at g.roster old m.node ≡ Some book → IsStep book step reply after
    → new ≡ with_book_at g.roster m.node after old → Goes g old event reply new
made_goes law g m old new book after event step reply roster ready is of there made are =
    let both = law g (watched g m) old book event step reply roster (its_beginning g m) ready is of.whose_is
    there made.owes in
    subst (Goes g old event reply)
    (sym (are ∙ ap (λ b. with_book_at g.roster m.node b old) made.after))
    (record { steps = both.0; ready = both.1 })

-- the step for which memory ran out
ran_out_goes : WantLeavesBooks → (g : Beginning) (m : Member) (old new : List Book) (book after : Book)
    (event : Event) (step : steps.Step) (reply : Reply) → AreReady g old → IsEvent event
    → IsStepOf g.roster event m step → book_at g.roster old m.node ≡ Some book → StepMayWant step
    → RanOut book step reply after → new ≡ with_book_at g.roster m.node after old → Goes g old event reply new
ran_out_goes law g m old new book after event step reply ready is of there may out are =
    subst (Goes g old event reply)
    (sym (are ∙ ap (λ b. with_book_at g.roster m.node b old) out.stays
    ∙ with_same g.roster m.node old book there))
    (record {
      steps = law g (map parts_of old) event reply is
          (record { may = of.wants_as may; is = out.refused ∙ sym (of.refused_as NoMemory) });
      ready = ready;
    })

-- a member's step is one of all books
pub step_goes : ReadyBooksStep → WantLeavesBooks → (g : Beginning) (m : Member) (old new : List Book)
    (event : Event) (step : steps.Step) (reply : Reply) → IsRoster g.roster → AreReady g old → IsEvent event
    → IsStepOf g.roster event m step → OneDoes g.roster m.node old (λ b after. Steps b step reply after) new
    → Goes g old event reply new
step_goes law want g m old new event step reply roster ready is of one = by one.does
  where
    by : Steps one.book step reply one.after → Goes g old event reply new
    by (inl made) =
        made_goes law g m old new one.book one.after event step reply roster ready is of one.there made
        one.are
    by (inr out) =
        ran_out_goes want g m old new one.book one.after event step reply ready is of one.there out.0.may
        out.1 one.are

-- what is refused before it is a step leaves the books
pub refused_steps : LeftOutLeavesBooks → WantLeavesBooks → (g : Beginning) (books : List Book)
    (event : Event) (reply : Reply) → IsEvent event
    → IsNobodys g.roster event reply ⊎ (AreBytes event × IsWanting event reply)
    → StepsTo g (map parts_of books) event reply (map parts_of books)
refused_steps out want g books event reply is (inl nobodys) =
    subst (λ r. StepsTo g (map parts_of books) event r (map parts_of books)) (sym nobodys.is)
    (out g (map parts_of books) event nobodys.why is nobodys.whose_is)
refused_steps out want g books event reply is (inr wants) =
    want g (map parts_of books) event reply is wants.1
