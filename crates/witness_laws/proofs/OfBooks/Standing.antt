-- Books that stand for a history: those of a beginning, those that the history itself says, and those of which
-- one member's book makes a step.
-- Serves: books_can_stand, one_book_is_enough, books_tell.
use Rattle.std.proofs.Common.{◌≡◌, inl, ℕ, ◌<◌, ◌≤◌, Bool, true, false, cond, ◌==◌, List, [], ◌∷◌, ◌++◌}
use Rattle.std.proofs.Common.{map, Some, Ok, refl, sym, ap, subst, ◌∙◌, eqb-true, eq-eqb, arith}
use Rattle.std.specs.Prelude.{IsTrue, nat_lt}
use Rattle.std.proofs.lemmas.Bool.{and_parts, ltb-true}
use Rattle.std.proofs.lemmas.Option.{same_Some}
use Rattle.authenticator.specs.Roster.{member_of, IsRoster, rises_above, member_values}
use Rattle.authenticator.specs.declared.member.Member.{Member}
use Rattle.witness_spec.specs.Events.{Event, IsEvent}
use Rattle.witness_spec.specs.Replies.{Reply}
use Rattle.witness_spec.specs.Starting.{Beginning, base_of}
use Rattle.witness_spec.specs.Watched.{Watched, watched, IsInRoster, IsWatchedFrom}
use Rattle.witness_spec.specs.Steps.{Step, OwnStep, Past}
use Rattle.witness_spec.specs.Whose.{whose}
use Rattle.witness_spec.specs.Histories.{History, own, IsOwed, BookParts, HoldSame, own_of}
use Rattle.witness_spec.specs.Histories.{StandsFor, StandEach, Stands}
use Rattle.witness_spec.specs.Contract.{starting_book, starting_books, book_of, books_of, book_in, with_book}
use Rattle.witness_spec.specs.Contract.{StepsTo, BookStepsTo}
use Rattle.witness_laws.proofs.Replied.{owed_good, good_want}
use Rattle.witness_laws.proofs.OwnSteps.{of_member, other_own, its_own, same_watched, owed_own}

-- ---- books that stand

-- a list holds what it holds
same_held : {A : Type 0} (xs : List A) → HoldSame xs xs
same_held xs x = (λ i. i, λ i. i)

-- what a member's own steps say, as a book, stands for them
said_stands : (w : Watched) (past : Past) → StandsFor w past (book_of w past)
said_stands w past = record {
  end = refl;
  stage = refl;
  begun = refl;
  pairs = λ x. (λ i. i, λ i. i);
  learned = λ x. (λ i. i, λ i. i);
  challenges = refl;
  outbox = refl;
  segments = λ x. (λ i. i, λ i. i);
  evidence = refl;
}

said_each : (g : Beginning) (history : History) (members : List Member)
    → StandEach g history members
    (map (λ m. book_of (watched g m) (own_of (watched g m) history)) members)
said_each g history [] = tt
said_each g history (m ∷ members) =
    (said_stands (watched g m) (own_of (watched g m) history), said_each g history members)

-- what a history says, as books, stands for it
pub said_stand : (g : Beginning) (history : History) → Stands g (books_of g history) history
said_stand g history = said_each g history g.roster

starting_stands : (w : Watched) → StandsFor w [] (starting_book w.member w.base)
starting_stands w = record {
  end = refl;
  stage = refl;
  begun = refl;
  pairs = λ x. (λ i. i, λ i. i);
  learned = λ x. (λ i. i, λ i. i);
  challenges = refl;
  outbox = refl;
  segments = λ x. (λ i. i, λ i. i);
  evidence = refl;
}

starting_each : (g : Beginning) (members : List Member)
    → StandEach g [] members (map (λ m. starting_book m (base_of g m.node)) members)
starting_each g [] = tt
starting_each g (m ∷ members) = (starting_stands (watched g m), starting_each g members)

-- the books of a beginning stand at first for the history of nothing
pub starting_stand : (g : Beginning) → Stands g (starting_books g) []
starting_stand g = starting_each g g.roster

-- ---- the book of a member

-- a member's book among those of members, if it stands
abbrev Found : Watched → History → List Member → List BookParts → Type 0
Found w history members books =
    (b : BookParts) × ((book_in members books w.member.node ≡ Some b) × StandsFor w (own_of w history) b)

module _ (g : Beginning) (w : Watched) (history : History) (from : IsWatchedFrom g w) where
  found_each : (members : List Member) (books : List BookParts)
      → member_of members w.member.node ≡ Some w.member
      → StandEach g history members books → Found w history members books
  found_each [] books is h = absurd (cc)
  found_each (n ∷ members) [] is h = absurd h
  found_each (n ∷ members) (b ∷ books) is h = by (n.node == w.member.node) is (found_each members books)
    where
      by : (t : Bool) → cond t (Some n) (member_of members w.member.node) ≡ Some w.member
          → (member_of members w.member.node ≡ Some w.member → StandEach g history members books
          → Found w history members books)
          → (x : BookParts)
          × ((cond t (Some b) (book_in members books w.member.node) ≡ Some x)
          × StandsFor w (own_of w history) x)
      by true e rest = (
        b,
        (
          refl,
          subst (λ x. StandsFor x (own_of x history) b) (same_watched g w from)
              (subst (λ x. StandsFor (watched g x) (own_of (watched g x) history) b)
              (same_Some _ _ e) h.0),
        ),
      )
      by false e rest = rest e h.1

  -- of books that stand, one is the member's, and stands for its own steps
  found_in : (books : List BookParts) → member_of w.roster w.member.node ≡ Some w.member
      → Stands g books history → Found w history w.roster books
  found_in books is h =
      found_each w.roster books is (subst (λ ms. StandEach g history ms books) from.roster h)

  -- so for a member of the roster
  pub found : (books : List BookParts) → IsInRoster w → Stands g books history
      → Found w history w.roster books
  found books is h = found_in books is.is_member h

  -- the book that is there stands, by the roster alone
  pub standing_in : (books : List BookParts) (b : BookParts)
      → member_of w.roster w.member.node ≡ Some w.member
      → Stands g books history → book_in w.roster books w.member.node ≡ Some b
      → StandsFor w (own_of w history) b
  standing_in books b is h there =
      let f = found_in books is h in
      subst (StandsFor w (own_of w history)) (same_Some _ _ (sym f.1.0 ∙ there)) f.1.1

  -- and so does the one that is there
  pub found_stands : (books : List BookParts) (b : BookParts) → IsInRoster w
      → Stands g books history → book_in w.roster books w.member.node ≡ Some b
      → StandsFor w (own_of w history) b
  found_stands books b is h there = standing_in books b is.is_member h there

-- ---- one book makes a step

module _ (g : Beginning) (w : Watched) (history : History) (from : IsWatchedFrom g w) (e : Event) (r : Reply)
    (others : (node : ℕ) → (w.member.node == node) ≡ false
    → own g.roster node ((e, r) ∷ history) ≡ own g.roster node history)
  where
    -- the members after it have other numbers, and their books stand on
    after_it : (low : ℕ) (members : List Member) (books : List BookParts) → w.member.node ≤ low
        → IsTrue (rises_above low (member_values members)) → StandEach g history members books
        → StandEach g ((e, r) ∷ history) members books
    after_it low [] [] above rise h = tt
    after_it low [] (b ∷ books) above rise h = h
    after_it low (n ∷ members) [] above rise h = h
    after_it low (n ∷ members) (b ∷ books) above rise h =
        let both = and_parts (nat_lt low n.node) (rises_above n.node (member_values members)) rise in
        let higher : low < n.node = ltb-true low n.node both.0 in (
          subst (λ x. StandsFor (watched g n) x b)
              (sym (others n.node (not_same (omega (arith, above, higher))))) h.0,
          after_it n.node members books (omega (arith, above, higher)) both.1 h.1,
        )
      where
        not_same : w.member.node < n.node → (w.member.node == n.node) ≡ false
        not_same above = by (w.member.node == n.node) refl
          where
            by : (t : Bool) → (w.member.node == n.node) ≡ t → t ≡ false
            by true same =
                let at : w.member.node ≡ n.node = eqb-true w.member.node n.node same in
                absurd (omega (arith, at, above))
            by false same = refl

    step_each : (low : ℕ) (new : BookParts) (members : List Member) (books : List BookParts)
        → member_of members w.member.node ≡ Some w.member → IsTrue (rises_above low (member_values members))
        → StandEach g history members books → StandsFor w (own_of w ((e, r) ∷ history)) new
        → StandEach g ((e, r) ∷ history) members (with_book members w.member.node new books)
    step_each low new [] books is rise h k = absurd (cc)
    step_each low new (n ∷ members) [] is rise h k = absurd h
    step_each low new (n ∷ members) (b ∷ books) is rise h k =
        by (n.node == w.member.node) refl is
        (λ rest. step_each n.node new members books rest
        (and_parts (nat_lt low n.node) (rises_above n.node (member_values members)) rise).1 h.1 k)
      where
        turned : (t : Bool) → (n.node == w.member.node) ≡ t → (w.member.node == n.node) ≡ t
        turned true same = eq-eqb w.member.node n.node (sym (eqb-true n.node w.member.node same))
        turned false same = not_turned (w.member.node == n.node) refl
          where
            not_turned : (t : Bool) → (w.member.node == n.node) ≡ t → t ≡ false
            not_turned true at =
                sym (eq-eqb n.node w.member.node (sym (eqb-true w.member.node n.node at))) ∙ same
            not_turned false at = refl

        by : (t : Bool) → (n.node == w.member.node) ≡ t
            → cond t (Some n) (member_of members w.member.node) ≡ Some w.member
            → (member_of members w.member.node ≡ Some w.member
            → StandEach g ((e, r) ∷ history) members (with_book members w.member.node new books))
            → StandEach g ((e, r) ∷ history) (n ∷ members)
            (cond t (new ∷ books) (b ∷ with_book members w.member.node new books))
        by true same at rest =
            let it : n ≡ w.member = same_Some _ _ at in
            let same_node : w.member.node ≡ n.node = sym (eqb-true n.node w.member.node same) in
            let low_enough : w.member.node ≤ n.node = omega (arith, same_node) in (
              subst (λ x. StandsFor (watched g x) (own_of (watched g x) ((e, r) ∷ history)) new) (sym it)
                  (subst (λ x. StandsFor x (own_of x ((e, r) ∷ history)) new) (sym (same_watched g w from)) k),
              after_it n.node members books low_enough
                  (and_parts (nat_lt low n.node) (rises_above n.node (member_values members)) rise).1 h.1,
            )
        by false same at rest = (
          subst (λ x. StandsFor (watched g n) x b) (sym (others n.node (turned false same))) h.0,
          rest at,
        )

-- a step of a member's book is a step of all books
pub one_book : (g : Beginning) (w : Watched) (books : List BookParts) (old new : BookParts) (e : Event)
    (step : Step) (r : Reply) → IsRoster w.roster → IsEvent e → IsWatchedFrom g w
    → whose w.roster e ≡ Ok (record { member = w.member; step = step })
    → book_in w.roster books w.member.node ≡ Some old → BookStepsTo w old step r new
    → StepsTo g books e r (with_book w.roster w.member.node new books)
one_book g w books old new e step r roster event from its there steps history is stand =
    let o : OwnStep = record { member = w.member; step = step } in
    let member = of_member w.roster e o its in
    let k = steps g history from is (standing_in g w history from books old member stand there) in
    let owed : IsOwed g history e r = (owed_own g w history e step r from its).1 k.0 in
    let good = good_want r (owed_good w (own_of w history) step r k.0) in
    let one : own_of w ((e, r) ∷ history) ≡ (step, r) ∷ own_of w history =
    ap (λ x. x ++ own_of w history)
    (its_own w.roster w.member.node e r o its (eq-eqb w.member.node w.member.node refl) good) in (
      (event, inl owed, is),
      subst (λ ms. StandEach g ((e, r) ∷ history) ms (with_book w.roster w.member.node new books))
          (sym from.roster)
          (step_each g w history from e r
          (λ node differs. ap (λ x. x ++ own g.roster node history)
          (other_own g.roster node e r o (ap (λ ms. whose ms e) from.roster ∙ its) differs))
          0 new w.roster books member roster.1
          (subst (λ ms. StandEach g history ms books) from.roster stand)
          (subst (λ x. StandsFor w x new) (sym one) k.1)),
    )
