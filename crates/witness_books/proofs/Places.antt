-- A member's book is at the member's place.
-- Serves: step_of.
use Rattle.std.proofs.Common.{◌≡◌, ℕ, suc, ◌+◌, ◌<◌, Bool, true, false, cond, ◌==◌, List, [], ◌∷◌, length}
use Rattle.std.proofs.Common.{Option, Some, get_or, set, IsSome, refl, sym, ap, subst, ◌∙◌, arith}
use Rattle.std.proofs.lemmas.Option.{same_Some}
use Rattle.authenticator.specs.Roster.{member_of}
use Rattle.authenticator.specs.declared.member.Member.{Member}
use Rattle.node_book.specs.witness_spec.Starting.{Beginning}
use Rattle.node_book.specs.witness_spec.Watched.{watched}
use Rattle.node_book.specs.witness_spec.Steps.{Step}
use Rattle.node_book.specs.witness_book_laws.Books.{Book}
use Rattle.node_book.specs.witness_book_laws.Together.{book_at, with_book_at, FitEach}
use Rattle.node_book.specs.witness_book_laws.Ready.{IsReady, AreReady, IsOfLog}
use Rattle.node_book.specs.witness_book_laws.ReadyLaws.{ReadyBooksAreReady}
use Rattle.node_book.proofs.witness_book_laws.AllBooks.{its_beginning}
use Rattle.node_book.proofs.witness_book_laws.Histories.{in_roster}
use Rattle.witness_books.specs.Places.{place_from, CanStep, OneDoes}

-- The book of a number is so many places after the first.
pub record IsAt (first : ℕ) (ms : List Member) (node : ℕ) (books : List Book) (place : ℕ) : Type 0 where
  -- so many
  pub steps : ℕ
  -- it is there
  pub is : place ≡ first + steps
  -- it is a place
  pub inside : steps < length books
  -- the book there
  pub there : (d : Book) → book_at ms books node ≡ Some (get_or books steps d)
  -- another there
  pub with : (new : Book) → with_book_at ms node new books ≡ set books steps new

-- the place of a member is that of its book
pub is_at : (first : ℕ) (ms : List Member) (node : ℕ) (books : List Book) (place : ℕ)
    → length books ≡ length ms → place_from first ms node ≡ Some place → IsAt first ms node books place
is_at first [] node books place each h = absurd (cc)
is_at first (m ∷ ms) node [] place each h = let no : ⊥ = omega (arith, each) in absurd no
is_at first (m ∷ ms) node (b ∷ books) place each h =
    by (m.node == node) refl h (λ k. is_at (first + 1) ms node books place (omega (arith, each)) k)
  where
    by : (x : Bool) → (m.node == node) ≡ x
        → ◌≡◌ {A = Option ℕ} (cond x (Some first) (place_from (first + 1) ms node)) (Some place)
        → (place_from (first + 1) ms node ≡ Some place → IsAt (first + 1) ms node books place)
        → IsAt first (m ∷ ms) node (b ∷ books) place
    by true e k rest =
        let same : first ≡ place = same_Some _ _ k in
        record {
          steps = 0;
          is = omega (arith, same);
          inside = omega arith;
          there = λ d. ap (λ x. cond x (Some b) (book_at ms books node)) e;
          with = λ new. ap (λ x. cond x (new ∷ books) (b ∷ with_book_at ms node new books)) e;
        }
    by false e k rest =
        let r = rest k in
        let is = r.is in
        let inside = r.inside in
        record {
          steps = suc r.steps;
          is = omega (arith, is);
          inside = omega (arith, inside);
          there = λ d. ap (λ x. cond x (Some b) (book_at ms books node)) e ∙ r.there d;
          with = λ new.
              ap (λ x. cond x (new ∷ books) (b ∷ with_book_at ms node new books)) e
              ∙ ap (λ l. b ∷ l) (r.with new);
        }

-- a member has a place
pub has_place : (first : ℕ) (ms : List Member) (node : ℕ) (m : Member) → member_of ms node ≡ Some m
    → (place : ℕ) × (place_from first ms node ≡ Some place)
has_place first [] node m h = absurd (cc)
has_place first (n ∷ ms) node m h = by (n.node == node) refl h (λ k. has_place (first + 1) ms node m k)
  where
    by : (x : Bool) → (n.node == node) ≡ x
        → ◌≡◌ {A = Option Member} (cond x (Some n) (member_of ms node)) (Some m)
        → (member_of ms node ≡ Some m → (place : ℕ) × (place_from (first + 1) ms node ≡ Some place))
        → (place : ℕ) × (place_from first (n ∷ ms) node ≡ Some place)
    by true e k rest = (first, ap (λ x. cond x (Some first) (place_from (first + 1) ms node)) e)
    by false e k rest =
        let r = rest k in (r.0, ap (λ x. cond x (Some first) (place_from (first + 1) ms node)) e ∙ r.1)

-- ---- where a member's book can make a step

-- there is a book for each member
each_book : (g : Beginning) (ms : List Member) (books : List Book) → FitEach g ms books
    → length books ≡ length ms
each_book g [] [] fit = refl
each_book g [] (b ∷ books) fit = absurd fit
each_book g (m ∷ ms) [] fit = absurd fit
each_book g (m ∷ ms) (b ∷ books) fit = ap (λ n. suc n) (each_book g ms books fit.2)

-- a member's book can make a step that is of its log
pub can_step : ReadyBooksAreReady → (g : Beginning) (m : Member) (books : List Book) (step : Step)
    → AreReady g books → member_of g.roster m.node ≡ Some m → IsOfLog m.log_version step
    → CanStep g.roster m.node books step
can_step law g m books step ready member of =
    let w = watched g m in
    let is = in_roster g m ready.kept.begins member in
    record {
      each = each_book g g.roster books ready.kept.fit;
      ready = λ b there. (law g w books b ready is (its_beginning g m) there).0;
      of_log = λ b there.
          let its = (law g w books b ready is (its_beginning g m) there).1 in
          subst (λ v. IsOfLog v step) (sym its.version) of;
    }

-- The book of a number is at a place.
pub record IsHere (ms : List Member) (node : ℕ) (books : List Book) (place : ℕ) : Type 0 where
  -- it is a place
  pub inside : place < length books
  -- the book there
  pub there : (d : Book) → book_at ms books node ≡ Some (get_or books place d)
  -- another there
  pub with : (new : Book) → with_book_at ms node new books ≡ set books place new

-- where the place was found
pub is_here : (ms all : List Member) (node : ℕ) (books : List Book) (step : Step) (found : Option ℕ)
    (place : ℕ) → CanStep ms node books step → all ≡ ms → found ≡ place_from 0 all node → found ≡ Some place
    → IsHere ms node books place
is_here ms all node books step found place can same is h =
    let r = is_at 0 ms node books place can.each (sym (is ∙ ap (λ l. place_from 0 l node) same) ∙ h) in
    let at = r.is in
    let steps : r.steps ≡ place = omega (arith, at) in
    record {
      inside = subst (λ n. n < length books) steps r.inside;
      there = λ d. subst (λ n. book_at ms books node ≡ Some (get_or books n d)) steps (r.there d);
      with = λ new. subst (λ n. with_book_at ms node new books ≡ set books n new) steps (r.with new);
    }

-- a member's place is found
pub is_found : (ms all : List Member) (m : Member) (found : Option ℕ) → member_of ms m.node ≡ Some m
    → all ≡ ms → found ≡ place_from 0 all m.node → IsSome found
is_found ms all m found member same is =
    let r = has_place 0 ms m.node m member in
    subst IsSome (sym (is ∙ ap (λ l. place_from 0 l m.node) same ∙ r.1)) refl

-- what the book at the place did, the member's did
pub here_does : (ms : List Member) (node : ℕ) (books : List Book) (place : ℕ) (b after : Book)
    (Does : Book → Book → Type 0) → IsHere ms node books place → b ≡ get_or books place b → Does b after
    → OneDoes ms node books Does (set books place after)
here_does ms node books place b after Does here is does = record {
  book = b;
  there = here.there b ∙ ap (λ x. Some x) (sym is);
  after = after;
  does = does;
  are = sym (here.with after);
}

-- it can make the step
pub here_ready : (ms : List Member) (node : ℕ) (books : List Book) (step : Step) (place : ℕ) (b : Book)
    → CanStep ms node books step → IsHere ms node books place → b ≡ get_or books place b → IsReady b
here_ready ms node books step place b can here is =
    can.ready b (here.there b ∙ ap (λ x. Some x) (sym is))

-- the step is of the book's log
pub here_of_log : (ms : List Member) (node : ℕ) (books : List Book) (step : Step) (place : ℕ) (b : Book)
    → CanStep ms node books step → IsHere ms node books place → b ≡ get_or books place b
    → IsOfLog b.log_version step
here_of_log ms node books step place b can here is =
    can.of_log b (here.there b ∙ ap (λ x. Some x) (sym is))
