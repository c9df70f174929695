-- The books of all members go on where one of them does.
-- Serves: kept_books_step, look_ups_tell.
use Rattle.std.proofs.Common.{◌≡◌, ℕ, Bool, true, false, cond, ◌==◌, List, [], ◌∷◌, map, Option, Some, Ok}
use Rattle.std.proofs.Common.{inl, inr, refl, sym, ap, subst, ◌∙◌}
use Rattle.std.proofs.lemmas.Option.{same_Some}
use Rattle.std.specs.Prelude.{option_map}
use Rattle.authenticator.specs.Roster.{IsRoster, member_of}
use Rattle.authenticator.specs.declared.member.Member.{Member}
use Rattle.witness_laws.specs.witness_spec.Events.{Event, IsEvent}
use Rattle.witness_laws.specs.witness_spec.Replies.{Reply}
use Rattle.secure_log.specs.LogEntries.Chain.{IsAmong}
use Rattle.witness_laws.specs.witness_spec.Starting.{Beginning, IsBeginning, base_of}
use Rattle.witness_laws.specs.witness_spec.Watched.{Watched, watched, IsInRoster, IsWatchedFrom}
use Rattle.witness_laws.specs.witness_spec.Steps.{Step}
use Rattle.witness_laws.specs.witness_spec.Whose.{whose}
use Rattle.witness_laws.specs.witness_spec.Histories.{StandEach, own_of}
use Rattle.witness_laws.specs.witness_spec.Contract.{book_in, with_book, StepsTo, BookStepsTo}
use Rattle.witness_laws.proofs.OwnSteps.{of_member, same_watched}
use Rattle.witness_laws.proofs.OfBooks.Standing.{found_stands, one_book}
use Rattle.witness_laws.proofs.OfBooks.Runs.{books_after}
use Rattle.witness_book_laws.specs.Books.{Book, book_starting, parts_of}
use Rattle.witness_book_laws.specs.Replying.{BookOwes}
use Rattle.witness_book_laws.specs.Going.{book_after}
use Rattle.witness_book_laws.specs.Fitting.{FitsTogether, IsOfMember, IsBookOf}
use Rattle.witness_book_laws.specs.Laws.{GoesOn}
use Rattle.witness_book_laws.specs.LookUps.{HasOneMark}
use Rattle.witness_book_laws.specs.Together.{book_at, with_book_at, FitEach, AreKept}
use Rattle.witness_book_laws.proofs.Histories.{at_first, exposed_or_not, in_roster, its_member}
use Rattle.witness_book_laws.proofs.LookUps.{one_hash}
use Rattle.witness_book_laws.proofs.AnyBook.{any_goes_on, any_stands}

-- ---- one among them

in_same : (ms : List Member) (books : List Book) (node : ℕ)
    → book_in ms (map parts_of books) node ≡ option_map parts_of (book_at ms books node)
in_same [] books node = refl
in_same (m ∷ ms) [] node = refl
in_same (m ∷ ms) (b ∷ books) node = by (m.node == node) (in_same ms books node)
  where
    by : (x : Bool) → book_in ms (map parts_of books) node ≡ option_map parts_of (book_at ms books node)
        → cond x (Some (parts_of b)) (book_in ms (map parts_of books) node)
        ≡ option_map parts_of (cond x (Some b) (book_at ms books node))
    by true rest = refl
    by false rest = rest

with_same : (ms : List Member) (node : ℕ) (new : Book) (books : List Book)
    → with_book ms node (parts_of new) (map parts_of books) ≡ map parts_of (with_book_at ms node new books)
with_same [] node new books = refl
with_same (m ∷ ms) node new [] = refl
with_same (m ∷ ms) node new (b ∷ books) = by (m.node == node) (with_same ms node new books)
  where
    by : (x : Bool)
        → with_book ms node (parts_of new) (map parts_of books)
        ≡ map parts_of (with_book_at ms node new books)
        → cond x (parts_of new ∷ map parts_of books)
        (parts_of b ∷ with_book ms node (parts_of new) (map parts_of books))
        ≡ map parts_of (cond x (new ∷ books) (b ∷ with_book_at ms node new books))
    by true rest = refl
    by false rest = ap (λ l. parts_of b ∷ l) rest

module _ (g : Beginning) where
  -- the book of a number is that of the member with the number, and fits together
  pub fit_at : (ms : List Member) (books : List Book) (node : ℕ) (n : Member) (b : Book) → FitEach g ms books
      → member_of ms node ≡ Some n → book_at ms books node ≡ Some b
      → IsOfMember (watched g n) b × FitsTogether b
  fit_at [] books node n b fit is h = absurd (cc)
  fit_at (m ∷ ms) [] node n b fit is h = absurd fit
  fit_at (m ∷ ms) (c ∷ books) node n b fit is h =
      by (m.node == node) is h (λ j k. fit_at ms books node n b fit.2 j k)
    where
      by : (x : Bool) → ◌≡◌ {A = Option Member} (cond x (Some m) (member_of ms node)) (Some n)
          → ◌≡◌ {A = Option Book} (cond x (Some c) (book_at ms books node)) (Some b)
          → (member_of ms node ≡ Some n → book_at ms books node ≡ Some b
          → IsOfMember (watched g n) b × FitsTogether b)
          → IsOfMember (watched g n) b × FitsTogether b
      by true j k rest =
          let same : c ≡ b = same_Some _ _ k in (
            subst (λ p. IsOfMember (watched g p) b) (same_Some _ _ j)
                (subst (IsOfMember (watched g m)) same fit.0),
            subst FitsTogether same fit.1,
          )
      by false j k rest = rest j k

  -- with another of that member that fits, all fit
  fit_with : (ms : List Member) (node : ℕ) (n : Member) (new : Book) (books : List Book) → FitEach g ms books
      → member_of ms node ≡ Some n → IsOfMember (watched g n) new → FitsTogether new
      → FitEach g ms (with_book_at ms node new books)
  fit_with [] node n new books fit is same fits = fit
  fit_with (m ∷ ms) node n new [] fit is same fits = absurd fit
  fit_with (m ∷ ms) node n new (b ∷ books) fit is same fits =
      by (m.node == node) is (λ j. fit_with ms node n new books fit.2 j same fits)
    where
      by : (x : Bool) → ◌≡◌ {A = Option Member} (cond x (Some m) (member_of ms node)) (Some n)
          → (member_of ms node ≡ Some n → FitEach g ms (with_book_at ms node new books))
          → FitEach g (m ∷ ms) (cond x (new ∷ books) (b ∷ with_book_at ms node new books))
      by true j rest =
          (subst (λ p. IsOfMember (watched g p) new) (sym (same_Some _ _ j)) same, fits, fit.2)
      by false j rest = (fit.0, fit.1, rest j)

-- what holds of what a beginning gives of each member holds of each node that is watched from it
pub from_watched : (g : Beginning) (P : Watched → Type 0) → ((m : Member) → P (watched g m)) → (w : Watched)
    → IsWatchedFrom g w → P w
from_watched g P each w from = subst P (same_watched g w from) (each w.member)

-- it is watched from the beginning
pub its_beginning : (g : Beginning) (m : Member) → IsWatchedFrom g (watched g m)
its_beginning g m = record { roster = refl; base = refl }

-- ---- all of them

module _ (g : Beginning) (m : Member) (books : List Book) (b : Book) (event : Event) (step : Step)
    (reply : Reply) (roster : IsRoster g.roster) (kept : AreKept g books) (e : IsEvent event)
    (told : whose g.roster event ≡ Ok (record { member = m; step = step }))
    (there : book_at g.roster books m.node ≡ Some b)
    (owes : BookOwes b step reply) where
  -- the member, watched
  abbrev w : Watched
  w = watched g m

  -- it is a member's step
  pub is : IsInRoster w
  is = in_roster g m kept.begins (of_member g.roster event (record { member = m; step = step }) told)

  -- the member's book is of it, and fits together
  pub its : IsOfMember w b × FitsTogether b
  its = fit_at g g.roster books m.node m b kept.fit is.is_member there

  its_parts : book_in g.roster (map parts_of books) m.node ≡ Some (parts_of b)
  its_parts = in_same g.roster books m.node ∙ ap (option_map parts_of) there

  one_steps : BookStepsTo w (parts_of b) step reply (parts_of (book_after b step reply))
  one_steps f history from h stands =
      any_stands f w history b is from h its.1 (record { of_member = its.0; stands = stands }) event step reply
      e told owes

  -- the step is one of all books
  pub all_step : StepsTo g (map parts_of books) event reply
      (map parts_of (with_book_at g.roster m.node (book_after b step reply) books))
  all_step =
      subst (StepsTo g (map parts_of books) event reply)
      (with_same g.roster m.node (book_after b step reply) books)
      (one_book g w (map parts_of books) (parts_of b) (parts_of (book_after b step reply)) event step reply
      roster e (its_beginning g m) told its_parts one_steps)

  -- the member's book is that of its own steps
  pub its_book : IsBookOf w (own_of w kept.are.history) b
  its_book = record {
    of_member = its.0;
    stands = found_stands g w kept.are.history (its_beginning g m) (map parts_of books) (parts_of b) is
        kept.are.stands its_parts;
  }

  goes_on : GoesOn g w kept.are.history event step reply b
  goes_on =
      any_goes_on g w kept.are.history b is (its_beginning g m) kept.are.is its.1 its_book event step reply e
      told owes

  -- and they are kept after it
  pub all_kept : AreKept g (with_book_at g.roster m.node (book_after b step reply) books)
  all_kept = record {
    begins = kept.begins;
    fit =
        fit_with g g.roster m.node m (book_after b step reply) books kept.fit is.is_member
        goes_on.of.of_member goes_on.fits;
    are = books_after g (map parts_of books)
        (map parts_of
        (with_book_at g.roster m.node (book_after b step reply) books)) event reply kept.are all_step;
  }

-- a member's step is one of all books, which are kept after it
pub kept_step : (g : Beginning) (w : Watched) (books : List Book) (b : Book) (event : Event) (step : Step)
    (reply : Reply) → IsRoster w.roster → IsWatchedFrom g w → AreKept g books → IsEvent event
    → whose w.roster event ≡ Ok (record { member = w.member; step = step })
    → book_at w.roster books w.member.node ≡ Some b → BookOwes b step reply
    → StepsTo g (map parts_of books) event reply
    (map parts_of (with_book_at w.roster w.member.node (book_after b step reply) books))
    × AreKept g (with_book_at w.roster w.member.node (book_after b step reply) books)
kept_step g w books b event step reply roster from kept e told there owes =
    from_watched g
    (λ v. IsRoster v.roster → whose v.roster event ≡ Ok (record { member = v.member; step = step })
    → book_at v.roster books v.member.node ≡ Some b
    → StepsTo g (map parts_of books) event reply
    (map parts_of (with_book_at v.roster v.member.node (book_after b step reply) books))
    × AreKept g (with_book_at v.roster v.member.node (book_after b step reply) books))
    (λ m roster told there. (
      all_step g m books b event step reply roster kept e told there owes,
      all_kept g m books b event step reply roster kept e told there owes,
    )) w from roster told there

-- ---- at first

-- the members of a beginning's roster are watched under it
abbrev AreWatched : Beginning → List Member → Type 0
AreWatched g ms = (m : Member) → IsAmong m ms → IsInRoster (watched g m)

fit_first : (g : Beginning) (ms : List Member) → AreWatched g ms
    → FitEach g ms (map (λ m. book_starting m (base_of g m.node)) ms)
fit_first g [] is = tt
fit_first g (m ∷ ms) is = (
  record { node = refl; version = refl; base = refl },
  (at_first (watched g m) (is m (inl refl))).fits,
  fit_first g ms (λ n i. is n (inr i)),
)

stand_first : (g : Beginning) (ms : List Member) → AreWatched g ms
    → StandEach g [] ms (map parts_of (map (λ m. book_starting m (base_of g m.node)) ms))
stand_first g [] is = tt
stand_first g (m ∷ ms) is =
    ((at_first (watched g m) (is m (inl refl))).of.stands, stand_first g ms (λ n i. is n (inr i)))

-- the members of a roster with good bases are watched under it
pub all_watched : (g : Beginning) → IsRoster g.roster → IsBeginning g → AreWatched g g.roster
all_watched g roster begins m i = in_roster g m begins (its_member 0 g.roster m roster.1 i)

-- the books at first are kept
pub first_kept : (g : Beginning) → IsRoster g.roster → IsBeginning g
    → AreKept g (map (λ m. book_starting m (base_of g m.node)) g.roster)
first_kept g roster begins =
    let is = all_watched g roster begins in
    record {
      begins = begins;
      fit = fit_first g g.roster is;
      are = record { history = []; is = tt; stands = stand_first g g.roster is };
    }

-- ---- what they show

its_one_hash : (g : Beginning) (m : Member) (books : List Book) (b : Book) → AreKept g books
    → IsInRoster (watched g m) → book_at g.roster books m.node ≡ Some b → HasOneMark b
its_one_hash g m books b kept is there =
    let history = kept.are.history in
    let w = watched g m in
    let its = fit_at g g.roster books m.node m b kept.fit is.is_member there in
    let parts : book_in g.roster (map parts_of books) m.node ≡ Some (parts_of b) =
    in_same g.roster books m.node ∙ ap (option_map parts_of) there in
    one_hash w (own_of w history) b
    (record {
      of_member = its.0;
      stands = found_stands g w history (its_beginning g m) (map parts_of books) (parts_of b) is
          kept.are.stands parts;
    })
    (exposed_or_not g w history is (its_beginning g m) kept.are.is)

-- a book that is kept shows one mark at each number, where the node isn't exposed
pub kept_one_hash : (g : Beginning) (w : Watched) (books : List Book) (b : Book) → AreKept g books
    → IsInRoster w → IsWatchedFrom g w → book_at w.roster books w.member.node ≡ Some b → HasOneMark b
kept_one_hash g w books b kept is from there =
    from_watched g (λ v. IsInRoster v → book_at v.roster books v.member.node ≡ Some b → HasOneMark b)
    (λ m is there. its_one_hash g m books b kept is there) w from is there
