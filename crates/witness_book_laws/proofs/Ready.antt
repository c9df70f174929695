-- Books that can make their steps can make them again after each.
-- Serves: books_are_ready.
use Rattle.std.proofs.Common.{◌≡◌, ℕ, Bool, true, false, cond, ◌==◌, List, [], ◌∷◌, map, Option, Some, Ok}
use Rattle.std.proofs.Common.{inl, inr, refl, subst}
use Rattle.std.proofs.lemmas.Option.{same_Some}
use Rattle.std.specs.List.{AllByRecursion}
use Rattle.authenticator.specs.Roster.{IsRoster}
use Rattle.authenticator.specs.declared.member.Member.{Member}
use Rattle.witness_laws.specs.witness_spec.Events.{Event, IsEvent}
use Rattle.witness_laws.specs.witness_spec.Replies.{Reply}
use Rattle.secure_log.specs.LogEntries.Chain.{IsAmong}
use Rattle.witness_laws.specs.witness_spec.Contract.{StepsTo}
use Rattle.witness_laws.specs.witness_spec.Starting.{Beginning, IsBeginning, base_of, from_the_first}
use Rattle.witness_laws.specs.witness_spec.Watched.{Watched, watched, IsInRoster, IsWatchedFrom}
use Rattle.witness_laws.specs.witness_spec.Steps.{Step, Answer}
use Rattle.witness_laws.specs.witness_spec.Whose.{whose}
use Rattle.witness_book_laws.specs.Books.{Book, book_starting, parts_of}
use Rattle.witness_book_laws.specs.Replying.{BookOwes}
use Rattle.witness_book_laws.specs.Going.{book_after}
use Rattle.witness_book_laws.specs.Fitting.{IsOfMember}
use Rattle.witness_book_laws.specs.Keeping.{KeepsLimits}
use Rattle.witness_book_laws.specs.Together.{book_at, with_book_at}
use Rattle.witness_book_laws.specs.Ready.{KnowsFew, IsReady, AreReady, IsOfLog}
use Rattle.witness_laws.proofs.Checked.{IsCheckedStep, checked_event}
use Rattle.witness_laws.proofs.OwnSteps.{of_member}
use Rattle.witness_book_laws.proofs.Accepted.{given_version}
use Rattle.witness_book_laws.proofs.Histories.{done_event}
use Rattle.witness_book_laws.proofs.AllBooks.{fit_at, from_watched, its_beginning, is, its, its_book}
use Rattle.witness_book_laws.proofs.AllBooks.{all_step, all_kept}
use Rattle.witness_book_laws.proofs.AllBooks.{all_watched, first_kept, kept_one_hash}
use Rattle.witness_book_laws.proofs.Limits.{first_limits, any_limits}
use Rattle.witness_book_laws.proofs.Few.{few_on, few_first}

-- ---- what holds of each

module _ (P : Book → Type 0) where
  -- it holds of the one that is found
  all_at : (ms : List Member) (books : List Book) (node : ℕ) (b : Book) → AllByRecursion P books
      → book_at ms books node ≡ Some b → P b
  all_at [] books node b all h = absurd (cc)
  all_at (m ∷ ms) [] node b all h = absurd (cc)
  all_at (m ∷ ms) (c ∷ books) node b all h = by (m.node == node) h (λ k. all_at ms books node b all.1 k)
    where
      by : (x : Bool) → ◌≡◌ {A = Option Book} (cond x (Some c) (book_at ms books node)) (Some b)
          → (book_at ms books node ≡ Some b → P b) → P b
      by true k rest = subst P (same_Some _ _ k) all.0
      by false k rest = rest k

  -- it holds of each where it holds of the new one
  all_with : (ms : List Member) (node : ℕ) (new : Book) (books : List Book) → AllByRecursion P books → P new
      → AllByRecursion P (with_book_at ms node new books)
  all_with [] node new books all one = all
  all_with (m ∷ ms) node new [] all one = tt
  all_with (m ∷ ms) node new (b ∷ books) all one =
      by (m.node == node) (all_with ms node new books all.1 one)
    where
      by : (x : Bool) → AllByRecursion P (with_book_at ms node new books)
          → AllByRecursion P (cond x (new ∷ books) (b ∷ with_book_at ms node new books))
      by true rest = (one, all.1)
      by false rest = (all.0, rest)

  -- it holds of what is made of each
  all_made : (f : Member → Book) (ms : List Member) → ((m : Member) → IsAmong m ms → P (f m))
      → AllByRecursion P (map f ms)
  all_made f [] h = tt
  all_made f (m ∷ ms) h = (h m (inl refl), all_made f ms (λ n i. h n (inr i)))

-- ---- all books

-- the books at first can make their steps
pub first_ready : (g : Beginning) → IsRoster g.roster → IsBeginning g
    → AreReady g (map (λ m. book_starting m (base_of g m.node)) g.roster)
first_ready g roster begins =
    let is = all_watched g roster begins in
    let at = λ (m : Member). book_starting m (base_of g m.node) in
    record {
      kept = first_kept g roster begins;
      limits = all_made KeepsLimits at g.roster (λ m i. first_limits m (base_of g m.node));
      few = all_made KnowsFew at g.roster (λ m i. few_first (watched g m) (is m i));
    }

ready_on : (g : Beginning) (m : Member) (books : List Book) (b : Book) (event : Event) (step : Step)
    (reply : Reply) → IsRoster g.roster → AreReady g books → IsEvent event
    → whose g.roster event ≡ Ok (record { member = m; step = step })
    → book_at g.roster books m.node ≡ Some b
    → BookOwes b step reply
    → AreReady g (with_book_at g.roster m.node (book_after b step reply) books)
ready_on g m books b event step reply roster ready e told there owes =
    let fits = (its g m books b event step reply roster ready.kept e told there owes).1 in
    let limits = all_at KeepsLimits g.roster books m.node b ready.limits there in
    let few = all_at KnowsFew g.roster books m.node b ready.few there in
    let done = done_event (record { member = m; step = step }) g.roster event told e in
    record {
      kept = all_kept g m books b event step reply roster ready.kept e told there owes;
      limits = all_with KeepsLimits g.roster m.node (book_after b step reply) books ready.limits
          (any_limits g (watched g m) ready.kept.are.history b event step reply
          (is g m books b event step reply roster ready.kept e told there owes) (its_beginning g m)
          ready.kept.are.is fits (its_book g m books b event step reply roster ready.kept e told there owes)
          limits e told owes);
      few = all_with KnowsFew g.roster m.node (book_after b step reply) books ready.few
          (few_on b few step reply fits owes done);
    }

-- a member's step is one of all books, which can make their steps after it
pub ready_step : (g : Beginning) (w : Watched) (books : List Book) (b : Book) (event : Event) (step : Step)
    (reply : Reply) → IsRoster w.roster → IsWatchedFrom g w → AreReady g books → IsEvent event
    → whose w.roster event ≡ Ok (record { member = w.member; step = step })
    → book_at w.roster books w.member.node ≡ Some b → BookOwes b step reply
    → StepsTo g (map parts_of books) event reply
    (map parts_of (with_book_at w.roster w.member.node (book_after b step reply) books))
    × AreReady g (with_book_at w.roster w.member.node (book_after b step reply) books)
ready_step g w books b event step reply roster from ready e told there owes =
    from_watched g
    (λ v. IsRoster v.roster → whose v.roster event ≡ Ok (record { member = v.member; step = step })
    → book_at v.roster books v.member.node ≡ Some b
    → StepsTo g (map parts_of books) event reply
    (map parts_of (with_book_at v.roster v.member.node (book_after b step reply) books))
    × AreReady g (with_book_at v.roster v.member.node (book_after b step reply) books))
    (λ m roster told there. (
      all_step g m books b event step reply roster ready.kept e told there owes,
      ready_on g m books b event step reply roster ready e told there owes,
    )) w from roster told there

its_ready : (g : Beginning) (m : Member) (books : List Book) (b : Book) → AreReady g books
    → IsInRoster (watched g m) → book_at g.roster books m.node ≡ Some b
    → IsReady b × IsOfMember (watched g m) b
its_ready g m books b ready is there =
    let its = fit_at g g.roster books m.node m b ready.kept.fit is.is_member there in (
      record {
        fits = its.1;
        one = kept_one_hash g (watched g m) books b ready.kept is (its_beginning g m) there;
        limits = all_at KeepsLimits g.roster books m.node b ready.limits there;
        few = all_at KnowsFew g.roster books m.node b ready.few there;
      },
      its.0,
    )

-- the book of each member is the member's, and can make a step
pub ready_at : (g : Beginning) (w : Watched) (books : List Book) (b : Book) → AreReady g books
    → IsInRoster w → IsWatchedFrom g w → book_at w.roster books w.member.node ≡ Some b
    → IsReady b × IsOfMember w b
ready_at g w books b ready is from there =
    from_watched g
    (λ v. IsInRoster v → book_at v.roster books v.member.node ≡ Some b → IsReady b × IsOfMember v b)
    (λ m is there. its_ready g m books b ready is there) w from is there

-- a step gives a segment of a log of the member's version
pub of_log : (w : Watched) (event : Event) (step : Step) → IsEvent event
    → whose w.roster event ≡ Ok (record { member = w.member; step = step })
    → IsOfLog w.member.log_version step
of_log w event step e told =
    by step (checked_event (from_the_first w.roster) (record { member = w.member; step = step }) event told e)
  where
    by : (step : Step) → IsCheckedStep (watched (from_the_first w.roster) w.member) step
        → IsOfLog w.member.log_version step
    by (Answer c) given =
        given_version (watched (from_the_first w.roster) w.member) c
        (record {
          is_member = of_member w.roster event (record { member = w.member; step = step }) told;
          base = tt;
        }) given
    by other h = tt
