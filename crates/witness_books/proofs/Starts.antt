-- What a witness may begin with is tested.
-- Serves: are_apart, are_of_roster, check_start, books_at_first.
use Rattle.std.proofs.Common.{◌≡◌, ◌↔◌, inl, inr, ℕ, zero, suc, ◌+◌, ◌-◌, ◌<◌, ◌≤◌}
use Rattle.std.proofs.Common.{Bool, true, false, ◌||◌, ◌==◌, List, [], ◌∷◌}
use Rattle.std.proofs.Common.{map, take, drop, get_or, length, refl, sym, ap, subst, ◌∙◌, arith}
use Rattle.std.proofs.Common.{Option, Some, None, All}
use Rattle.std.specs.List.{AllByRecursion, IsDistinct, list_any}
use Rattle.std.proofs.lemmas.Bool.{true≢false}
use Rattle.std.proofs.lemmas.List.{drop_more, take_rest}
use Rattle.std.proofs.Math.ListN.{drop_of_length-le}
use Rattle.authenticator.specs.Roster.{IsRoster}
use Rattle.authenticator.specs.declared.member.Member.{Member}
use Rattle.node_book.specs.challenge.KnownBases as bases
use Rattle.secure_log.specs.LogEntries.Chain.{IsAmong}
use Rattle.node_book.specs.Rows.{BaseIsOfLog, known_in}
use Rattle.node_book.proofs.witness_book_laws.Histories.{base_known, its_member}
use Rattle.node_book.specs.witness_spec.Starting.{KnownBase, Beginning, IsBeginning, IsBaseAt, node_of}
use Rattle.node_book.specs.witness_spec.Contract.{starting_books}
use Rattle.node_book.specs.witness_book_laws.Books.{Book, parts_of}
use Rattle.node_book.specs.witness_book_laws.Ready.{AreReady}
use Rattle.node_book.specs.witness_book_laws.ReadyLaws.{StartingBooksAreReady}
use Rattle.witness_books.specs.Books.{KeepsBooks, books_at_first}
use Rattle.witness_books.proofs.Witnessed.{starting_same}
use Rattle.witness_books.specs.Starts.{AreApart, base_at, handed, handed_bases}

-- ---- bases that are apart

-- a number among others differs from each
none_of : (n : ℕ) (bs : List KnownBase) → list_any (λ b. n == node_of b) bs ≡ false
    → AllByRecursion (λ m. (n == m) ≡ false) (map node_of bs)
none_of n [] none = tt
none_of n (b ∷ bs) none = by (n == node_of b) refl none (λ rest. none_of n bs rest)
  where
    by : (x : Bool) → (n == node_of b) ≡ x → (x || list_any (λ c. n == node_of c) bs) ≡ false
        → (list_any (λ c. n == node_of c) bs ≡ false
        → AllByRecursion (λ m. (n == m) ≡ false) (map node_of bs))
        → AllByRecursion (λ m. (n == m) ≡ false) (map node_of (b ∷ bs))
    by true e none rest = absurd (true≢false none)
    by false e none rest = (e, rest none)

-- or is one of them
one_of : (n : ℕ) (bs : List KnownBase) → list_any (λ b. n == node_of b) bs ≡ true
    → ¬ AllByRecursion (λ m. (n == m) ≡ false) (map node_of bs)
one_of n [] one all = true≢false (sym one)
one_of n (b ∷ bs) one all =
    one_of n bs (sym (ap (λ x. x || list_any (λ c. n == node_of c) bs) all.0) ∙ one) all.1

-- a base whose node no other has may be left out
pub apart_after : (b : KnownBase) (bs : List KnownBase) → list_any (λ c. node_of b == node_of c) bs ≡ false
    → AreApart (b ∷ bs) ↔ AreApart bs
unfolding IsDistinct
apart_after b bs none = (λ a. a.1, λ a. (none_of (node_of b) bs none, a))

-- one whose node another has isn't apart
pub not_apart : (b : KnownBase) (bs : List KnownBase) → list_any (λ c. node_of b == node_of c) bs ≡ true
    → ¬ AreApart (b ∷ bs)
unfolding IsDistinct
not_apart b bs one a = one_of (node_of b) bs one a.0

pub none_apart : AreApart []
unfolding IsDistinct
none_apart = tt

module _ {C : Type 0} (K : C → KnownBase) (all : List C) (place : ℕ) (c : C) (n : ℕ)
    (inside : place < length all) (is : c ≡ get_or all place c) (named : n ≡ node_of (K c)) where
  -- the bases after a place
  abbrev later : List C
  later = take (length all - (place + 1)) (drop (place + 1) all)

  next : map K (drop place all) ≡ K c ∷ map K (drop (place + 1) all)
  next =
      ap (map K) (drop_more all place c inside) ∙ ap (λ x. K x ∷ map K (drop (place + 1) all)) (sym is)

  same : list_any (λ b. n == node_of b) (map K later)
      ≡ list_any (λ b. node_of (K c) == node_of b) (map K (drop (place + 1) all))
  same =
      ap (λ m. list_any (λ b. m == node_of b) (map K later)) named
      ∙ ap (λ xs. list_any (λ b. node_of (K c) == node_of b) (map K xs)) (take_rest all (place + 1))

  -- the bases from a place on are apart where those after it are
  pub apart_next : (found : Bool) → found ≡ list_any (λ b. n == node_of b) (map K later) → found ≡ false
      → AreApart (map K all) ↔ AreApart (map K (drop place all))
      → AreApart (map K all) ↔ AreApart (map K (drop (place + 1) all))
  apart_next found of none was =
      let after = apart_after (K c) (map K (drop (place + 1) all)) (sym same ∙ (sym of ∙ none)) in
      (λ a. after.0 (subst AreApart next (was.0 a)), λ a. was.1 (subst AreApart (sym next) (after.1 a)))

  -- they aren't where one after it is of the same node
  pub same_node : (found : Bool) → found ≡ list_any (λ b. n == node_of b) (map K later) → found ≡ true
      → AreApart (map K all) ↔ AreApart (map K (drop place all)) → ¬ AreApart (map K all)
  same_node found of one was a =
      not_apart (K c) (map K (drop (place + 1) all)) (sym same ∙ (sym of ∙ one))
      (subst AreApart next (was.0 a))

-- after the last none are left
pub all_apart : {C : Type 0} (K : C → KnownBase) (all : List C) (place : ℕ) → length all ≤ place
    → AreApart (map K (drop place all))
all_apart K all place past =
    subst AreApart (sym (ap (map K) (drop_of_length-le all past))) none_apart

-- ---- bases of a roster

-- what holds of all holds of each
pub holds_at : {A C : Type 0} (P : A → Type 0) (f : C → A) (xs : List C) (i : ℕ) (x : C) → i < length xs
    → x ≡ get_or xs i x → AllByRecursion P (map f xs) → P (f x)
holds_at P f [] i x inside is all = let no : ⊥ = omega (arith, inside) in absurd no
holds_at P f (y ∷ xs) zero x inside is all = subst (λ z. P (f z)) (sym is) all.0
holds_at P f (y ∷ xs) (suc i) x inside is all = holds_at P f xs i x (omega (arith, inside)) is all.1

-- the bases that are handed in, alone
pub bases_alone : {C : Type 0} (value : C → bases.KnownBase) (member : C → Member) (cs : List C)
    → handed_bases (map (λ c. handed (value c) (member c)) cs) ≡ map (λ c. known_in (value c)) cs
bases_alone value member [] = refl
bases_alone value member (c ∷ cs) = ap (λ bs. known_in (value c) ∷ bs) (bases_alone value member cs)

-- ---- books at first

among_at : {A : Type 0} (xs : List A) (k : ℕ) (d : A) → k < length xs → IsAmong (get_or xs k d) xs
among_at [] k d inside = let no : ⊥ = omega (arith, inside) in absurd no
among_at (x ∷ xs) zero d inside = inl refl
among_at (x ∷ xs) (suc k) d inside = inr (among_at xs k d (omega (arith, inside)))

of_log : (ms : List Member) (m : Member) (base : Option KnownBase) → IsBaseAt ms m base
    → BaseIsOfLog base m.log_version
of_log ms m None is = tt
of_log ms m (Some b) is = is.good.of_member.log_version

-- the base of a member is of its log
pub logs_of : (g : Beginning) (members : List Member) → IsRoster g.roster → IsBeginning g → members ≡ g.roster
    → All (λ m. BaseIsOfLog (base_at g.bases m.node) m.log_version) members
logs_of g members roster begins same =
    subst (λ ms. All (λ m. BaseIsOfLog (base_at g.bases m.node) m.log_version) ms) (sym same)
    (λ k d inside.
    let m = get_or g.roster k d in
    let member = its_member 0 g.roster m roster.1 (among_at g.roster k d inside) in
    of_log g.roster m (base_at g.bases m.node) (base_known g m begins member))

-- without bases it is a beginning
pub none_begin : (ms : List Member) (bs : List KnownBase) → bs ≡ []
    → IsBeginning (record { roster = ms; bases = bs })
unfolding IsDistinct
none_begin ms bs none =
    subst (λ (l : List KnownBase). IsBeginning (record { roster = ms; bases = l })) (sym none)
    (record { known = tt; apart = tt })

-- what the type of books keeps holds at first
pub keeps_first : StartingBooksAreReady → (g : Beginning) (books : List Book)
    → IsRoster g.roster → IsBeginning g → books ≡ books_at_first g
    → KeepsBooks (record { roster = g.roster; bases = g.bases; books = books })
keeps_first law g books roster begins are = record {
  roster = roster;
  ready = subst (AreReady g) (sym are) (law g roster begins);
}

-- so does what the contract of books says
pub first_parts : (g : Beginning) (books : List Book) → books ≡ books_at_first g
    → map parts_of books ≡ starting_books g
first_parts g books are = ap (map parts_of) are ∙ starting_same g
