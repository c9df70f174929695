-- Segments that follow on one another: how many end before a number, and the one that holds it.
-- Serves: count_ended, segment_holding.
use Rattle.std.proofs.Common.{◌≡◌, ℕ, zero, suc, ◌+◌, ◌<◌, ◌≤◌, Bool, true, false, cond, nat_lt}
use Rattle.std.proofs.Common.{nat_le, ◌&&◌, List, [], ◌∷◌, length, get_or, Some, None, refl}
use Rattle.std.proofs.Common.{ap, sym, subst, ◌∙◌, arith}
use Rattle.std.proofs.lemmas.Bool.{and_from, le-leb, leb-true, ltb-true, ltb-false}
use Rattle.std.proofs.lemmas.Bool.Decides.{nat_tests}
use Rattle.secure_log.specs.Versioned.{ClosedParts}
use Rattle.secure_log.proofs.PartitionPoints.{PassInFront}
use Rattle.witness_spec.specs.Exposing.{segment_holding}
use Rattle.witness_spec.specs.Pairs.{first_of, last_of}
use Rattle.witness_book_laws.specs.Fitting.{Tile}
use Rattle.node_book.specs.Looking.{count_ended}
use Rattle.node_book.specs.Rows.{segments_in}

-- none ends before they begin
pub ends_after : (first : ℕ) (cs : List ClosedParts) (next : ℕ) (k : ℕ) (d : ClosedParts)
    → Tile first (segments_in cs) next → k < length cs → first ≤ last_of (get_or cs k d).segment
ends_after first [] next k d t h = absurd (omega arith)
ends_after first (c ∷ cs) next zero d t h = t.1
ends_after first (c ∷ cs) next (suc k) d t h =
    let rest : last_of c.segment + 1 ≤ last_of (get_or cs k d).segment =
    ends_after (last_of c.segment + 1) cs next k d t.2 (omega arith) in
    omega (arith, t.1)

-- one ends before a number exactly where its index is below how many do
pub at_count : (first n : ℕ) (cs : List ClosedParts) (next : ℕ) (k : ℕ) (d : ClosedParts)
    → Tile first (segments_in cs) next → k < length cs
    → nat_lt (last_of (get_or cs k d).segment) n ≡ nat_lt k (count_ended n (segments_in cs))
at_count first n [] next k d t h = absurd (omega arith)
at_count first n (c ∷ cs) next k d t h =
    by (nat_lt (last_of c.segment) n) refl k h
    (λ j lt. at_count (last_of c.segment + 1) n cs next j d t.2 lt)
  where
    by : (b : Bool) → nat_lt (last_of c.segment) n ≡ b → (j : ℕ) → j < length (c ∷ cs)
        → ((i : ℕ) → i < length cs
        → nat_lt (last_of (get_or cs i d).segment) n ≡ nat_lt i (count_ended n (segments_in cs)))
        → nat_lt (last_of (get_or (c ∷ cs) j d).segment) n
        ≡ nat_lt j (cond b (count_ended n (segments_in cs) + 1) 0)
    by true e zero h behind = grind (arith, nat_tests)
    by true e (suc j) h behind =
        let rest : nat_lt (last_of (get_or cs j d).segment) n
        ≡ nat_lt j (count_ended n (segments_in cs)) = behind j (omega arith) in
        rest ∙ grind (arith, nat_tests)
    by false e zero h behind = grind (arith, nat_tests)
    by false e (suc j) h behind =
        let above : n ≤ last_of c.segment = ltb-false _ _ e in
        let there : last_of c.segment + 1 ≤ last_of (get_or cs j d).segment =
        ends_after (last_of c.segment + 1) cs next j d t.2 (omega arith) in
        grind (arith, nat_tests)

-- at most all do
pub count_within : (n : ℕ) (cs : List ClosedParts) → count_ended n (segments_in cs) ≤ length cs
count_within n [] = omega arith
count_within n (c ∷ cs) =
    let rest = count_within n cs in
    elim (nat_lt (last_of c.segment) n)
    as (λ b. cond b (count_ended n (segments_in cs) + 1) 0 ≤ length (c ∷ cs)) [
      | true ↦ omega arith
      | false ↦ omega arith
    ]

-- so many pass in front, and none after them
pub pass_in_front : (first n : ℕ) (cs : List ClosedParts) (next : ℕ) → Tile first (segments_in cs) next
    → PassInFront (λ (c : ClosedParts). nat_lt (last_of c.segment) n) cs (count_ended n (segments_in cs))
pass_in_front first n cs next t = (count_within n cs, λ k d there. at_count first n cs next k d t there)

-- a segment that ends before a number doesn't hold it
ended : (from to n : ℕ) → to < n → (nat_le from n && nat_le n to) ≡ false
ended from to n h = by (nat_le from n) (nat_le n to) refl
  where
    by : (a b : Bool) → nat_le n to ≡ b → (a && b) ≡ false
    by true true e = absurd (omega (arith, h, leb-true n to e))
    by true false e = refl
    by false b e = refl

-- so it is found among the others
found_behind : (n : ℕ) (c : ClosedParts) (cs : List ClosedParts) → nat_lt (last_of c.segment) n ≡ true
    → segment_holding n (segments_in (c ∷ cs)) ≡ segment_holding n (segments_in cs)
found_behind n c cs e =
    ap (λ b. cond b (Some c.segment) (segment_holding n (segments_in cs)))
    (ended c.segment.first (last_of c.segment) n (ltb-true (last_of c.segment) n e))

-- the first of those that are left holds the number, if it begins by it
pub holds_at : (n : ℕ) (cs : List ClosedParts) (d : ClosedParts) → count_ended n (segments_in cs) < length cs
    → first_of (get_or cs (count_ended n (segments_in cs)) d).segment ≤ n
    → segment_holding n (segments_in cs) ≡ Some (get_or cs (count_ended n (segments_in cs)) d).segment
holds_at n [] d h low = absurd (omega arith)
holds_at n (c ∷ cs) d h low =
    by (nat_lt (last_of c.segment) n) refl h low (λ lt more. holds_at n cs d lt more)
  where
    by : (b : Bool) → nat_lt (last_of c.segment) n ≡ b
        → cond b (count_ended n (segments_in cs) + 1) 0 < length (c ∷ cs)
        → first_of (get_or (c ∷ cs) (cond b (count_ended n (segments_in cs) + 1) 0) d).segment ≤ n
        → (count_ended n (segments_in cs) < length cs
        → first_of (get_or cs (count_ended n (segments_in cs)) d).segment ≤ n
        → segment_holding n (segments_in cs) ≡ Some (get_or cs (count_ended n (segments_in cs)) d).segment)
        → segment_holding n (segments_in (c ∷ cs))
        ≡ Some (get_or (c ∷ cs) (cond b (count_ended n (segments_in cs) + 1) 0) d).segment
    by true e h from rest =
        let one : count_ended n (segments_in cs) + 1 ≡ suc (count_ended n (segments_in cs)) = omega arith in
        let first : first_of (get_or cs (count_ended n (segments_in cs)) d).segment ≤ n =
        subst (λ k. first_of (get_or (c ∷ cs) k d).segment ≤ n) one from in
        found_behind n c cs e ∙ rest (omega arith) first
        ∙ ap (λ k. Some (get_or (c ∷ cs) k d).segment) (sym one)
    by false e h from rest =
        let to : n ≤ last_of c.segment = ltb-false _ _ e in
        ap (λ b. cond b (Some c.segment) (segment_holding n (segments_in cs)))
        (and_from (nat_le c.segment.first n) (nat_le n (last_of c.segment))
        (le-leb c.segment.first n from) (le-leb n (last_of c.segment) to))

-- one that begins after a number doesn't hold it
later : (from to n : ℕ) → n < from → (nat_le from n && nat_le n to) ≡ false
later from to n h = by (nat_le from n) refl
  where
    by : (a : Bool) → nat_le from n ≡ a → (nat_le from n && nat_le n to) ≡ false
    by true e = absurd (omega (arith, h, leb-true from n e))
    by false e = ap (λ b. b && nat_le n to) e

-- where segments that follow on one another begin after a number, none holds it
pub none_later : (first n : ℕ) (cs : List ClosedParts) (next : ℕ) → Tile first (segments_in cs) next → n < first
    → segment_holding n (segments_in cs) ≡ None
none_later first n [] next t h = refl
none_later first n (c ∷ cs) next t h =
    ap (λ b. cond b (Some c.segment) (segment_holding n (segments_in cs)))
    (later c.segment.first (last_of c.segment) n (omega (arith, t.0, h)))
    ∙ none_later (last_of c.segment + 1) n cs next t.2 (omega (arith, t.1, h))

-- and so none does where the first of those that are left begins after it
pub holds_later : (first n : ℕ) (cs : List ClosedParts) (next : ℕ) (d : ClosedParts)
    → Tile first (segments_in cs) next → count_ended n (segments_in cs) < length cs
    → n < first_of (get_or cs (count_ended n (segments_in cs)) d).segment
    → segment_holding n (segments_in cs) ≡ None
holds_later first n [] next d t h from = absurd (omega arith)
holds_later first n (c ∷ cs) next d t h from =
    by (nat_lt (last_of c.segment) n) refl h from
    (λ lt more. holds_later (last_of c.segment + 1) n cs next d t.2 lt more)
  where
    by : (b : Bool) → nat_lt (last_of c.segment) n ≡ b
        → cond b (count_ended n (segments_in cs) + 1) 0 < length (c ∷ cs)
        → n < first_of (get_or (c ∷ cs) (cond b (count_ended n (segments_in cs) + 1) 0) d).segment
        → (count_ended n (segments_in cs) < length cs
        → n < first_of (get_or cs (count_ended n (segments_in cs)) d).segment
        → segment_holding n (segments_in cs) ≡ None)
        → segment_holding n (segments_in (c ∷ cs)) ≡ None
    by true e h from rest =
        let one : count_ended n (segments_in cs) + 1 ≡ suc (count_ended n (segments_in cs)) = omega arith in
        let first : n < first_of (get_or cs (count_ended n (segments_in cs)) d).segment =
        subst (λ k. n < first_of (get_or (c ∷ cs) k d).segment) one from in
        found_behind n c cs e ∙ rest (omega arith) first
    by false e h from rest = none_later first n (c ∷ cs) next t (omega (arith, t.0, from))

-- where there is none after them, none holds it
pub holds_none : (n : ℕ) (cs : List ClosedParts) → length cs ≤ count_ended n (segments_in cs)
    → segment_holding n (segments_in cs) ≡ None
holds_none n [] h = refl
holds_none n (c ∷ cs) h =
    by (nat_lt (last_of c.segment) n) refl h (λ more. holds_none n cs more)
  where
    by : (b : Bool) → nat_lt (last_of c.segment) n ≡ b
        → length (c ∷ cs) ≤ cond b (count_ended n (segments_in cs) + 1) 0
        → (length cs ≤ count_ended n (segments_in cs) → segment_holding n (segments_in cs) ≡ None)
        → segment_holding n (segments_in (c ∷ cs)) ≡ None
    by true e h rest = found_behind n c cs e ∙ rest (omega arith)
    by false e h rest = absurd (omega arith)
