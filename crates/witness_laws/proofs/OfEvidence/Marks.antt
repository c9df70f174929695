-- The marks of numbered links: where they lie, and that there is one at each number.
-- Serves: evidence_where_exposed, evidence_proves.
use Rattle.std.proofs.Common.{◌≡◌, ℕ, zero, suc, ◌+◌, ◌<◌, ◌≤◌, Bool, true, false, nat_lt, List, [], ◌∷◌}
use Rattle.std.proofs.Common.{◌++◌, inl, inr, length, refl, ap, subst, arith}
use Rattle.std.specs.Prelude.{◌⊎◌}
use Rattle.std.proofs.lemmas.Bool.{ltb-true, ltb-false}
use Rattle.secure_log.specs.LogEntries.Chain.{AreNumbered, IsAmong, Link, Logged, hash_after, last_hash}
use Rattle.secure_log.specs.LogEntries.Chain.{last_number, logged_link, logged_links, marks, no_entry, none_from}
use Rattle.secure_log.specs.LogEntries.Chain.{span}
use Rattle.secure_log.proofs.OfLogEntries.FewerTexts.{left, right, either}
use Rattle.witness_spec.specs.Pairs.{Pair}

-- pairs that are the same have one number
pub number_at : {p q : Pair} → p ≡ q → p.0 ≡ q.0
number_at e = ap (λ (r : Pair). r.0) e

-- ---- numbers that are skipped

-- each of them has a mark
none_has : (first count n : ℕ) → first ≤ n → n < first + count → IsAmong (n, no_entry) (none_from first count)
none_has first zero n low high = absurd (omega (arith, low, high))
none_has first (suc k) n low high =
    by (nat_lt first n) refl (λ more. none_has (first + 1) k n more (omega (arith, high)))
  where
    by : (b : Bool) → nat_lt first n ≡ b → (first + 1 ≤ n → IsAmong (n, no_entry) (none_from (first + 1) k))
        → IsAmong (n, no_entry) (none_from first (suc k))
    by false e rest =
        let same : n ≡ first = omega (arith, low, ltb-false first n e) in
        inl (ap (λ (m : ℕ). (m, no_entry)) same)
    by true e rest = inr (rest (omega (arith, ltb-true first n e)))

-- no other number has one of theirs
none_within : (first count n : ℕ) (x : List ℕ) → IsAmong (n, x) (none_from first count)
    → (first ≤ n) × (n < first + count)
none_within first zero n x i = absurd i
none_within first (suc k) n x (inl e) = (omega (arith, number_at e), omega (arith, number_at e))
none_within first (suc k) n x (inr i) =
    let r = none_within (first + 1) k n x i in (omega (arith, r.0), omega (arith, r.1))

-- ---- marks

-- numbers do not fall
pub rises : (before : ℕ) (links : List Link) → AreNumbered before links → before ≤ last_number before links
rises before [] are = omega arith
rises before (l ∷ links) are = omega (arith, are.0, rises l.number links are.1)

-- marks lie from the number before the links to the last of these
pub mark_within : (before : ℕ) (opening : List ℕ) (links : List Link) (n : ℕ) (x : List ℕ)
    → AreNumbered before links → IsAmong (n, x) (marks before opening links)
    → (before ≤ n) × (n ≤ last_number before links)
mark_within before opening [] n x are (inl e) = (omega (arith, number_at e), omega (arith, number_at e))
mark_within before opening [] n x are (inr i) = absurd i
mark_within before opening (l ∷ links) n x are (inl e) =
    (omega (arith, number_at e), omega (arith, number_at e, are.0, rises l.number links are.1))
mark_within before opening (l ∷ links) n x are (inr i) =
    by (λ j. mark_within l.number (hash_after opening l) links n x are.1 j)
    (either (none_from (before + 1) l.skipped) (marks l.number (hash_after opening l) links) (n, x) i)
  where
    by : (IsAmong (n, x) (marks l.number (hash_after opening l) links)
        → (l.number ≤ n) × (n ≤ last_number l.number links))
        → IsAmong (n, x) (none_from (before + 1) l.skipped)
        ⊎ IsAmong (n, x) (marks l.number (hash_after opening l) links)
        → (before ≤ n) × (n ≤ last_number l.number links)
    by rest (inl j) =
        let r = none_within (before + 1) l.skipped n x j in
        (omega (arith, r.0), omega (arith, r.1, are.0, rises l.number links are.1))
    by rest (inr j) = let r = rest j in (omega (arith, r.0, are.0), r.1)

-- a mark at a number is among these
pub record HasMark (ps : List Pair) (number : ℕ) : Type 0 where
  -- a hash, or that no entry has the number
  pub mark : List ℕ
  -- it is there
  pub there : IsAmong (number, mark) ps

-- each number from the one before the links to the last of these has one
pub has_mark : (before : ℕ) (opening : List ℕ) (links : List Link) (n : ℕ) → AreNumbered before links
    → before ≤ n → n ≤ last_number before links → HasMark (marks before opening links) n
has_mark before opening [] n are low high =
    let same : n ≡ before = omega (arith, low, high) in
    record { mark = opening; there = inl (ap (λ (k : ℕ). (k, opening)) same) }
has_mark before opening (l ∷ links) n are low high =
    by (nat_lt before n) refl (nat_lt n l.number) refl
    (λ more. has_mark l.number (hash_after opening l) links n are.1 more high)
  where
    by : (b : Bool) → nat_lt before n ≡ b → (c : Bool) → nat_lt n l.number ≡ c
        → (l.number ≤ n → HasMark (marks l.number (hash_after opening l) links) n)
        → HasMark (marks before opening (l ∷ links)) n
    by false e c f next =
        let same : n ≡ before = omega (arith, low, ltb-false before n e) in
        record { mark = opening; there = inl (ap (λ (k : ℕ). (k, opening)) same) }
    by true e true f next = record {
      mark = no_entry;
      there = inr (left (none_from (before + 1) l.skipped) (marks l.number (hash_after opening l) links)
          (n, no_entry)
          (none_has (before + 1) l.skipped n (omega (arith, ltb-true before n e))
          (omega (arith, are.0, ltb-true n l.number f))));
    }
    by true e false f next =
        let rest = next (omega (arith, ltb-false n l.number f)) in
        record {
          mark = rest.mark;
          there = inr (right (none_from (before + 1) l.skipped) (marks l.number (hash_after opening l) links)
              (n, rest.mark) rest.there);
        }

-- the hash before the links is the first mark
pub opening_there : (before : ℕ) (opening : List ℕ) (links : List Link)
    → IsAmong (before, opening) (marks before opening links)
opening_there before opening [] = inl refl
opening_there before opening (l ∷ links) = inl refl

-- the hash after them is the last
pub last_there : (before : ℕ) (opening : List ℕ) (links : List Link)
    → IsAmong (last_number before links, last_hash opening links) (marks before opening links)
last_there before opening [] = inl refl
last_there before opening (l ∷ links) =
    inr (right (none_from (before + 1) l.skipped) (marks l.number (hash_after opening l) links)
    (last_number l.number links, last_hash (hash_after opening l) links)
    (last_there l.number (hash_after opening l) links))

-- marks of entries in two parts are those of the first, or of the second after the first's number and hash
abbrev AreEither : (before : ℕ) (opening : List ℕ) (xs ys : List Logged) (q : Pair) → Type 0
AreEither before opening xs ys q =
    IsAmong q (marks before opening (logged_links before xs))
    ⊎ IsAmong q (marks (before + span xs) (last_hash opening (logged_links before xs))
    (logged_links (before + span xs) ys))

-- so they are where an entry more stands before them
either_on : (before : ℕ) (opening : List ℕ) (x : Logged) (xs ys : List Logged) (q : Pair)
    → AreEither (before + 1 + x.skipped) (hash_after opening (logged_link (before + 1 + x.skipped) x)) xs ys q
    → AreEither before opening (x ∷ xs) ys q
either_on before opening x xs ys q (inl i) =
    let n = before + 1 + x.skipped in
    let next = hash_after opening (logged_link n x) in
    inl (inr (right (none_from (before + 1) x.skipped) (marks n next (logged_links n xs)) q i))
either_on before opening x xs ys q (inr i) =
    let n = before + 1 + x.skipped in
    let last = last_hash (hash_after opening (logged_link n x)) (logged_links n xs) in
    let same : n + span xs ≡ before + span (x ∷ xs) = omega arith in
    inr (subst (λ m. IsAmong q (marks m last (logged_links m ys))) same i)

pub marks_either : (before : ℕ) (opening : List ℕ) (xs ys : List Logged) (q : Pair)
    → IsAmong q (marks before opening (logged_links before (xs ++ ys))) → AreEither before opening xs ys q
marks_either before opening [] ys q i =
    let same : before ≡ before + 0 = omega arith in
    inr (subst (λ n. IsAmong q (marks n opening (logged_links n ys))) same i)
marks_either before opening (x ∷ xs) ys q (inl e) = inl (inl e)
marks_either before opening (x ∷ xs) ys q (inr i) =
    let n = before + 1 + x.skipped in
    let next = hash_after opening (logged_link n x) in
    elim (either (none_from (before + 1) x.skipped) (marks n next (logged_links n (xs ++ ys))) q i) [
      | inl j ↦ inl (inr (left (none_from (before + 1) x.skipped) (marks n next (logged_links n xs)) q j))
      | inr j ↦ either_on before opening x xs ys q (marks_either n next xs ys q j)
    ]

-- ---- spans

-- the last of some entries has the number that is as far past the one before as they take up
pub last_spans : (before : ℕ) (ls : List Logged)
    → last_number before (logged_links before ls) ≡ before + span ls
last_spans before [] = omega arith
last_spans before (l ∷ ls) = omega (arith, last_spans (before + 1 + l.skipped) ls)

-- they are no more than the numbers that they take up
pub few_spans : (ls : List Logged) → length ls ≤ span ls
few_spans [] = omega arith
few_spans (l ∷ ls) = omega (arith, few_spans ls)
