-- The greatest number that an audit can reach, where one more authenticator is looked at.
-- Serves: audits.
use Rattle.std.proofs.Common.{◌≡◌, ℕ, ◌+◌, Bool, true, false, cond, max, nat_le, List, [], ◌∷◌, ◌++◌, fold}
use Rattle.std.proofs.Common.{map, inl, inr, ◌<◌, ◌⊎◌, nat_lt}
use Rattle.std.specs.List.{AllByRecursion}
use Rattle.std.proofs.lemmas.Bool.Decides.{nat_tests}
use Rattle.secure_log.specs.LogEntries.Chain.{IsAmong}
use Rattle.std.proofs.Common.{◌-◌, filter, refl, ap, ◌∙◌, sym, arith}
use Rattle.std.proofs.lemmas.Bool.{le-leb, leb-true, leb-false, lt-leb}
use Rattle.std.proofs.lemmas.List.{map-append}
use Rattle.std.proofs.lemmas.List.Elements.{filter-append}
use Rattle.std.proofs.lemmas.List.Sums.{fold-append}
use Rattle.authenticator.specs.declared.authenticator.Authenticator.{Authenticator}
use Rattle.authenticator.specs.declared.member.LogVersion.{LogVersion}
use Rattle.witness_spec.specs.Limits.{MAX_ASKED}
use Rattle.witness_spec.specs.Owing.{last_in_reach}
use Rattle.witness_spec.specs.Pairs.{number_of}

-- one number more, after those that were looked at
one_more : (most greatest n : ℕ) (b : Bool) → nat_le n most ≡ b
    → fold max greatest (filter (λ k. nat_le k most) (n ∷ [])) ≡ cond b (max greatest n) greatest
one_more most greatest n true e = ap (λ b. fold max greatest (cond b (n ∷ []) [])) e
one_more most greatest n false e = ap (λ b. fold max greatest (cond b (n ∷ []) [])) e

-- a number is in reach exactly if it lies no further past the end
in_reach : (end n : ℕ) (b : Bool) → nat_le n (end + MAX_ASKED) ≡ b → nat_le (n - end) MAX_ASKED ≡ b
in_reach end n true e = le-leb (n - end) MAX_ASKED (omega (arith, leb-true n (end + MAX_ASKED) e))
in_reach end n false e = lt-leb (n - end) MAX_ASKED (omega (arith, leb-false n (end + MAX_ASKED) e))

-- with one authenticator more it is that one's number, where this is in reach and greater
pub reach_more : (v : LogVersion) (end : ℕ) (xs : List Authenticator) (a : Authenticator)
    → last_in_reach v end (xs ++ a ∷ [])
    ≡ cond (nat_le (number_of v a - end) MAX_ASKED) (max (last_in_reach v end xs) (number_of v a))
    (last_in_reach v end xs)
reach_more v end xs a =
    let number = number_of v a in
    let most = end + MAX_ASKED in
    let kept = λ (ns : List ℕ). filter (λ k. nat_le k most) ns in
    ap (λ (ns : List ℕ). fold max 0 (kept ns)) (map-append (number_of v) xs (a ∷ []))
    ∙ (ap (λ (ns : List ℕ). fold max 0 ns)
    (filter-append (λ k. nat_le k most) (map (number_of v) xs) (number ∷ []))
    ∙ (fold-append max 0 (kept (map (number_of v) xs)) (kept (number ∷ []))
    ∙ (one_more most (last_in_reach v end xs) number (nat_le number most) refl
    ∙ ap (λ b. cond b (max (last_in_reach v end xs) number) (last_in_reach v end xs))
    (sym (in_reach end number (nat_le number most) refl)))))

-- the greatest of numbers that lie above another lies above it
max_above : (end acc : ℕ) (ns : List ℕ) → (acc ≡ 0) ⊎ (end < acc) → AllByRecursion (λ n. end < n) ns
    → (fold max acc ns ≡ 0) ⊎ (end < fold max acc ns)
max_above end acc [] known above = known
max_above end acc (n ∷ ns) known above = max_above end (max acc n) ns (inr (omega (arith, above.0))) above.1

-- what passes a test was there
kept_above : (end most : ℕ) (ns : List ℕ) → AllByRecursion (λ n. end < n) ns
    → AllByRecursion (λ n. end < n) (filter (λ n. nat_le n most) ns)
kept_above end most [] above = tt
kept_above end most (n ∷ ns) above = by (nat_le n most) (kept_above end most ns above.1)
  where
    by : (b : Bool) → AllByRecursion (λ k. end < k) (filter (λ k. nat_le k most) ns)
        → AllByRecursion (λ k. end < k) (cond b (n ∷ filter (λ k. nat_le k most) ns) (filter (λ k. nat_le k most) ns))
    by true rest = (above.0, rest)
    by false rest = rest

numbers_above : (v : LogVersion) (end : ℕ) (xs : List Authenticator)
    → ((a : Authenticator) → IsAmong a xs → end < number_of v a)
    → AllByRecursion (λ n. end < n) (map (λ a. number_of v a) xs)
numbers_above v end [] above = tt
numbers_above v end (x ∷ xs) above = (above x (inl refl), numbers_above v end xs (λ a i. above a (inr i)))

-- where all that is kept lies above the end, so does what an audit can reach
pub above_end : (v : LogVersion) (end : ℕ) (xs : List Authenticator)
    → ((a : Authenticator) → IsAmong a xs → end < number_of v a)
    → (last_in_reach v end xs ≡ 0) ⊎ (end < last_in_reach v end xs)
above_end v end xs above =
    max_above end 0 (filter (λ n. nat_le n (end + MAX_ASKED)) (map (λ a. number_of v a) xs)) (inl refl)
    (kept_above end (end + MAX_ASKED) (map (λ a. number_of v a) xs) (numbers_above v end xs above))

-- a number lies so far above a start exactly where their difference is so great
pub book_full : (start most last : ℕ) → nat_lt (start + most) last ≡ nat_lt most (last - start)
book_full start most last = grind (arith, nat_tests)
