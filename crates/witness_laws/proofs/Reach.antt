-- An audit asks for numbers after the end, in order, and at most as many as may be asked for.
-- Serves: Doing here; what_is_asked_can_be_answered (witness_node_laws).
use Rattle.std.proofs.Common.{◌≡◌, ◌⊎◌, inl, inr, ℕ, ◌+◌, ◌<◌, ◌≤◌, Bool, true, false, cond, ◌==◌, nat_le}
use Rattle.std.proofs.Common.{nat_lt, max, List, [], ◌∷◌, map, filter, refl, sym, ap, subst, ◌∙◌, arith}
use Rattle.std.specs.List.{AllByRecursion, fold}
use Rattle.std.proofs.Math.Nat.{le-max_left, le-max_right, max-le}
use Rattle.std.proofs.lemmas.Bool.{leb-true, leb-false, ltb-true, true≢false}
use Rattle.secure_log.specs.LogEntries.Chain.{IsAmong}
use Rattle.authenticator.specs.declared.authenticator.Authenticator.{Authenticator}
use Rattle.authenticator.specs.declared.member.LogVersion.{LogVersion}
use Rattle.witness_spec.specs.Watched.{Watched}
use Rattle.witness_spec.specs.Limits.{MAX_ASKED}
use Rattle.witness_spec.specs.Steps.{Past}
use Rattle.witness_spec.specs.Pairs.{number_of}
use Rattle.witness_spec.specs.Standing.{end_of, kept, noted_before}
use Rattle.witness_spec.specs.Owing.{last_in_reach}

-- numbers in order, at most as many as one audit may ask for
pub record IsInReach (first last : ℕ) : Type 0 where
  -- they are in order
  pub order : first ≤ last
  -- they are at most `MAX_ASKED`
  pub few : last < first + MAX_ASKED

-- a number is that of an authenticator among these, in a log of a version
pub record IsNumberOf (v : LogVersion) (learned : List Authenticator) (number : ℕ) : Type 0 where
  -- the authenticator
  pub authenticator : Authenticator
  -- it is among these
  pub among : IsAmong authenticator learned
  -- it has the number
  pub is : number_of v authenticator ≡ number

-- none, or a number of these after an end that an audit can reach
abbrev Reached : LogVersion → (all : List Authenticator) (end n : ℕ) → Type 0
Reached v all end n = (n ≡ 0) ⊎ ((end < n) × (n ≤ end + MAX_ASKED) × IsNumberOf v all n)

-- the greater of two numbers is one of them
pub greater : (a b : ℕ) → (max a b ≡ a) ⊎ (max a b ≡ b)
greater a b = by (nat_le a b) refl
  where
    by : (c : Bool) → nat_le a b ≡ c → (max a b ≡ a) ⊎ (max a b ≡ b)
    by true e =
        let le : a ≤ b = leb-true a b e in
        let same : b ≤ b = omega arith in
        inr (omega (arith, le-max_right a b, max-le {a = a} {b = b} {k = b} le same))
    by false e =
        let le : b ≤ a = omega (arith, leb-false a b e) in
        let same : a ≤ a = omega arith in
        inl (omega (arith, le-max_left a b, max-le {a = a} {b = b} {k = a} same le))

module _ (v : LogVersion) (all : List Authenticator) (end : ℕ) where
  greater_reached : (a b : ℕ) → Reached v all end a → Reached v all end b → Reached v all end (max a b)
  greater_reached a b h k =
      elim (greater a b) [
        | inl e ↦ subst (Reached v all end) (sym e) h
        | inr e ↦ subst (Reached v all end) (sym e) k
      ]

  all_reached : (n : ℕ) (learned : List Authenticator) → Reached v all end n
      → ((a : Authenticator) → IsAmong a learned → IsAmong a all)
      → AllByRecursion (λ a. end < number_of v a) learned
      → Reached v all end
      (fold max n (filter (λ k. nat_le k (end + MAX_ASKED)) (map (λ a. number_of v a) learned)))
  all_reached n [] h within behind = h
  all_reached n (a ∷ learned) h within behind =
      by (nat_le (number_of v a) (end + MAX_ASKED)) refl
      (filter (λ k. nat_le k (end + MAX_ASKED)) (map (λ b. number_of v b) learned))
      (λ k r. all_reached k learned r (λ b i. within b (inr i)) behind.1)
    where
      by : (c : Bool) → nat_le (number_of v a) (end + MAX_ASKED) ≡ c → (rest : List ℕ)
          → ((k : ℕ) → Reached v all end k → Reached v all end (fold max k rest))
          → Reached v all end (fold max n (cond c (number_of v a ∷ rest) rest))
      by true e rest more =
          more (max n (number_of v a))
          (greater_reached n (number_of v a) h
          (inr (
            behind.0,
            leb-true (number_of v a) (end + MAX_ASKED) e,
            record { authenticator = a; among = within a (inl refl); is = refl },
          )))
      by false e rest more = more n h

  -- The greatest number in reach after an end, if there is one, ends an audit that is in reach, and is that
  -- of one of these.
  pub in_reach : (learned : List Authenticator) → ((a : Authenticator) → IsAmong a learned → IsAmong a all)
      → AllByRecursion (λ a. end < number_of v a) learned → (last_in_reach v end learned == 0) ≡ false
      → IsInReach (end + 1) (last_in_reach v end learned) × IsNumberOf v all (last_in_reach v end learned)
  in_reach learned within behind some =
      elim (all_reached 0 learned (inl refl) within behind) [
        | inl e ↦ absurd (true≢false (sym (ap (λ n. n == 0) e) ∙ some))
        | inr b ↦ (record { order = omega (arith, b.0); few = omega (arith, b.1) }, b.2)
      ]

after_end : (v : LogVersion) (end : ℕ) (xs : List Authenticator)
    → AllByRecursion (λ a. end < number_of v a) (filter (λ a. nat_lt end (number_of v a)) xs)
after_end v end [] = tt
after_end v end (a ∷ xs) =
    by (nat_lt end (number_of v a)) refl (filter (λ b. nat_lt end (number_of v b)) xs) (after_end v end xs)
  where
    by : (c : Bool) → nat_lt end (number_of v a) ≡ c → (rest : List Authenticator)
        → AllByRecursion (λ b. end < number_of v b) rest
        → AllByRecursion (λ b. end < number_of v b) (cond c (a ∷ rest) rest)
    by true e rest more = (ltb-true end (number_of v a) e, more)
    by false e rest more = more

-- All that is kept lies after the end.
pub kept_after : (w : Watched) (past : Past)
    → AllByRecursion (λ a. (end_of w past).number < number_of w.member.log_version a) (kept w past)
kept_after w past = after_end w.member.log_version (end_of w past).number (noted_before w past)
