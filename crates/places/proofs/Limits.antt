-- Who takes a place keeps the limits.
-- Serves: Places::place, Places::leave.
use Rattle.std.proofs.Common.{◌≡◌, ℕ, ◌+◌, ◌<◌, ◌≤◌, Bool, true, false, cond, not, ◌==◌, nat_le, List, [], ◌∷◌, ◌++◌}
use Rattle.std.proofs.Common.{Option, Some, None, refl, sym, ap, ◌∙◌, arith, eqb-true, eq-eqb}
use Rattle.std.proofs.lemmas.Bool.{true≢false, le-leb, leb-true, leb-false}
use Rattle.std.proofs.lemmas.Option.{same_Some}
use Rattle.places.specs.Holding.{KeepLimits, alike, first_so, most, others, placed, standing_so, with_room, without}
use Rattle.places.specs.declared.holder.Holder.{Holder}
use Rattle.places.specs.declared.holder.Standing.{Standing}
use Rattle.places.specs.declared.holder.Standing.TheVariants.{Stranger, Member, Auditor}

-- ---- who stands alike

-- one that stands like another stands so wherever that does
alike_so : (s t u : Standing) → alike s t ≡ true → alike s u ≡ alike t u
alike_so Stranger Stranger u h = refl
alike_so Stranger (Member m) u h = absurd (true≢false (sym h))
alike_so Stranger Auditor u h = absurd (true≢false (sym h))
alike_so (Member n) Stranger u h = absurd (true≢false (sym h))
alike_so (Member n) (Member m) u h = ap (λ k. alike (Member k) u) (eqb-true n m h)
alike_so (Member n) Auditor u h = absurd (true≢false (sym h))
alike_so Auditor Stranger u h = absurd (true≢false (sym h))
alike_so Auditor (Member m) u h = absurd (true≢false (sym h))
alike_so Auditor Auditor u h = refl

alike_most : (s t : Standing) → alike s t ≡ true → most s ≡ most t
alike_most Stranger Stranger h = refl
alike_most Stranger (Member m) h = absurd (true≢false (sym h))
alike_most Stranger Auditor h = absurd (true≢false (sym h))
alike_most (Member n) Stranger h = absurd (true≢false (sym h))
alike_most (Member n) (Member m) h = refl
alike_most (Member n) Auditor h = absurd (true≢false (sym h))
alike_most Auditor Stranger h = absurd (true≢false (sym h))
alike_most Auditor (Member m) h = absurd (true≢false (sym h))
alike_most Auditor Auditor h = refl

-- ---- how many stand so

module _ (s : Standing) where
  by_head : (h : Holder) (hs : List Holder) (b : Bool) → alike s h.standing ≡ b
      → standing_so s (h ∷ hs) ≡ cond b (1 + standing_so s hs) (standing_so s hs)
  by_head h hs b e = ap (λ x. cond x (1 + standing_so s hs) (standing_so s hs)) e

  -- one that stands so counts, and no other
  more : (h : Holder) (hs : List Holder) → standing_so s hs ≤ standing_so s (h ∷ hs)
  more h hs = by (alike s h.standing) refl
    where
      by : (b : Bool) → alike s h.standing ≡ b → standing_so s hs ≤ standing_so s (h ∷ hs)
      by true e = omega (arith, by_head h hs true e)
      by false e = omega (arith, by_head h hs false e)

  at_most_one : (h : Holder) (hs : List Holder) → standing_so s (h ∷ hs) ≤ 1 + standing_so s hs
  at_most_one h hs = by (alike s h.standing) refl
    where
      by : (b : Bool) → alike s h.standing ≡ b → standing_so s (h ∷ hs) ≤ 1 + standing_so s hs
      by true e = omega (arith, by_head h hs true e)
      by false e = omega (arith, by_head h hs false e)

  grows : (h : Holder) (hs ks : List Holder) → standing_so s hs ≤ standing_so s ks
      → standing_so s (h ∷ hs) ≤ standing_so s (h ∷ ks)
  grows h hs ks le = by (alike s h.standing) refl
    where
      by : (b : Bool) → alike s h.standing ≡ b → standing_so s (h ∷ hs) ≤ standing_so s (h ∷ ks)
      by true e = omega (arith, by_head h hs true e, by_head h ks true e, le)
      by false e = omega (arith, by_head h hs false e, by_head h ks false e, le)

  -- fewer do without a connection
  pub fewer : (id : ℕ) (hs : List Holder) → standing_so s (others id hs) ≤ standing_so s hs
  fewer id [] = omega arith
  fewer id (h ∷ hs) = by (fewer id hs) (h.id == id) refl
    where
      by : standing_so s (others id hs) ≤ standing_so s hs → (b : Bool) → (h.id == id) ≡ b
          → standing_so s (others id (h ∷ hs)) ≤ standing_so s (h ∷ hs)
      by rest true e =
          let same : others id (h ∷ hs) ≡ others id hs = ap (λ x. cond (not x) (h ∷ others id hs) (others id hs)) e in
          omega (arith, ap (standing_so s) same, rest, more h hs)
      by rest false e =
          let same : others id (h ∷ hs) ≡ h ∷ others id hs =
          ap (λ x. cond (not x) (h ∷ others id hs) (others id hs)) e in
          omega (arith, ap (standing_so s) same, grows h (others id hs) hs rest)

  -- at least one fewer, without the first
  one_fewer : (id : ℕ) (hs : List Holder) → first_so s hs ≡ Some id
      → 1 + standing_so s (others id hs) ≤ standing_so s hs
  one_fewer id [] h = absurd cc
  one_fewer id (k ∷ hs) h = by (λ g. one_fewer id hs g) (alike s k.standing) refl
    where
      of_first : (b : Bool) → alike s k.standing ≡ b → cond b (Some k.id) (first_so s hs) ≡ Some id
      of_first b e = ap (λ x. cond x (Some k.id) (first_so s hs)) (sym e) ∙ h

      by_id : (b : Bool) → (k.id == id) ≡ b → 1 + standing_so s (others id hs) ≤ standing_so s hs
          → 1 + standing_so s (others id (k ∷ hs)) ≤ standing_so s (k ∷ hs)
      by_id true e le =
          let same : others id (k ∷ hs) ≡ others id hs = ap (λ x. cond (not x) (k ∷ others id hs) (others id hs)) e in
          omega (arith, ap (standing_so s) same, le, more k hs)
      by_id false e le =
          by_like (alike s k.standing) refl
        where
          by_like : (b : Bool) → alike s k.standing ≡ b
              → 1 + standing_so s (others id (k ∷ hs)) ≤ standing_so s (k ∷ hs)
          by_like true f =
              let same : others id (k ∷ hs) ≡ k ∷ others id hs =
              ap (λ x. cond (not x) (k ∷ others id hs) (others id hs)) e in
              omega (arith, ap (standing_so s) same, by_head k (others id hs) true f, by_head k hs true f, le)
          by_like false f =
              let same : others id (k ∷ hs) ≡ k ∷ others id hs =
              ap (λ x. cond (not x) (k ∷ others id hs) (others id hs)) e in
              omega (arith, ap (standing_so s) same, by_head k (others id hs) false f, by_head k hs false f, le)

      by : (first_so s hs ≡ Some id → 1 + standing_so s (others id hs) ≤ standing_so s hs) → (b : Bool)
          → alike s k.standing ≡ b → 1 + standing_so s (others id (k ∷ hs)) ≤ standing_so s (k ∷ hs)
      by rest true e =
          let is : k.id ≡ id = same_Some _ _ (of_first true e) in
          let same : others id (k ∷ hs) ≡ others id hs =
          ap (λ x. cond (not x) (k ∷ others id hs) (others id hs)) (eq-eqb k.id id is) in
          omega (arith, ap (standing_so s) same, by_head k hs true e, fewer id hs)
      by rest false e = by_id (k.id == id) refl (rest (of_first false e))

  -- where some stand so, there is a first
  first_there : (hs : List Holder) → first_so s hs ≡ None → standing_so s hs ≡ 0
  first_there [] h = refl
  first_there (k ∷ hs) h = by (λ g. first_there hs g) (alike s k.standing) refl
    where
      by : (first_so s hs ≡ None → standing_so s hs ≡ 0) → (b : Bool) → alike s k.standing ≡ b
          → standing_so s (k ∷ hs) ≡ 0
      by rest true e =
          let none : ◌≡◌ {A = Option ℕ} (Some k.id) None =
          ap (λ x. cond x (Some k.id) (first_so s hs)) (sym e) ∙ h in
          absurd cc
      by rest false e =
          by_head k hs false e
          ∙ rest (ap (λ x. cond x (Some k.id) (first_so s hs)) (sym e) ∙ h)

  at_end : (hs : List Holder) (h : Holder)
      → standing_so s (hs ++ h ∷ []) ≡ standing_so s hs + standing_so s (h ∷ [])
  at_end [] h = omega arith
  at_end (k ∷ hs) h = by (at_end hs h) (alike s k.standing) refl
    where
      by : standing_so s (hs ++ h ∷ []) ≡ standing_so s hs + standing_so s (h ∷ []) → (b : Bool)
          → alike s k.standing ≡ b → standing_so s (k ∷ (hs ++ h ∷ [])) ≡ standing_so s (k ∷ hs) + standing_so s (h ∷ [])
      by rest true e = omega (arith, by_head k (hs ++ h ∷ []) true e, by_head k hs true e, rest)
      by rest false e = omega (arith, by_head k (hs ++ h ∷ []) false e, by_head k hs false e, rest)

-- as many stand so as stand alike
same_count : (s t : Standing) → alike s t ≡ true → (hs : List Holder) → standing_so s hs ≡ standing_so t hs
same_count s t e [] = refl
same_count s t e (h ∷ hs) =
    ap (λ x. cond x (1 + standing_so s hs) (standing_so s hs)) (alike_so s t h.standing e)
    ∙ ap (λ n. cond (alike t h.standing) (1 + n) n) (same_count s t e hs)

-- ---- room

-- room is made for one more that stands so
room_for_one : (s : Standing) (hs : List Holder) → standing_so s hs ≤ most s → 0 < most s
    → 1 + standing_so s (with_room s hs) ≤ most s
room_for_one s hs le some = by (nat_le (most s) (standing_so s hs)) refl
  where
    by_first : (o : Option ℕ) → first_so s hs ≡ o → most s ≤ standing_so s hs
        → 1 + standing_so s (without o hs) ≤ most s
    by_first None e high = absurd (omega (arith, high, some, first_there s hs e))
    by_first (Some id) e high = omega (arith, one_fewer s id hs e, le)

    by : (b : Bool) → nat_le (most s) (standing_so s hs) ≡ b → 1 + standing_so s (with_room s hs) ≤ most s
    by true e =
        let same : with_room s hs ≡ without (first_so s hs) hs =
        ap (λ x. cond x (without (first_so s hs) hs) hs) e in
        omega (
          arith,
          ap (standing_so s) same,
          by_first (first_so s hs) refl (leb-true (most s) (standing_so s hs) e),
        )
    by false e =
        let same : with_room s hs ≡ hs = ap (λ x. cond x (without (first_so s hs) hs) hs) e in
        omega (arith, ap (standing_so s) same, leb-false (most s) (standing_so s hs) e)

-- what is left where the first of too many goes
pub room_made : (s : Standing) (hs ks : List Holder) (id : ℕ) → most s ≤ standing_so s hs → first_so s hs ≡ Some id
    → ks ≡ others id hs → ks ≡ with_room s hs
room_made s hs ks id full first is =
    is ∙ ap (λ o. without o hs) (sym first)
    ∙ ap (λ x. cond x (without (first_so s hs) hs) hs) (sym (le-leb (most s) (standing_so s hs) full))

-- nobody more stands in another way for it
room_leaves : (s t : Standing) (hs : List Holder) → standing_so t (with_room s hs) ≤ standing_so t hs
room_leaves s t hs = by (nat_le (most s) (standing_so s hs)) refl
  where
    by_first : (o : Option ℕ) → standing_so t (without o hs) ≤ standing_so t hs
    by_first None = omega arith
    by_first (Some id) = fewer t id hs

    by : (b : Bool) → nat_le (most s) (standing_so s hs) ≡ b → standing_so t (with_room s hs) ≤ standing_so t hs
    by true e =
        omega (arith, ap (λ x. standing_so t (cond x (without (first_so s hs) hs) hs)) e, by_first (first_so s hs))
    by false e = omega (arith, ap (λ x. standing_so t (cond x (without (first_so s hs) hs) hs)) e)

some_places : (s : Standing) → 0 < most s
some_places Stranger = omega arith
some_places (Member n) = omega arith
some_places Auditor = omega arith

-- ---- the limits

pub leaving_keeps : (id : ℕ) (hs : List Holder) → KeepLimits hs → KeepLimits (others id hs)
leaving_keeps id hs keep s = omega (arith, fewer s id hs, keep s)

pub placing_keeps : (h : Holder) (hs : List Holder) → KeepLimits hs → KeepLimits (placed h hs)
placing_keeps h hs keep s = by (alike s h.standing) refl
  where
    by : (b : Bool) → alike s h.standing ≡ b → standing_so s (placed h hs) ≤ most s
    by true e =
        let hs' = others h.id hs in
        let room = room_for_one h.standing hs' (omega (arith, fewer h.standing h.id hs, keep h.standing))
        (some_places h.standing) in
        omega (
          arith,
          at_end s (with_room h.standing hs') h,
          by_head s h [] true e,
          alike_most s h.standing e,
          same_count s h.standing e (with_room h.standing hs'),
          room,
        )
    by false e =
        omega (
          arith,
          at_end s (with_room h.standing (others h.id hs)) h,
          by_head s h [] false e,
          room_leaves h.standing s (others h.id hs),
          fewer s h.id hs,
          keep s,
        )
