-- What a directory lists after a name more and a name less.
-- Serves: trees_stay_trees (nfs_laws); Shapes here.
use Rattle.std.proofs.Common.{◌≡◌, ◌≢◌, ℕ, ◌+◌, Bool, true, false, cond, List, [], ◌∷◌, ◌++◌, sum_by, Option}
use Rattle.std.proofs.Common.{Some, None, nat_eq, eqb, eq-eqb, ne_eqb, refl, sym, ap, ◌∙◌, arith}
use Rattle.std.specs.Option.{option_map_or}
use Rattle.std.specs.List.{IsDistinct, AllByRecursion}
use Rattle.std.specs.Map.{lookup, remove_entry, keys_of}
use Rattle.std.specs.Cmp.Lexicographic.{pointwise, same_text, nat_list_eq_equiv}
use Rattle.std.proofs.lemmas.Bool.{cond-true, cond-false}
use Rattle.std.proofs.lemmas.List.Sums.{sum_by-cons, sum_by_push}
use Rattle.fs_spec.specs.Listing.{Listing, entry_at, with_entry, without_entry, HasDistinctNames}
use Rattle.fs_spec.specs.Files.{one_if}
use Rattle.fs_spec.proofs.Walks.{none_some}
use Rattle.fs_spec.proofs.Reached.{not_before}

-- a name is itself
pub name_self : (x : List ℕ) → pointwise nat_eq x x ≡ true
name_self x = nat_list_eq_equiv.refl x

-- another name is another
pub name_other : (x y : List ℕ) → x ≢ y → pointwise nat_eq x y ≡ false
name_other x y not = by (pointwise nat_eq x y) refl
  where
    by : (b : Bool) → pointwise nat_eq x y ≡ b → pointwise nat_eq x y ≡ false
    by false e = e
    by true e = absurd (not (same_text x y (sym e)))

module _ {X : Type 0} (x : List ℕ) where
  removed_other : (y : List ℕ) → y ≢ x → (es : List (List ℕ × X))
      → lookup (pointwise nat_eq y) (remove_entry (pointwise nat_eq x) es) ≡ lookup (pointwise nat_eq y) es
  removed_other y not [] = refl
  removed_other y not (e ∷ es) =
      elim (pointwise nat_eq x e.0) as (λ b. pointwise nat_eq x e.0 ≡ b
      → lookup (pointwise nat_eq y) (cond b es (e ∷ remove_entry (pointwise nat_eq x) es))
      ≡ lookup (pointwise nat_eq y) (e ∷ es)) [
        | true ↦ λ is. sym (cond-false _ _ _ (name_other y e.0
            (λ same. not (same ∙ sym (same_text x e.0 (sym is))))))
        | false ↦ λ is. ap (cond (pointwise nat_eq y e.0) (Some e.1)) (removed_other y not es)
      ] refl

  removed_same : (es : List (List ℕ × X)) → IsDistinct (pointwise nat_eq) (keys_of es)
      → lookup (pointwise nat_eq x) (remove_entry (pointwise nat_eq x) es) ≡ None
  unfolding IsDistinct
  removed_same [] distinct = refl
  removed_same (e ∷ es) distinct =
      elim (pointwise nat_eq x e.0) as (λ b. pointwise nat_eq x e.0 ≡ b
      → lookup (pointwise nat_eq x) (cond b es (e ∷ remove_entry (pointwise nat_eq x) es)) ≡ None) [
        | true ↦ λ is. not_before nat_list_eq_equiv e.0 x is es distinct.0
        | false ↦ λ is. cond-false _ _ _ is ∙ removed_same es distinct.1
      ] refl

  pushed_other : (v : X) (y : List ℕ) → y ≢ x → (es : List (List ℕ × X))
      → lookup (pointwise nat_eq y) (es ++ (x, v) ∷ []) ≡ lookup (pointwise nat_eq y) es
  pushed_other v y not [] = cond-false _ _ _ (name_other y x not)
  pushed_other v y not (e ∷ es) = ap (cond (pointwise nat_eq y e.0) (Some e.1)) (pushed_other v y not es)

  pushed_same : (v : X) (es : List (List ℕ × X)) → lookup (pointwise nat_eq x) es ≡ None
      → lookup (pointwise nat_eq x) (es ++ (x, v) ∷ []) ≡ Some v
  pushed_same v [] none = cond-true _ _ _ (name_self x)
  pushed_same v (e ∷ es) none =
      elim (pointwise nat_eq x e.0) as (λ b. cond b (Some e.1) (lookup (pointwise nat_eq x) es) ≡ None
      → cond b (Some e.1) (lookup (pointwise nat_eq x) (es ++ (x, v) ∷ [])) ≡ Some v) [
        | true ↦ λ is. absurd (none_some (sym is))
        | false ↦ λ is. pushed_same v es is
      ] none

  all_removed : (P : List ℕ → Type 0) (es : List (List ℕ × X)) → AllByRecursion P (keys_of es)
      → AllByRecursion P (keys_of (remove_entry (pointwise nat_eq x) es))
  all_removed P [] h = tt
  all_removed P (e ∷ es) h =
      elim (pointwise nat_eq x e.0) as (λ b. AllByRecursion P
      (keys_of (cond b es (e ∷ remove_entry (pointwise nat_eq x) es)))) [
        | true ↦ h.1
        | false ↦ (h.0, all_removed P es h.1)
      ]

  distinct_removed : (es : List (List ℕ × X)) → IsDistinct (pointwise nat_eq) (keys_of es)
      → IsDistinct (pointwise nat_eq) (keys_of (remove_entry (pointwise nat_eq x) es))
  unfolding IsDistinct
  distinct_removed [] h = tt
  distinct_removed (e ∷ es) h =
      elim (pointwise nat_eq x e.0) as (λ b. IsDistinct (pointwise nat_eq)
      (keys_of (cond b es (e ∷ remove_entry (pointwise nat_eq x) es)))) [
        | true ↦ h.1
        | false ↦ (all_removed (λ y. pointwise nat_eq e.0 y ≡ false) es h.0, distinct_removed es h.1)
      ]

  all_pushed : (P : List ℕ → Type 0) (v : X) (es : List (List ℕ × X)) → AllByRecursion P (keys_of es) → P x
      → AllByRecursion P (keys_of (es ++ (x, v) ∷ []))
  all_pushed P v [] h last = (last, tt)
  all_pushed P v (e ∷ es) h last = (h.0, all_pushed P v es h.1 last)

  distinct_pushed : (v : X) (es : List (List ℕ × X)) → IsDistinct (pointwise nat_eq) (keys_of es)
      → lookup (pointwise nat_eq x) es ≡ None → IsDistinct (pointwise nat_eq) (keys_of (es ++ (x, v) ∷ []))
  unfolding IsDistinct
  distinct_pushed v [] h none = (tt, tt)
  distinct_pushed v (e ∷ es) h none =
      elim (pointwise nat_eq x e.0) as (λ b. pointwise nat_eq x e.0 ≡ b
      → cond b (Some e.1) (lookup (pointwise nat_eq x) es) ≡ None
      → IsDistinct (pointwise nat_eq) (keys_of (e ∷ (es ++ (x, v) ∷ [])))) [
        | true ↦ λ is some. absurd (none_some (sym some))
        | false ↦ λ is some. (
          all_pushed (λ y. pointwise nat_eq e.0 y ≡ false) v es h.0
              (nat_list_eq_equiv.symm e.0 x ∙ is),
          distinct_pushed v es h.1 some,
        )
      ] refl none

  sum_removed : (f : X → ℕ) (es : List (List ℕ × X))
      → sum_by (λ e. f e.1) (remove_entry (pointwise nat_eq x) es) + option_map_or f
      (lookup (pointwise nat_eq x) es) 0 ≡ sum_by (λ e. f e.1) es
  sum_removed f [] = omega arith
  sum_removed f (e ∷ es) =
      let parts = sum_by-cons (λ (e : List ℕ × X). f e.1) e es in
      let rest = sum_removed f es in
      elim (pointwise nat_eq x e.0) as (λ b. sum_by (λ e. f e.1)
      (cond b es (e ∷ remove_entry (pointwise nat_eq x) es)) + option_map_or f
      (cond b (Some e.1) (lookup (pointwise nat_eq x) es)) 0 ≡ sum_by (λ e. f e.1) (e ∷ es)) [
        | true ↦ omega (arith, parts)
        | false ↦ let more =
            sum_by-cons (λ (e : List ℕ × X). f e.1) e (remove_entry (pointwise nat_eq x) es) in
            omega (arith, parts, more, rest)
      ]

-- ---- a listing with a name more

module _ (l : Listing) (x : List ℕ) (k : ℕ) (distinct : HasDistinctNames l.entries) where
  -- the new entry is found
  pub with_entry_here : entry_at (with_entry l x k) x ≡ Some (k, l.next)
  with_entry_here =
      pushed_same x (k, l.next) (remove_entry (pointwise nat_eq x) l.entries)
      (removed_same x l.entries distinct)

  -- other names find what they found
  pub with_entry_other : (y : List ℕ) → y ≢ x → entry_at (with_entry l x k) y ≡ entry_at l y
  with_entry_other y not =
      pushed_other x (k, l.next) y not (remove_entry (pointwise nat_eq x) l.entries)
      ∙ removed_other x y not l.entries

  -- names stay distinct with one more
  pub with_entry_distinct : HasDistinctNames (with_entry l x k).entries
  with_entry_distinct =
      distinct_pushed x (k, l.next) (remove_entry (pointwise nat_eq x) l.entries)
      (distinct_removed x l.entries distinct) (removed_same x l.entries distinct)

-- ---- and with a name less

module _ (l : Listing) (x : List ℕ) (distinct : HasDistinctNames l.entries) where
  -- the name finds nothing
  pub without_entry_here : entry_at (without_entry l x) x ≡ None
  without_entry_here = removed_same x l.entries distinct

  -- other names find what they found
  pub without_entry_other : (y : List ℕ) → y ≢ x → entry_at (without_entry l x) y ≡ entry_at l y
  without_entry_other y not = removed_other x y not l.entries

  -- names stay distinct with one less
  pub without_entry_distinct : HasDistinctNames (without_entry l x).entries
  without_entry_distinct = distinct_removed x l.entries distinct

-- ---- counts

-- 1 where one number is the other
abbrev pub one : ℕ → ℕ → ℕ
one n k = cond (eqb k n) 1 0

-- a number is itself once
pub one_same : (n k : ℕ) → n ≡ k → one n k ≡ 1
one_same n k e = ap (λ b. cond b 1 0) (eq-eqb k n (sym e))

-- another number counts nothing
pub one_other : (n k : ℕ) → n ≢ k → one n k ≡ 0
one_other n k ne = ap (λ b. cond b 1 0) (ne_eqb k n (λ e. ne (sym e)))

-- 1 where an entry is of a number
abbrev pub leads : ℕ → Option (ℕ × ℕ) → ℕ
leads n o = option_map_or (λ p. one n p.0) o 0

-- how often a number is named, with an entry less
pub names_without_entry : (n : ℕ) (l : Listing) (x : List ℕ)
    → sum_by (one_if n) (without_entry l x).entries + leads n (entry_at l x) ≡ sum_by (one_if n) l.entries
names_without_entry n l x = sum_removed x (λ (p : ℕ × ℕ). one n p.0) l.entries

-- and with an entry more
pub names_with_entry : (n : ℕ) (l : Listing) (x : List ℕ) (k : ℕ)
    → sum_by (one_if n) (with_entry l x k).entries + leads n (entry_at l x)
    ≡ sum_by (one_if n) l.entries + one n k
names_with_entry n l x k =
    let less = names_without_entry n l x in
    let more = sum_by_push (one_if n) (without_entry l x).entries (x, (k, l.next)) in
    omega (arith, less, more)
