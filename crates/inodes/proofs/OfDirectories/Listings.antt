-- A map's list of entries, seen through a function of keys and one of values: what a look-up finds, what a
-- removal leaves, and what stays where another key is put.
-- Serves: `Directory::find`, `put_last`.
use Rattle.std.proofs.Common.{◌≡◌, ◌≢◌, nat_eq, ℕ, Bool, true, false, cond, List, [], ◌∷◌, ◌++◌, map, Some}
use Rattle.std.proofs.Common.{option_map, refl, sym, ap, ◌∙◌}
use Rattle.std.proofs.lemmas.List.{map-append}
use Rattle.std.specs.Map.{lookup, remove_entry, KeepsOthers}
use Rattle.std.specs.Cmp.Lexicographic.{pointwise, same_text, nat_list_eq_equiv}

module _ {K X L Y : Type 0} (f : K → L) (g : X → Y) (test : L → Bool) where
  -- a look-up in the list that is seen finds what is seen of the entry
  pub lookup-shown : (es : List (K × X))
      → lookup test (map (λ (e : K × X). (f e.0, g e.1)) es) ≡ option_map g (lookup (λ k. test (f k)) es)
  lookup-shown [] = refl
  lookup-shown (e ∷ es) =
      elim (test (f e.0)) as (λ b. cond b (Some (g e.1))
      (lookup test (map (λ (e : K × X). (f e.0, g e.1)) es))
      ≡ option_map g (cond b (Some e.1) (lookup (λ k. test (f k)) es))) [
        | true ↦ refl
        | false ↦ lookup-shown es
      ]

  -- what is seen after a removal is what is seen before it, without the entry
  pub remove_entry-shown : (es : List (K × X))
      → map (λ (e : K × X). (f e.0, g e.1)) (remove_entry (λ k. test (f k)) es)
      ≡ remove_entry test (map (λ (e : K × X). (f e.0, g e.1)) es)
  remove_entry-shown [] = refl
  remove_entry-shown (e ∷ es) =
      elim (test (f e.0)) as (λ b. map (λ (e : K × X). (f e.0, g e.1))
      (cond b es (e ∷ remove_entry (λ k. test (f k)) es))
      ≡ cond b (map (λ (e : K × X). (f e.0, g e.1)) es)
      ((f e.0, g e.1) ∷ remove_entry test (map (λ (e : K × X). (f e.0, g e.1)) es))) [
        | true ↦ refl
        | false ↦ ap (λ l. (f e.0, g e.1) ∷ l) (remove_entry-shown es)
      ]

  -- the same where an entry is put last after it
  pub put-shown : (es : List (K × X)) (k : K) (x : X)
      → map (λ (e : K × X). (f e.0, g e.1)) (remove_entry (λ k. test (f k)) es ++ (k, x) ∷ [])
      ≡ remove_entry test (map (λ (e : K × X). (f e.0, g e.1)) es) ++ (f k, g x) ∷ []
  put-shown es k x =
      map-append (λ (e : K × X). (f e.0, g e.1)) (remove_entry (λ k. test (f k)) es) ((k, x) ∷ [])
      ∙ ap (λ l. l ++ (f k, g x) ∷ []) (remove_entry-shown es)

-- what another name stands for stays, where a map under texts keeps all keys but one
module _ {K X Y : Type 0} (f : K → List ℕ) (g : X → Y) (name : List ℕ) (old new : List (K × X))
    (keeps : KeepsOthers (λ x y. pointwise nat_eq (f x) (f y)) (λ k. pointwise nat_eq name (f k)) old new)
    (q : List ℕ) (other : q ≢ name) where
  kept_key : lookup (λ k. pointwise nat_eq q (f k)) new ≡ lookup (λ k. pointwise nat_eq q (f k)) old
  unfolding KeepsOthers
  kept_key = keeps (λ k. pointwise nat_eq q (f k))
      (λ x y at. nat_list_eq_equiv.congr q (f x) (f y) at)
      (λ k at. by k at (pointwise nat_eq q (f k)) refl)
    where
      by : (k : K) → pointwise nat_eq name (f k) ≡ true → (b : Bool) → pointwise nat_eq q (f k) ≡ b
          → pointwise nat_eq q (f k) ≡ false
      by k at false e = e
      by k at true e = absurd (other (same_text q (f k) (sym e) ∙ sym (same_text name (f k) (sym at))))

  -- another name stands for what it stood for
  pub lookup-kept : lookup (pointwise nat_eq q) (map (λ (e : K × X). (f e.0, g e.1)) new)
      ≡ lookup (pointwise nat_eq q) (map (λ (e : K × X). (f e.0, g e.1)) old)
  lookup-kept =
      lookup-shown f g (pointwise nat_eq q) new ∙ ap (option_map g) kept_key
      ∙ sym (lookup-shown f g (pointwise nat_eq q) old)
