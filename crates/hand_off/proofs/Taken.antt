-- A seat that has the one slot out, and what lies in it.
-- Serves: Slot, PosterPlace, WorkerPlace.
use Rattle.std.proofs.Common.{◌≡◌, ℕ, List, [], ◌∷◌, refl, sym, ap, ◌∙◌, subst}
use Rattle.atomic_table.specs.Table.{rest}
use Rattle.hand_off.specs.declared.view.View.{View}
use Rattle.hand_off.specs.Slots.{Content, Seated}

-- a seat that has the slot out has it in front
pub in_front : (m : Seated) (v : View) (x : Content) → m ≡ (v, (0, x) ∷ []) → m.1 ≡ (0, x) ∷ rest m.1
in_front m v x is = subst (λ (n : Seated). n.1 ≡ (0, x) ∷ rest n.1) (sym is) refl

-- what lies in the first slot, or this
lies_first : List (ℕ × Content) → Content → Content
lies_first [] d = d
lies_first (x ∷ xs) d = x.1

-- what was read is what lay there
pub found_in : (m : Seated) (v : View) (x r : Content) → m ≡ (v, (0, x) ∷ []) → m.1 ≡ (0, r) ∷ rest m.1
    → r ≡ x
unfolding lies_first
found_in m v x r is read =
    let e : (0, r) ∷ rest m.1 ≡ (0, x) ∷ [] = sym read ∙ ap (λ (n : Seated). n.1) is in
    ap (λ (l : List (ℕ × Content)). lies_first l x) e

-- what was written lies there
pub put_in : (m n : Seated) (v : View) (x y : Content) → m ≡ (v, (0, x) ∷ []) → n ≡ (m.0, (0, y) ∷ rest m.1)
    → n ≡ (v, (0, y) ∷ [])
put_in m n v x y is put = put ∙ ap (λ (k : Seated). (k.0, (0, y) ∷ rest k.1)) is

-- a seat is its view and what it has out
pub both_parts : (m n : Seated) (v u : View) (l : List (ℕ × Content)) → n ≡ (v, l) → m.0 ≡ u → m.1 ≡ n.1
    → m ≡ (u, l)
both_parts m n v u l is a b = let c : m.1 ≡ l = b ∙ ap (λ (x : Seated). x.1) is in λ i. (a i, c i)

-- its view is the first part
pub first_is : (m : Seated) (v : View) (l : List (ℕ × Content)) → m ≡ (v, l) → m.0 ≡ v
first_is m v l is = ap (λ (x : Seated). x.0) is
