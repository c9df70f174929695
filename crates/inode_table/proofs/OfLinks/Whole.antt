-- Lists in parts, and a vector after its slice was changed.
-- Serves: `by_number`, `linked_inodes`.
use Rattle.std.proofs.Common.{◌≡◌, ℕ, ◌<◌, List, [], ◌∷◌, ◌++◌, length, Some, suc, refl, sym, ap, subst, ◌∙◌}
use Rattle.std.proofs.Common.{arith, append_assoc}
use Rattle.std.specs.Prelude.{slice_get}
use Rattle.tree_rules.specs.FileRules.Rules.{AreRising, numbers_of}
use Rattle.tree_rules.proofs.OfFileRules.Listed.{rises}

get_at : {X : Type 0} (p : List X) (x : X) (ys : List X) → slice_get (p ++ x ∷ ys) (length p) ≡ Some x
get_at [] x ys = refl
get_at (y ∷ p) x ys = get_at p x ys

get_after : {X : Type 0} (p : List X) (x y : X) (ys : List X) → slice_get ys 0 ≡ Some y
    → slice_get (p ++ x ∷ ys) (suc (length p)) ≡ Some y
get_after [] x y ys h = h
get_after (z ∷ p) x y ys h = get_after p x y ys h

module _ {X : Type 0} (all p left : List (ℕ × X)) (e : ℕ × X) (rest : List (ℕ × X))
    (last : left ≡ p ++ e ∷ []) (whole : left ++ rest ≡ all) where
  -- the last that is left goes before the rest
  pub moved : p ++ (e ∷ rest) ≡ all
  moved = sym (append_assoc p (e ∷ []) rest) ∙ ap (λ l. l ++ rest) (sym last) ∙ whole

  -- and its number is below theirs
  pub below_rest : AreRising (numbers_of all) → (f : ℕ × X) → slice_get rest 0 ≡ Some f → e.0 < f.0
  below_rest up f first =
      rises (p ++ (e ∷ rest)) (subst (λ l. AreRising (numbers_of l)) (sym moved) up) (length p)
      (suc (length p)) e f (omega arith) (get_at p e rest) (get_after p e f rest first)
