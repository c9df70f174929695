-- What is left of an outbox's shares.
-- Serves: Outbox::drop_first.
use Rattle.std.proofs.Common.{◌≡◌, ◌+◌, ◌<◌, ℕ, zero, suc, List, [], ◌∷◌, ◌++◌, flat_map, length}
use Rattle.std.proofs.Common.{get_or, drop, refl, sym, ap, ◌∙◌, arith}
use Rattle.std.proofs.Math.Seq.{drop-append_seam, drop-nil}

-- one more is left out
pub drop_more : {A : Type 0} (n : ℕ) (xs : List A) → drop (n + 1) xs ≡ drop 1 (drop n xs)
drop_more zero xs = refl
drop_more (suc n) [] = drop-nil (suc n + 1)
drop_more (suc n) (x ∷ xs) =
    let e : suc n + 1 ≡ suc (n + 1) = omega arith in
    ap (λ k. drop k (x ∷ xs)) e ∙ drop_more n xs

-- Where one more is all that the first list has, those of the others are left.
pub spent : {X A : Type 0} (f : X → List A) (xs rest : List X) (n : ℕ) (x : X) → 0 < length xs
    → x ≡ get_or xs 0 x → rest ≡ drop 1 xs → n + 1 ≡ length (f x)
    → flat_map f rest ≡ drop 1 (drop n (flat_map f xs))
spent f [] rest n x inside is others last = absurd (omega (arith, inside))
spent f (y ∷ ys) rest n x inside is others last =
    ap (flat_map f) others
    ∙ sym (drop-append_seam (f y) (flat_map f ys))
    ∙ ap (λ k. drop k (f y ++ flat_map f ys)) (sym (last ∙ ap (λ z. length (f z)) is))
    ∙ drop_more n (f y ++ flat_map f ys)
