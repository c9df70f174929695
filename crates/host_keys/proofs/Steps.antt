-- What follows of two answers to one question.
use Rattle.std.proofs.Common.{◌≡◌, List, ◌∷◌, Option, Some, None, ap, ◌∙◌}

-- an answer is none or some
pub none_some : {X : Type 0} {r : Option X} {x : X} → r ≡ None → r ≡ Some x → ⊥
none_some h e = cc

-- and one alone
pub same_value : {X : Type 0} {r : Option X} {x y : X} → r ≡ Some x → r ≡ Some y → x ≡ y
same_value h e = cc

-- the rests of a list are the same
pub same_rest : {X : Type 0} {l xs ys : List X} {x y : X} → l ≡ x ∷ xs → l ≡ y ∷ ys → xs ≡ ys
same_rest h e = cc

-- three equal parts make equal answers
pub same_three : {A B C : Type 0} {a x : A} {b y : B} {c z : C} → a ≡ x → b ≡ y → c ≡ z
    → ◌≡◌ {A = Option (A × B × C)} (Some (a, b, c)) (Some (x, y, z))
same_three {A} {B} {C} {a} {x} {b} {y} {c} {z} h i j =
    let first : (A → Option (A × B × C)) = λ v. Some (v, b, c) in
    let second : (B → Option (A × B × C)) = λ v. Some (x, v, c) in
    let third : (C → Option (A × B × C)) = λ v. Some (x, y, v) in ap first h ∙ ap second i ∙ ap third j

-- the first elements of a list are the same
pub same_first : {X : Type 0} {l xs ys : List X} {x y : X} → l ≡ x ∷ xs → l ≡ y ∷ ys → x ≡ y
same_first h e = cc
