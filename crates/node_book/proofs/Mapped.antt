-- Lists that are mapped: what is found, counted, kept and joined of them.
-- Serves: is_open, count_sends, close_answered, close_send; is_answered; count_entries and shown_of by way of Shown.
use Rattle.std.proofs.Common.{◌≡◌, ◌+◌, ◌<◌, ◌≤◌, ℕ, Bool, true, false, cond, List, [], ◌∷◌, ◌++◌, map}
use Rattle.std.proofs.Common.{filter, flat_map, count_by, fold, length, get_or, take, refl, sym, ap, ◌∙◌}
use Rattle.std.proofs.Common.{◌||◌, take_all}
use Rattle.std.proofs.lemmas.List.Folds.{list_any_at}
use Rattle.std.specs.List.{list_any}

-- one of those after is found where one of those before is
pub list_any_map : {X Y : Type 0} (p : Y → Bool) (h : X → Y) (xs : List X)
    → list_any p (map h xs) ≡ list_any (λ x. p (h x)) xs
list_any_map p h [] = refl
list_any_map p h (x ∷ xs) = ap (λ b. p (h x) || b) (list_any_map p h xs)

-- the one at a place is found
pub found_at : {X Y : Type 0} (p : Y → Bool) (h : X → Y) (xs : List X) (i : ℕ) (d : X) → i < length xs
    → d ≡ get_or xs i d → p (h d) ≡ true → list_any p (map h xs) ≡ true
found_at p h xs i d inside is passes =
    list_any_map p h xs
    ∙ list_any_at (λ x. p (h x)) xs i d inside (ap (λ x. p (h x)) (sym is) ∙ passes)

-- none is found, up to the end
pub found_none : {X Y : Type 0} (p : Y → Bool) (h : X → Y) (xs : List X) (i : ℕ) → length xs ≤ i
    → list_any (λ x. p (h x)) (take i xs) ≡ false → list_any p (map h xs) ≡ false
found_none p h xs i end none =
    list_any_map p h xs ∙ ap (list_any (λ x. p (h x))) (sym (take_all i xs end)) ∙ none

-- those after are folded as those before
pub fold_map : {X Y B : Type 0} (f : B → Y → B) (a : B) (h : X → Y) (xs : List X)
    → fold f a (map h xs) ≡ fold (λ b x. f b (h x)) a xs
fold_map f a h [] = refl
fold_map f a h (x ∷ xs) = fold_map f (f a (h x)) h xs

-- as many are counted after as before
pub count_by_map : {X Y : Type 0} (p : Y → Bool) (h : X → Y) (xs : List X)
    → count_by p (map h xs) ≡ count_by (λ x. p (h x)) xs
count_by_map p h xs = fold_map (λ a x. a + cond (p x) 1 0) 0 h xs

-- one more may be kept
map_cond : {X Y : Type 0} (h : X → Y) (b : Bool) (x : X) (xs : List X)
    → map h (cond b (x ∷ xs) xs) ≡ cond b (h x ∷ map h xs) (map h xs)
map_cond h true x xs = refl
map_cond h false x xs = refl

-- what is kept before gives what is kept after
map_filter : {X Y : Type 0} (p : Y → Bool) (h : X → Y) (xs : List X)
    → map h (filter (λ x. p (h x)) xs) ≡ filter p (map h xs)
map_filter p h [] = refl
map_filter p h (x ∷ xs) =
    map_cond h (p (h x)) x (filter (λ y. p (h y)) xs)
    ∙ ap (λ ys. cond (p (h x)) (h x ∷ ys) ys) (map_filter p h xs)

-- the same of a list that is what is kept
pub kept_by : {X Y : Type 0} (p : Y → Bool) (h : X → Y) (xs ys : List X) → ys ≡ filter (λ x. p (h x)) xs
    → map h ys ≡ filter p (map h xs)
kept_by p h xs ys is = ap (map h) is ∙ map_filter p h xs

-- lists are joined after as before
pub flat_map_map : {X Y A : Type 0} (f : Y → List A) (h : X → Y) (xs : List X)
    → flat_map f (map h xs) ≡ flat_map (λ x. f (h x)) xs
flat_map_map f h [] = refl
flat_map_map f h (x ∷ xs) = ap (λ ys. f (h x) ++ ys) (flat_map_map f h xs)
