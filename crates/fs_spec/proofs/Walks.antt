-- The laws of walks, over the definitions alone.
-- Serves: walks_change_where_they_pass, parents_are_directories (fs_spec); the laws of paths above.
use Rattle.std.proofs.Common.{◌≡◌, ◌≢◌, ◌⊎◌, inl, inr, ⊎_elim, ℕ, List, [], ◌∷◌, ◌++◌, Option, Some, None}
use Rattle.std.proofs.Common.{option_and_then, refl, sym, ap, ◌∙◌, append_assoc, append-nil}
use Rattle.std.proofs.lemmas.Bool.{cases_eq}
use Rattle.fs_spec.specs.Paths.{DirectoryEntries, walk, path_at, ChangesEntry}

-- nothing is not something
pub none_some : {A : Type 0} {a : A} → None ≡ Some a → ⊥
none_some h = cc

-- what two equal options hold is one
pub some_same : {A : Type 0} {a b : A} → Some a ≡ Some b → a ≡ b
some_same h = cc

-- a number that two answers give is one
pub one_number : (n c m d : ℕ) → ◌≡◌ {A = Option (ℕ × ℕ)} (Some (n, c)) (Some (m, d)) → n ≡ m
one_number n c m d h = ap (λ (e : ℕ × ℕ). e.0) (some_same h)

-- a walk along two paths is one walk after the other
pub walk-append : (at : DirectoryEntries) (e : ℕ × ℕ) (p q : List (List ℕ))
    → walk at e (p ++ q) ≡ option_and_then (λ f. walk at f q) (walk at e p)
walk-append at e [] q = refl
walk-append at e (y ∷ p) q =
    elim (at e.0 y) as (λ o. option_and_then (λ f. walk at f (p ++ q)) o
    ≡ option_and_then (λ f. walk at f q) (option_and_then (λ f. walk at f p) o)) [
      | None ↦ refl
      | Some f ↦ walk-append at f p q
    ]

-- a walk changes under a change of entries only where it passes an entry that changed
pub walk_same : (at to : DirectoryEntries) (e : ℕ × ℕ) (p : List (List ℕ))
    → ((q r : List (List ℕ)) (y : List ℕ) (f : ℕ × ℕ) → p ≡ q ++ y ∷ r → walk at e q ≡ Some f
    → to f.0 y ≡ at f.0 y)
    → walk to e p ≡ walk at e p
walk_same at to e [] h = refl
walk_same at to e (y ∷ p) h =
    ap (option_and_then (λ f. walk to f p)) (h [] p y e refl refl)
    ∙ elim (at e.0 y) as (λ o. at e.0 y ≡ o
    → option_and_then (λ f. walk to f p) o ≡ option_and_then (λ f. walk at f p) o) [
      | None ↦ λ _. refl
      | Some f ↦ λ is. walk_same at to f p
          (λ q r z g split reached. h (y ∷ q) r z g (ap (λ l. y ∷ l) split)
          (ap (option_and_then (λ f. walk at f q)) is ∙ reached))
    ] refl

-- what is reached after a path is what is at the longer path
pub walk_on : (at : DirectoryEntries) (e f : ℕ × ℕ) (p q : List (List ℕ)) → walk at e p ≡ Some f
    → walk at e (p ++ q) ≡ walk at f q
walk_on at e f p q h = walk-append at e p q ∙ ap (option_and_then (λ f. walk at f q)) h

-- two names are one or not
pub same_name : (a b : List ℕ) → (a ≡ b) ⊎ (a ≢ b)
same_name [] [] = inl refl
same_name [] (y ∷ b) = inr (λ h. cc)
same_name (x ∷ a) [] = inr (λ h. cc)
same_name (x ∷ a) (y ∷ b) = ⊎_elim
    (λ e. ⊎_elim (λ h. inl (cc)) (λ n. inr (λ h. n (cc))) (same_name a b))
    (λ n. inr (λ h. n (cc)))
    (cases_eq x y)

-- two directories and names are one or not
pub same_entry : (n m : ℕ) (y x : List ℕ) → ((n ≡ m) × (y ≡ x)) ⊎ ((n ≡ m) × (y ≡ x) → ⊥)
same_entry n m y x = ⊎_elim
    (λ e. ⊎_elim (λ h. inl (e, h)) (λ n. inr (λ h. n h.1)) (same_name y x))
    (λ n. inr (λ h. n h.0))
    (cases_eq n m)

-- a path is empty, or it has a last name
pub last_name : (p : List (List ℕ)) → (p ≡ []) ⊎ ((q : List (List ℕ)) × (x : List ℕ) × (p ≡ q ++ x ∷ []))
last_name [] = inl refl
last_name (x ∷ p) = ⊎_elim
    (λ h. inr ([], x, ap (λ l. x ∷ l) h))
    (λ h. inr (x ∷ h.0, h.1, ap (λ l. x ∷ l) h.2))
    (last_name p)

-- the entry of the last name of a walk
pub last_step : (at : DirectoryEntries) (e : ℕ × ℕ) (q : List (List ℕ)) (x : List ℕ) (n c : ℕ)
    → walk at e (q ++ x ∷ []) ≡ Some (n, c)
    → (d : ℕ) × (b : ℕ) × (walk at e q ≡ Some (d, b)) × (at d x ≡ Some (n, c))
last_step at e q x n c h = by (walk at e q) refl
  where
    one : (f : ℕ × ℕ) → walk at f (x ∷ []) ≡ Some (n, c) → at f.0 x ≡ Some (n, c)
    one f g = elim (at f.0 x) as (λ o. option_and_then (λ f. walk at f []) o ≡ Some (n, c)
        → o ≡ Some (n, c)) [ None ↦ λ k. k | Some v ↦ λ k. k ] g

    by : (o : Option (ℕ × ℕ)) → walk at e q ≡ o
        → (d : ℕ) × (b : ℕ) × (walk at e q ≡ Some (d, b)) × (at d x ≡ Some (n, c))
    by None k = absurd (none_some (sym (walk-append at e q (x ∷ [])
        ∙ ap (option_and_then (λ f. walk at f (x ∷ []))) k) ∙ h))
    by (Some f) k = (
      f.0,
      f.1,
      k,
      one f (sym (walk-append at e q (x ∷ [])
          ∙ ap (option_and_then (λ f. walk at f (x ∷ []))) k) ∙ h),
    )

-- what lies beyond a name in a directory
pub step : (at : DirectoryEntries) (p r : List (List ℕ)) (x : List ℕ) (d c : ℕ) → path_at at p ≡ Some (d, c)
    → path_at at ((p ++ x ∷ []) ++ r) ≡ option_and_then (λ f. walk at f r) (at d x)
step at p r x d c h = ap (path_at at) (append_assoc p (x ∷ []) r) ∙ walk_on at (1, 0) (d, c) p (x ∷ r) h

-- the path with a name at its end leads to what the directory has there
pub step_last : (at : DirectoryEntries) (p : List (List ℕ)) (x : List ℕ) (d c : ℕ)
    → path_at at p ≡ Some (d, c) → path_at at (p ++ x ∷ []) ≡ at d x
step_last at p x d c h =
    ap (path_at at) (sym (append-nil (p ++ x ∷ []))) ∙ step at p [] x d c h
    ∙ elim (at d x) as (λ o. option_and_then (λ f. walk at f []) o ≡ o) [ None ↦ refl | Some f ↦ refl ]

-- a walk that doesn't pass the entry that changes is as it was
pub walk_apart : (at to : DirectoryEntries) (d : ℕ) (x : List ℕ) (o : Option (ℕ × ℕ))
    → ChangesEntry at to d x o → (e : ℕ × ℕ) (p : List (List ℕ))
    → ((q r : List (List ℕ)) (c : ℕ) → walk at e q ≡ Some (d, c) → p ≢ q ++ x ∷ r) → walk to e p ≡ walk at e p
walk_apart at to d x o change e p not = walk_same at to e p (λ q r y f split reached. ⊎_elim
    (λ same. absurd (not q r f.1 (reached ∙ ap (λ n. Some (n, f.1)) same.0)
    (split ∙ ap (λ z. q ++ z ∷ r) same.1)))
    (λ apart. change.rest f.0 y apart)
    (same_entry f.0 d y x))
