-- What the changes of a tree do to its paths.
-- Serves: making_adds_a_path, removing_takes_a_path, renaming_moves_paths (nfs_laws).
use Rattle.std.proofs.Common.{◌≡◌, ◌≢◌, ◌⊎◌, inl, inr, ⊎_elim, ℕ, List, [], ◌∷◌, ◌++◌, length, Option, Some}
use Rattle.std.proofs.Common.{None, is_some, option_and_then, option_map, refl, sym, ap, subst, ◌∙◌}
use Rattle.std.proofs.Common.{append_assoc, append-nil, length-append, arith}
use Rattle.fs_spec.specs.Paths.{DirectoryEntries, walk, path_at, HasOnePathEach, AddsPath, TakesPath}
use Rattle.fs_spec.specs.Paths.{Renames}
use Rattle.fs_spec.specs.Paths.{ChangesEntry}
use Rattle.fs_spec.proofs.Walks.{walk_same, same_name, same_entry, step, step_last}

-- a path does not go on to itself
pub no_return : (p q r : List (List ℕ)) (x : List ℕ) → p ≢ (p ++ x ∷ q) ++ r
no_return p q r x h =
    absurd (omega (arith, ap length h, length-append (p ++ x ∷ q) r, length-append p (x ∷ q)))

-- a path begins with another, or does not
pub begins : (to p : List (List ℕ))
    → ((r : List (List ℕ)) × (p ≡ to ++ r)) ⊎ ((r : List (List ℕ)) → p ≢ to ++ r)
begins [] p = inl (p, refl)
begins (x ∷ to) [] = inr (λ r h. cc)
begins (x ∷ to) (y ∷ p) = ⊎_elim
    (λ e. ⊎_elim (λ h. inl (h.0, cc (h.1))) (λ n. inr (λ r h. n r (cc))) (begins to p))
    (λ n. inr (λ r h. n (cc)))
    (same_name x y)

-- two paths are one or not
pub same_path : (p q : List (List ℕ)) → (p ≡ q) ⊎ (p ≢ q)
same_path [] [] = inl refl
same_path [] (y ∷ q) = inr (λ h. cc)
same_path (x ∷ p) [] = inr (λ h. cc)
same_path (x ∷ p) (y ∷ q) = ⊎_elim
    (λ e. ⊎_elim (λ h. inl (cc)) (λ n. inr (λ h. n (cc))) (same_path p q))
    (λ n. inr (λ h. n (cc)))
    (same_name x y)

-- a path is as it was where each change is of an entry that it does not pass
pub unpassed : (at to : DirectoryEntries) (p : List (List ℕ))
    → ((n : ℕ) (y : List ℕ) → (to n y ≡ at n y)
    ⊎ ((q r : List (List ℕ)) (c : ℕ) → path_at at q ≡ Some (n, c) → p ≢ q ++ y ∷ r))
    → path_at to p ≡ path_at at p
unpassed at to p h =
    walk_same at to (1, 0) p
    (λ q r y f split reached. ⊎_elim (λ e. e) (λ n. absurd (n q r f.1 reached split)) (h f.0 y))

-- one path, for each name after it
module _ (at : DirectoryEntries) (IsDirectory : ℕ → Type 0) (once : HasOnePathEach IsDirectory at)
    (path : List (List ℕ)) (d c : ℕ) (x : List ℕ) (is_dir : IsDirectory d)
    (is_at : path_at at path ≡ Some (d, c))
    (to : DirectoryEntries) (o : Option (ℕ × ℕ)) (change : ChangesEntry at to d x o) where
  -- a path that doesn't pass the changed entry is as it was
  pub apart : (p : List (List ℕ)) → ((r : List (List ℕ)) → p ≢ (path ++ x ∷ []) ++ r)
      → path_at to p ≡ path_at at p
  apart p not = unpassed at to p (λ n y. ⊎_elim
      (λ e. inr (λ q r c' reached split. not r
      (split ∙ (λ i. once q path d c' c is_dir
      (subst (λ m. path_at at q ≡ Some (m, c')) e.0 reached) is_at i ++ e.1 i ∷ r)
      ∙ sym (append_assoc path (x ∷ []) r))))
      (λ n₁. inl (change.rest n y n₁))
      (same_entry n d y x))

  -- the path of the changed directory stays
  pub own_kept : path_at to path ≡ Some (d, c)
  own_kept = apart path (λ r. no_return path [] r x) ∙ is_at

  -- a path through the changed entry goes on from what is there
  pub through : (r : List (List ℕ))
      → path_at to ((path ++ x ∷ []) ++ r) ≡ option_and_then (λ f. walk to f r) o
  through r = step to path r x d c own_kept ∙ ap (option_and_then (λ f. walk to f r)) change.here

-- a walk from where nothing is goes no further
stuck : (at : DirectoryEntries) (e : ℕ × ℕ) (r : List (List ℕ)) → ((y : List ℕ) → at e.0 y ≡ None) → r ≢ []
    → walk at e r ≡ None
stuck at e [] h some = absurd (some refl)
stuck at e (y ∷ r) h some = ap (option_and_then (λ f. walk at f r)) (h y)

module _ (at : DirectoryEntries) (IsDirectory : ℕ → Type 0) (once : HasOnePathEach IsDirectory at)
    (path : List (List ℕ)) (d c : ℕ) (x : List ℕ) (is_dir : IsDirectory d)
    (is_at : path_at at path ≡ Some (d, c))
    (to : DirectoryEntries) where
  -- one new name of something that has no names below
  pub adds : (k cookie : ℕ) → ChangesEntry at to d x (Some (k, cookie)) → at d x ≡ None
      → ((y : List ℕ) → to k y ≡ None)
      → AddsPath (path_at at) (path_at to) (path ++ x ∷ []) k cookie
  adds k cookie change free empty = record {
    free = step_last at path x d c is_at ∙ free;
    added = ap (path_at to) (sym (append-nil (path ++ x ∷ [])))
        ∙ through at IsDirectory once path d c x is_dir is_at to (Some (k, cookie)) change [];
    others = λ p not. ⊎_elim
        (λ b. ap (path_at to) b.1
        ∙ through at IsDirectory once path d c x is_dir is_at to (Some (k, cookie)) change b.0
        ∙ stuck to (k, cookie) b.0 empty
        (λ e. not (b.1 ∙ ap (λ r. (path ++ x ∷ []) ++ r) e ∙ append-nil (path ++ x ∷ [])))
        ∙ sym (ap (path_at at) b.1 ∙ step at path b.0 x d c is_at
        ∙ ap (option_and_then (λ f. walk at f b.0)) free))
        (λ n. apart at IsDirectory once path d c x is_dir is_at to (Some (k, cookie)) change p n)
        (begins (path ++ x ∷ []) p);
  }

  -- one name less, of something that has no names below
  pub takes : (k cookie : ℕ) → ChangesEntry at to d x None → at d x ≡ Some (k, cookie)
      → ((y : List ℕ) → at k y ≡ None)
      → TakesPath (path_at at) (path_at to) (path ++ x ∷ [])
  takes k cookie change had empty = record {
    had = ap is_some (step_last at path x d c is_at ∙ had);
    gone = ap (path_at to) (sym (append-nil (path ++ x ∷ [])))
        ∙ through at IsDirectory once path d c x is_dir is_at to None change [];
    others = λ p not. ⊎_elim
        (λ b. ap (path_at to) b.1 ∙ through at IsDirectory once path d c x is_dir is_at to None change b.0
        ∙ sym (stuck at (k, cookie) b.0 empty
        (λ e. not (b.1 ∙ ap (λ r. (path ++ x ∷ []) ++ r) e ∙ append-nil (path ++ x ∷ []))))
        ∙ sym (ap (path_at at) b.1 ∙ step at path b.0 x d c is_at
        ∙ ap (option_and_then (λ f. walk at f b.0)) had))
        (λ n. apart at IsDirectory once path d c x is_dir is_at to None change p n)
        (begins (path ++ x ∷ []) p);
  }

module _ (at to : DirectoryEntries) (IsDirectory : ℕ → Type 0) (once : HasOnePathEach IsDirectory at)
    (p₁ p₂ : List (List ℕ)) (d₁ c₁ d₂ c₂ : ℕ) (x₁ x₂ : List ℕ) (s sc cookie : ℕ)
    (dir₁ : IsDirectory d₁) (at₁ : path_at at p₁ ≡ Some (d₁, c₁)) (dir₂ : IsDirectory d₂)
    (at₂ : path_at at p₂ ≡ Some (d₂, c₂))
    (source : at d₁ x₁ ≡ Some (s, sc))
    (not_above : (r : List (List ℕ)) (c : ℕ) → walk at (s, sc) r ≢ Some (d₂, c))
    (target : (t c : ℕ) → at d₂ x₂ ≡ Some (t, c) → (y : List ℕ) → at t y ≡ None)
    (put : to d₂ x₂ ≡ Some (s, cookie))
    (taken : to d₁ x₁ ≡ None)
    (rest : (n : ℕ) (y : List ℕ) → ((n ≡ d₁) × (y ≡ x₁) → ⊥) → ((n ≡ d₂) × (y ≡ x₂) → ⊥)
    → to n y ≡ at n y) where
  kept : (p : List (List ℕ)) → ((r : List (List ℕ)) → p ≢ (p₂ ++ x₂ ∷ []) ++ r)
      → ((r : List (List ℕ)) → p ≢ (p₁ ++ x₁ ∷ []) ++ r) → path_at to p ≡ path_at at p
  kept p not_to not_from = unpassed at to p (λ n y. ⊎_elim
      (λ e. inr (λ q r c reached split. not_from r
      (split ∙ (λ i. once q p₁ d₁ c c₁ dir₁ (subst (λ m. path_at at q ≡ Some (m, c)) e.0 reached) at₁ i
      ++ e.1 i ∷ r) ∙ sym (append_assoc p₁ (x₁ ∷ []) r))))
      (λ n₁. ⊎_elim
      (λ e. inr (λ q r c reached split. not_to r
      (split ∙ (λ i. once q p₂ d₂ c c₂ dir₂ (subst (λ m. path_at at q ≡ Some (m, c)) e.0 reached) at₂ i
      ++ e.1 i ∷ r) ∙ sym (append_assoc p₂ (x₂ ∷ []) r))))
      (λ n₂. inl (rest n y n₁ n₂))
      (same_entry n d₂ y x₂))
      (same_entry n d₁ y x₁))

  -- nothing is below the target
  under_target : (r : List (List ℕ)) (t c : ℕ) → at d₂ x₂ ≡ Some (t, c) → (f : ℕ × ℕ)
      → walk at (t, c) r ≡ Some f → (f.0 ≡ t) × (r ≡ [])
  under_target [] t c e f h = (cc, refl)
  under_target (y ∷ r) t c e f h =
      absurd (none_some (sym (ap (option_and_then (λ f. walk at f r)) (target t c e y)) ∙ h))
    where
      none_some : {A : Type 0} {a : A} → None ≡ Some a → ⊥
      none_some h = cc

  p₁_kept : path_at to p₁ ≡ Some (d₁, c₁)
  p₁_kept = kept p₁ (λ r split. by_target r split (at d₂ x₂) refl) (λ r. no_return p₁ [] r x₁) ∙ at₁
    where
      by_target : (r : List (List ℕ)) → p₁ ≡ (p₂ ++ x₂ ∷ []) ++ r → (o : Option (ℕ × ℕ)) → at d₂ x₂ ≡ o → ⊥
      by_target r split None e = let h =
          sym (ap (option_and_then (λ f. walk at f r)) e) ∙ sym (step at p₂ r x₂ d₂ c₂ at₂)
          ∙ ap (path_at at) (sym split) ∙ at₁ in cc
      by_target r split (Some t) e =
          let h = sym (ap (option_and_then (λ f. walk at f r)) e) ∙ sym (step at p₂ r x₂ d₂ c₂ at₂)
          ∙ ap (path_at at) (sym split) ∙ at₁ in
          let u = under_target r t.0 t.1 e (d₁, c₁) h in
          let v : at d₁ x₁ ≡ None = ap (λ n. at n x₁) u.0 ∙ target t.0 t.1 e x₁ in
          cc

  p₂_kept : path_at to p₂ ≡ Some (d₂, c₂)
  p₂_kept = kept p₂
      (λ r. no_return p₂ [] r x₂)
      (λ r split. not_above r c₂
      (sym (step at p₁ r x₁ d₁ c₁ at₁ ∙ ap (option_and_then (λ f. walk at f r)) source)
      ∙ ap (path_at at) (sym split) ∙ at₂)) ∙ at₂

  -- below the source nothing changes
  under_source : (r : List (List ℕ)) → walk to (s, sc) r ≡ walk at (s, sc) r
  under_source r = walk_same at to (s, sc) r (λ q r y f split reached. ⊎_elim
      (λ e. absurd (no_return p₁ [] q x₁ (once p₁ ((p₁ ++ x₁ ∷ []) ++ q) d₁ c₁ f.1 dir₁ at₁
      (step at p₁ q x₁ d₁ c₁ at₁ ∙ ap (option_and_then (λ f. walk at f q)) source ∙ reached
      ∙ ap (λ n. Some (n, f.1)) e.0))))
      (λ n₁. ⊎_elim
      (λ e. absurd (not_above q f.1 (reached ∙ ap (λ n. Some (n, f.1)) e.0)))
      (λ n₂. rest f.0 y n₁ n₂)
      (same_entry f.0 d₂ y x₂))
      (same_entry f.0 d₁ y x₁))

  -- the paths after a move, by those before
  pub renames : Renames (path_at at) (path_at to) (p₁ ++ x₁ ∷ []) (p₂ ++ x₂ ∷ []) cookie
  renames = record {
    had = ap is_some (step_last at p₁ x₁ d₁ c₁ at₁ ∙ source);
    moved = step_last to p₂ x₂ d₂ c₂ p₂_kept ∙ put
        ∙ sym (ap (option_map (λ e. (e.0, cookie))) (step_last at p₁ x₁ d₁ c₁ at₁ ∙ source));
    below = λ r some. below_at r some;
    gone = λ r n. step to p₁ r x₁ d₁ c₁ p₁_kept ∙ ap (option_and_then (λ f. walk to f r)) taken;
    others = kept;
  }
    where
      below_at : (r : List (List ℕ)) → r ≢ []
          → path_at to ((p₂ ++ x₂ ∷ []) ++ r) ≡ path_at at ((p₁ ++ x₁ ∷ []) ++ r)
      below_at [] some = absurd (some refl)
      below_at (y ∷ r) some =
          step to p₂ (y ∷ r) x₂ d₂ c₂ p₂_kept ∙ ap (option_and_then (λ f. walk to f (y ∷ r))) put
          ∙ under_source (y ∷ r)
          ∙ sym (step at p₁ (y ∷ r) x₁ d₁ c₁ at₁ ∙ ap (option_and_then (λ f. walk at f (y ∷ r))) source)
