-- The way up from a directory: what it passes is what is above.
-- Serves: above_is_by_paths; renaming_moves_paths and trees_stay_trees.
use Rattle.std.proofs.Common.{◌≡◌, ◌≢◌, ⊎_elim, ℕ, zero, suc, ◌≤◌, true, false, List, [], ◌∷◌, ◌++◌, length}
use Rattle.std.proofs.Common.{Option, Some, None, IsSome, is_some, option_and_then, ◌||◌, refl, sym, ap}
use Rattle.std.proofs.Common.{subst, ◌∙◌, arith, length-append, eqb, eq-eqb}
use Rattle.std.proofs.lemmas.Bool.{cases_eq, eqb-true, or_left, or_right, or_cases}
use Rattle.std.proofs.lemmas.Map.Keys.{IsDistinct-cons}
use Rattle.std.proofs.lemmas.Map.Steps.{length-le_from_keys}
use Rattle.std.specs.List.{IsDistinct, AllByRecursion, list_any}
use Rattle.std.specs.Option.{option_map_or}
use Rattle.std.specs.Ordering.{nat_cmp, eq_by_cmp}
use Rattle.std.specs.Cmp.{nat_cmp_total, eq_by_cmp_equiv}
use Rattle.std.specs.FinMap as finite
use Rattle.nfs_spec.specs.fs_spec.Paths.{DirectoryEntries, walk, path_at, IsAbove}
use Rattle.nfs_spec.specs.fs_spec.Files.{Files, file_at, IsDirectory, directory_entries, parent_of}
use Rattle.nfs_spec.specs.fs_spec.Trees.{IsFileTree}
use Rattle.nfs_spec.proofs.fs_spec.Walks.{none_some, one_number, walk_on, last_name, last_step}
use Rattle.nfs_spec.proofs.fs_spec.Counts.{find_lookup}
use Rattle.nfs_spec.proofs.fs_spec.OnePath.{one_path}
use Rattle.nfs_spec.proofs.fs_spec.Parents.{root_parent}
use Rattle.nfs_spec.specs.fs_spec.Changes.Limits.{file_count}
use Rattle.nfs_spec.proofs.fs_spec.OfChanges.Finite.{cmp_other}
use Rattle.nfs_spec.specs.Procedures.{climbs_to, is_above}

-- the numbers along a walk
trail : DirectoryEntries → ℕ × ℕ → List (List ℕ) → List ℕ
trail at e [] = []
trail at e (y ∷ p) = option_map_or (λ f. f.0 ∷ trail at f p) (at e.0 y) []

trail-next : (at : DirectoryEntries) (e f : ℕ × ℕ) (y : List ℕ) (p : List (List ℕ)) → at e.0 y ≡ Some f
    → trail at e (y ∷ p) ≡ f.0 ∷ trail at f p
unfolding trail
trail-next at e f y p h = ap (λ o. option_map_or (λ f. f.0 ∷ trail at f p) o []) h

-- a walk that goes on goes through an entry
first_step : (at : DirectoryEntries) (e : ℕ × ℕ) (y : List ℕ) (p : List (List ℕ)) (n c : ℕ)
    → walk at e (y ∷ p) ≡ Some (n, c) → (f : ℕ × ℕ) × (at e.0 y ≡ Some f) × (walk at f p ≡ Some (n, c))
first_step at e y p n c h = by (at e.0 y) refl
  where
    by : (o : Option (ℕ × ℕ)) → at e.0 y ≡ o → (f : ℕ × ℕ) × (at e.0 y ≡ Some f) × (walk at f p ≡ Some (n, c))
    by None k = absurd (none_some (sym (ap (option_and_then (λ f. walk at f p)) k) ∙ h))
    by (Some f) k = (f, k, sym (ap (option_and_then (λ f. walk at f p)) k) ∙ h)

length-trail : (at : DirectoryEntries) (e : ℕ × ℕ) (p : List (List ℕ)) (n c : ℕ) → walk at e p ≡ Some (n, c)
    → length (trail at e p) ≡ length p
unfolding trail
length-trail at e [] n c h = refl
length-trail at e (y ∷ p) n c h = let s = first_step at e y p n c h in ap length (trail-next at e s.0 y p s.1)
    ∙ ap suc (length-trail at s.0 p n c s.2)

module _ (w : Files) (tree : IsFileTree w) where
  -- each number on the way to a directory is one
  pub on_way : (f : ℕ × ℕ) (p : List (List ℕ)) (n c : ℕ) → walk (directory_entries w) f p ≡ Some (n, c)
      → IsDirectory w n
      → IsDirectory w f.0
  on_way f [] n c h is = subst (IsDirectory w) (sym (one_number f.0 f.1 n c h)) is
  on_way f (y ∷ p) n c h is = let s = first_step (directory_entries w) f y p n c h in
      tree.tree.lists f.0 y s.0.0 s.0.1 s.1

  -- a number is not on the way from a longer path
  apart_trail : (m c : ℕ) (pm : List (List ℕ)) → IsDirectory w m
      → path_at (directory_entries w) pm ≡ Some (m, c)
      → (q : List (List ℕ)) (e : ℕ × ℕ) → path_at (directory_entries w) q ≡ Some e → length pm ≤ length q
      → (p : List (List ℕ)) (n d : ℕ) → walk (directory_entries w) e p ≡ Some (n, d) → IsDirectory w n
      → AllByRecursion (λ z. eq_by_cmp nat_cmp m z ≡ false) (trail (directory_entries w) e p)
  unfolding trail
  apart_trail m c pm is at_m q e at_q le [] n d h last = tt
  apart_trail m c pm is at_m q e at_q le (y ∷ p) n d h last =
      let s = first_step (directory_entries w) e y p n d h in
      let at_next : path_at (directory_entries w) (q ++ y ∷ []) ≡ Some s.0 =
      walk_on (directory_entries w) (1, 0) e q (y ∷ []) at_q
      ∙ ap (option_and_then (λ f. walk (directory_entries w) f [])) s.1 in
      let long = length-append q (y ∷ []) in
      subst (AllByRecursion (λ z. eq_by_cmp nat_cmp m z ≡ false))
      (sym (trail-next (directory_entries w) e s.0 y p s.1)) (
        cmp_other m s.0.0 (λ same. absurd (omega (
          arith,
          long,
          le,
          ap length (one_path w tree pm (q ++ y ∷ []) m c s.0.1 is at_m
              (at_next ∙ ap (λ k. Some (k, s.0.1)) (sym same))),
        ))),
        apart_trail m c pm is at_m (q ++ y ∷ []) s.0 at_next (omega arith) p n d s.2 last,
      )

  distinct_trail : (q : List (List ℕ)) (e : ℕ × ℕ) → path_at (directory_entries w) q ≡ Some e
      → (p : List (List ℕ)) (n d : ℕ) → walk (directory_entries w) e p ≡ Some (n, d) → IsDirectory w n
      → IsDistinct (eq_by_cmp nat_cmp) (trail (directory_entries w) e p)
  unfolding trail IsDistinct
  distinct_trail q e at_q [] n d h last = tt
  distinct_trail q e at_q (y ∷ p) n d h last =
      let s = first_step (directory_entries w) e y p n d h in
      let at_next : path_at (directory_entries w) (q ++ y ∷ []) ≡ Some s.0 =
      walk_on (directory_entries w) (1, 0) e q (y ∷ []) at_q
      ∙ ap (option_and_then (λ f. walk (directory_entries w) f [])) s.1 in
      subst (IsDistinct (eq_by_cmp nat_cmp)) (sym (trail-next (directory_entries w) e s.0 y p s.1))
      (IsDistinct-cons (eq_by_cmp nat_cmp) s.0.0 (trail (directory_entries w) s.0 p)
      (apart_trail s.0.0 s.0.1 (q ++ y ∷ []) (on_way s.0 p n d s.2 last) at_next (q ++ y ∷ []) s.0 at_next
      (omega arith) p n d s.2 last)
      (distinct_trail (q ++ y ∷ []) s.0 at_next p n d s.2 last))

  -- what is on the way is there
  there_trail : (e : ℕ × ℕ) (p : List (List ℕ)) (n d : ℕ) → walk (directory_entries w) e p ≡ Some (n, d)
      → (m : ℕ)
      → list_any (eq_by_cmp nat_cmp m) (trail (directory_entries w) e p) ≡ true → IsSome (file_at w m)
  unfolding trail
  there_trail e [] n d h m any = absurd (tf any)
    where
      tf : false ≡ true → ⊥
      tf h = cc
  there_trail e (y ∷ p) n d h m any =
      let s = first_step (directory_entries w) e y p n d h in
      ⊎_elim
      (λ same. subst (λ k. IsSome (file_at w k)) (sym same) (tree.tree.named e.0 y s.0.0 s.0.1 s.1))
      (λ other. there_trail s.0 p n d s.2 m
      (ap (λ b. b || list_any (eq_by_cmp nat_cmp m) (trail (directory_entries w) s.0 p))
      (sym (cmp_other m s.0.0 other))
      ∙ sym (ap (list_any (eq_by_cmp nat_cmp m)) (trail-next (directory_entries w) e s.0 y p s.1)) ∙ any))
      (cases_eq m s.0.0)

  -- a path to a directory has no more names than there are files
  pub path_length : (p : List (List ℕ)) (n c : ℕ) → IsDirectory w n
      → path_at (directory_entries w) p ≡ Some (n, c)
      → length p ≤ file_count w
  path_length p n c is h =
      let all = length-le_from_keys (eq_by_cmp_equiv nat_cmp_total) (trail (directory_entries w) (1, 0) p)
      (finite.entries w.files)
      (distinct_trail [] (1, 0) refl p n c h is)
      (λ q any. ap is_some (sym (find_lookup q (finite.entries w.files)) ∙ sym (finite.get-entries w.files q))
      ∙ there_trail (1, 0) p n c h q any) in
      omega (arith, all, length-trail (directory_entries w) (1, 0) p n c h, finite.len-entries w.files)

  climbs : (k : ℕ) (s sc : ℕ) (r : List (List ℕ)) (dir c : ℕ) → length r ≤ k → IsDirectory w dir
      → walk (directory_entries w) (s, sc) r ≡ Some (dir, c) → climbs_to k w s dir ≡ true
  climbs zero s sc r dir c le is h = ⊎_elim
      (λ e. eq-eqb s dir (one_number s sc dir c (sym (ap (walk (directory_entries w) (s, sc)) e) ∙ h)))
      (λ l. absurd (omega (arith, le, ap length l.2, length-append l.0 (l.1 ∷ []))))
      (last_name r)
  climbs (suc k) s sc r dir c le is h = ⊎_elim
      (λ e. or_left (eqb s dir) (climbs_to k w s (parent_of w dir))
      (eq-eqb s dir (one_number s sc dir c (sym (ap (walk (directory_entries w) (s, sc)) e) ∙ h))))
      (λ l.
      let t = last_step (directory_entries w) (s, sc) l.0 l.1 dir c
      (sym (ap (walk (directory_entries w) (s, sc)) l.2) ∙ h) in
      let up = tree.tree.up t.0 l.1 dir c t.3 is in
      or_right (eqb s dir) (climbs_to k w s (parent_of w dir))
      (ap (climbs_to k w s) up
      ∙ climbs k s sc l.0 t.0 t.1 (omega (arith, le, ap length l.2, length-append l.0 (l.1 ∷ [])))
      (tree.tree.lists t.0 l.1 dir c t.3) t.2))
      (last_name r)

  -- what a walk leads down from is above
  pub above_found : (s sc : ℕ) (r : List (List ℕ)) (dir c : ℕ) → IsDirectory w dir
      → walk (directory_entries w) (s, sc) r ≡ Some (dir, c) → is_above w s dir ≡ true
  above_found s sc r dir c is h =
      let top = tree.tree.reached s (on_way (s, sc) r dir c h is) in
      let whole : (b : ℕ) × (path_at (directory_entries w) (top.0 ++ r) ≡ Some (dir, b)) =
      on_path s sc top.1 top.0 r dir c top.2 h in
      climbs (file_count w) s sc r dir c
      (omega (arith, path_length (top.0 ++ r) dir whole.0 is whole.1, length-append top.0 r)) is h
    where
      -- where a walk begins, its cookie says nothing of where it ends
      on_path : (s sc tc : ℕ) (p r : List (List ℕ)) (dir c : ℕ)
          → path_at (directory_entries w) p ≡ Some (s, tc)
          → walk (directory_entries w) (s, sc) r ≡ Some (dir, c)
          → (b : ℕ) × (path_at (directory_entries w) (p ++ r) ≡ Some (dir, b))
      on_path s sc tc p [] dir c at h = (
        tc,
        walk_on (directory_entries w) (1, 0) (s, tc) p [] at
            ∙ ap (λ n. Some (n, tc)) (one_number s sc dir c h),
      )
      on_path s sc tc p (y ∷ r) dir c at h =
          (c, walk_on (directory_entries w) (1, 0) (s, tc) p (y ∷ r) at ∙ h)

  -- and what is above is led down from
  pub led_down : (k s dir : ℕ) → IsDirectory w dir → climbs_to k w s dir ≡ true
      → IsAbove (directory_entries w) s dir
  led_down zero s dir is h = ([], 0, ap (λ n. Some (n, 0)) (eqb-true s dir h))
  led_down (suc k) s dir is h = ⊎_elim
      (λ e. ([], 0, ap (λ n. Some (n, 0)) (eqb-true s dir e)))
      (λ up. ⊎_elim
      (λ root. ⊎_elim
      (λ e. ([], 0, ap (λ n. Some (n, 0)) (eqb-true s dir e)))
      (λ e. led_down k s dir is (ap (climbs_to k w s) (root ∙ sym (root_parent w dir root)) ∙ up))
      (or_cases (eqb s dir) (climbs_to k w s (parent_of w dir)) h))
      (λ not.
      let r = tree.tree.reached dir is in
      by_last dir is not r.0 r.1 r.2 (λ parent_is. led_down k s (parent_of w dir) parent_is up))
      (cases_eq dir 1))
      (or_cases (eqb s dir) (climbs_to k w s (parent_of w dir)) h)
    where
      one_more : (q : List (List ℕ)) (x : List ℕ) (d parent b dir c : ℕ) → parent ≡ d
          → walk (directory_entries w) (s, 0) q ≡ Some (parent, b) → directory_entries w d x ≡ Some (dir, c)
          → walk (directory_entries w) (s, 0) (q ++ x ∷ []) ≡ Some (dir, c)
      one_more q x d parent b dir c up at h = walk_on (directory_entries w) (s, 0) (parent, b) q (x ∷ []) at
          ∙ ap (option_and_then (λ f. walk (directory_entries w) f []))
          (ap (λ m. directory_entries w m x) up ∙ h)

      by_last : (dir : ℕ) → IsDirectory w dir → dir ≢ 1 → (p : List (List ℕ)) (c : ℕ)
          → path_at (directory_entries w) p ≡ Some (dir, c)
          → (IsDirectory w (parent_of w dir) → IsAbove (directory_entries w) s (parent_of w dir))
          → IsAbove (directory_entries w) s dir
      by_last dir is not p c at next = ⊎_elim
          (λ e. absurd (not (one_number dir c 1 0 (sym at ∙ ap (path_at (directory_entries w)) e))))
          (λ l.
          let t = last_step (directory_entries w) (1, 0) l.0 l.1 dir c
          (sym (ap (path_at (directory_entries w)) l.2) ∙ at) in
          let up = tree.tree.up t.0 l.1 dir c t.3 is in
          let a = next (subst (IsDirectory w) (sym up) (tree.tree.lists t.0 l.1 dir c t.3)) in
          (a.0 ++ l.1 ∷ [], c, one_more a.0 l.1 t.0 (parent_of w dir) a.1 dir c up a.2 t.3))
          (last_name p)
