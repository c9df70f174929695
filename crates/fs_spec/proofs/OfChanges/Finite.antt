-- Files after a change, by their numbers, and sums over all files.
-- Serves: the lemmas of all edits here and in nfs_laws (trees, changes, frames).
use Rattle.std.proofs.Common.{◌≡◌, ◌≢◌, ℕ, ◌+◌, ◌≤◌, Bool, true, false, cond, not, T, List, [], ◌∷◌, sum_by}
use Rattle.std.proofs.Common.{Option, Some, None, option_map, refl, sym, ap, ◌∙◌, arith, Ordering, Less}
use Rattle.std.proofs.Common.{Equal, Greater}
use Rattle.std.specs.Option.{option_map_or}
use Rattle.std.specs.Ordering.{nat_cmp, eq_by_cmp, is_eq, is_lt}
use Rattle.std.specs.Cmp.{nat_cmp_total, eq_by_cmp_equiv}
use Rattle.std.specs.FinMap as finite
use Rattle.std.specs.FinMap.Entries.{by_order, put, find, where_key, below_all, is_sorted}
use Rattle.std.specs.FinMap.Entries.{is_sorted-where_key, find-where_key, same_entries}
use Rattle.std.proofs.lemmas.List.Sums.{sum_by-cons}
use Rattle.fs_spec.specs.Files.{File, Files, file_at}
use Rattle.fs_spec.specs.Changes.Edits.{with_new_file, with_changed_file, without_file}
use Rattle.fs_spec.proofs.Counts.{same_number, sum_by_second}
use Rattle.fs_spec.proofs.Reached.{both_of}

-- a number compares as equal with itself
pub cmp_same : (q k : ℕ) → q ≡ k → eq_by_cmp nat_cmp q k ≡ true
cmp_same q k e = ap (λ m. eq_by_cmp nat_cmp q m) (sym e) ∙ (eq_by_cmp_equiv nat_cmp_total).refl q

-- and with no other
pub cmp_other : (q k : ℕ) → q ≢ k → eq_by_cmp nat_cmp q k ≡ false
cmp_other q k not = by (eq_by_cmp nat_cmp q k) refl
  where
    by : (b : Bool) → eq_by_cmp nat_cmp q k ≡ b → eq_by_cmp nat_cmp q k ≡ false
    by false e = e
    by true e = absurd (not (same_number q k e))

-- ---- files by their numbers

module _ (w : Files) (f : File) (n : ℕ) where
  -- the new number has the new file
  pub new_here : n ≡ w.next → file_at (with_new_file w f) n ≡ Some f
  new_here e =
      finite.get-insert nat_cmp_total w.files w.next f n
      ∙ ap (λ b. cond b (Some f) (file_at w n)) (cmp_same n w.next e)

  -- other numbers have what they had
  pub new_other : n ≢ w.next → file_at (with_new_file w f) n ≡ file_at w n
  new_other e =
      finite.get-insert nat_cmp_total w.files w.next f n
      ∙ ap (λ b. cond b (Some f) (file_at w n)) (cmp_other n w.next e)

-- the files with a change of what stands at a number, by what stands there
unfoldable pub by_file : Files → ℕ → (File → File) → Option File → Files
by_file w k change o = record w { files = option_map_or (λ f. finite.insert w.files k (change f)) o w.files }

module _ (w : Files) (k : ℕ) (change : File → File) (n : ℕ) where
  -- the next number stays
  pub changed_next : (with_changed_file w k change).next ≡ w.next
  unfolding by_file
  changed_next = by (file_at w k)
    where
      by : (o : Option File) → (by_file w k change o).next ≡ w.next
      by None = refl
      by (Some f) = refl

  -- a change of what is not there changes nothing
  pub nothing_changes : file_at w k ≡ None → with_changed_file w k change ≡ w
  unfolding by_file
  nothing_changes is = ap (by_file w k change) is

  -- the number has its file, changed
  pub changed_here : n ≡ k → file_at (with_changed_file w k change) n ≡ option_map change (file_at w k)
  unfolding by_file
  changed_here e = by (file_at w k) refl
    where
      by : (o : Option File) → file_at w k ≡ o → file_at (by_file w k change o) n ≡ option_map change o
      by None is = ap (file_at w) e ∙ is
      by (Some f) is =
          finite.get-insert nat_cmp_total w.files k (change f) n
          ∙ ap (λ b. cond b (Some (change f)) (file_at w n)) (cmp_same n k e)

  -- other numbers have what they had
  pub changed_other : n ≢ k → file_at (with_changed_file w k change) n ≡ file_at w n
  unfolding by_file
  changed_other e = by (file_at w k)
    where
      by : (o : Option File) → file_at (by_file w k change o) n ≡ file_at w n
      by None = refl
      by (Some f) =
          finite.get-insert nat_cmp_total w.files k (change f) n
          ∙ ap (λ b. cond b (Some (change f)) (file_at w n)) (cmp_other n k e)

module _ (w : Files) (k n : ℕ) where
  -- the number has no file
  pub gone_here : n ≡ k → file_at (without_file w k) n ≡ None
  gone_here e =
      finite.get-remove nat_cmp_total w.files k n ∙ ap (λ b. cond b None (file_at w n)) (cmp_same n k e)

  -- other numbers have what they had
  pub gone_other : n ≢ k → file_at (without_file w k) n ≡ file_at w n
  gone_other e =
      finite.get-remove nat_cmp_total w.files k n ∙ ap (λ b. cond b None (file_at w n)) (cmp_other n k e)

-- ---- sums

less : (r : Ordering) → T (is_lt r) → r ≡ Less
less Less h = refl
less Equal h = absurd h
less Greater h = absurd h

none_below : {X : Type 0} (x y : ℕ) → nat_cmp x y ≡ Less → (es : List (ℕ × X)) → T (below_all nat_cmp y es)
    → find nat_cmp x es ≡ None
none_below x y lt [] h = refl
none_below x y lt (e ∷ es) h =
    let b = both_of (is_lt (nat_cmp y e.0)) (below_all nat_cmp y es) h in
    ap (λ r. cond (is_eq r) (Some e.1) (find nat_cmp x es)) (nat_cmp_total.trans x y e.0 lt (less _ b.0))
    ∙ none_below x y lt es b.1

-- what is below all keys is not found
pub none_above : {X : Type 0} (x : ℕ) (es : List (ℕ × X)) → T (below_all nat_cmp x es)
    → find nat_cmp x es ≡ None
none_above x [] h = refl
none_above x (e ∷ es) h =
    let b = both_of (is_lt (nat_cmp x e.0)) (below_all nat_cmp x es) h in
    ap (λ r. cond (is_eq r) (Some e.1) (find nat_cmp x es)) (less _ b.0) ∙ none_above x es b.1

module _ {X : Type 0} (f : X → ℕ) where
  -- what an option counts
  pub had : Option X → ℕ
  had o = option_map_or f o 0

  sum_put : (k : ℕ) (v : X) (es : List (ℕ × X)) → T (is_sorted nat_cmp es)
      → sum_by (λ e. f e.1) (put nat_cmp k v es) + had (find nat_cmp k es) ≡ sum_by (λ e. f e.1) es + f v
  unfolding had
  sum_put k v [] h = omega (arith, sum_by-cons (λ (e : ℕ × X). f e.1) (k, v) [])
  sum_put k v (e ∷ es) h =
      let b = both_of (below_all nat_cmp e.0 es) (is_sorted nat_cmp es) h in
      let parts = sum_by-cons (λ (e : ℕ × X). f e.1) e es in
      elim (nat_cmp k e.0) as (λ r. nat_cmp k e.0 ≡ r
      → sum_by (λ e. f e.1) (by_order r ((k, v) ∷ e ∷ es) ((e.0, v) ∷ es)
      (e ∷ put nat_cmp k v es)) + option_map_or f (cond (is_eq r) (Some e.1) (find nat_cmp k es)) 0
      ≡ sum_by (λ e. f e.1) (e ∷ es) + f v) [
        | Less ↦ λ is.
            let none = ap (λ o. option_map_or f o 0) (none_below k e.0 is es b.0) in
            let more = sum_by-cons (λ (e : ℕ × X). f e.1) (k, v) (e ∷ es) in
            omega (arith, none, more)
        | Equal ↦ λ is. let more = sum_by-cons (λ (e : ℕ × X). f e.1) (e.0, v) es in
            omega (arith, parts, more)
        | Greater ↦ λ is.
            let more = sum_by-cons (λ (e : ℕ × X). f e.1) e (put nat_cmp k v es) in
            let rest = sum_put k v es b.1 in
            omega (arith, parts, more, rest)
      ] refl

  sum_where : (k : ℕ) (es : List (ℕ × X)) → T (is_sorted nat_cmp es)
      → sum_by (λ e. f e.1) (where_key nat_cmp (λ x. not (eq_by_cmp nat_cmp k x)) es) + had
      (find nat_cmp k es) ≡ sum_by (λ e. f e.1) es
  unfolding had
  sum_where k [] h = omega arith
  sum_where k (e ∷ es) h =
      let b = both_of (below_all nat_cmp e.0 es) (is_sorted nat_cmp es) h in
      let parts = sum_by-cons (λ (e : ℕ × X). f e.1) e es in
      let rest = sum_where k es b.1 in
      let left = where_key nat_cmp (λ x. not (eq_by_cmp nat_cmp k x)) es in
      elim (eq_by_cmp nat_cmp k e.0) as (λ t. eq_by_cmp nat_cmp k e.0 ≡ t
      → sum_by (λ e. f e.1) (cond (not t) (e ∷ left) left) + option_map_or f
      (cond t (Some e.1) (find nat_cmp k es)) 0 ≡ sum_by (λ e. f e.1) (e ∷ es)) [
        | true ↦ λ is.
            let none = ap (λ o. option_map_or f o 0)
            (ap (λ m. find nat_cmp m es) (same_number k e.0 is) ∙ none_above e.0 es b.0) in
            omega (arith, parts, rest, none)
        | false ↦ λ is. let more = sum_by-cons (λ (e : ℕ × X). f e.1) e left in
            omega (arith, parts, more, rest)
      ] refl

turned : {A : Type 0} (b : Bool) (x y : A) → cond (not b) x y ≡ cond b y x
turned true x y = refl
turned false x y = refl

entries-remove : {X : Type 0} (m : finite.FinMap nat_cmp X) (k : ℕ)
    → finite.entries (finite.remove m k)
    ≡ where_key nat_cmp (λ x. not (eq_by_cmp nat_cmp k x)) (finite.entries m)
entries-remove m k =
    same_entries nat_cmp nat_cmp_total finite.nat_cmp-IsAntisymmetric _ _
    (finite.entries_sorted (finite.remove m k))
    (is_sorted-where_key nat_cmp _ (finite.entries m) (finite.entries_sorted m))
    (λ q. sym (finite.get-entries (finite.remove m k) q) ∙ finite.get-remove nat_cmp_total m k q
    ∙ ap (cond (eq_by_cmp nat_cmp q k) None) (finite.get-entries m q)
    ∙ sym (find-where_key nat_cmp (λ x. not (eq_by_cmp nat_cmp k x)) q
    (λ x is. ap (λ y. not (eq_by_cmp nat_cmp k y)) (sym (finite.nat_cmp-IsAntisymmetric q x is)))
    (finite.entries m)
    ∙ turned (eq_by_cmp nat_cmp k q) _ _
    ∙ ap (λ b. cond b None (find nat_cmp q (finite.entries m))) ((eq_by_cmp_equiv nat_cmp_total).symm k q)))

-- the sum of a number of each file
abbrev pub total : (File → ℕ) → Files → ℕ
total f w = sum_by f (finite.values w.files)

module _ (f : File → ℕ) (w : Files) where
  in_all : (m : finite.FinMap nat_cmp File)
      → sum_by f (finite.values m) ≡ sum_by (λ e. f e.1) (finite.entries m)
  in_all m = sum_by_second f (finite.entries m)

  total_put : (k : ℕ) (v : File)
      → sum_by f (finite.values (finite.insert w.files k v)) + had f (file_at w k) ≡ total f w + f v
  total_put k v =
      let one = sum_put f k v (finite.entries w.files) (finite.entries_sorted w.files) in
      let after : sum_by f (finite.values (finite.insert w.files k v))
      ≡ sum_by (λ e. f e.1) (put nat_cmp k v (finite.entries w.files)) =
      in_all (finite.insert w.files k v)
      ∙ ap (sum_by (λ e. f e.1)) (finite.entries-insert nat_cmp_total w.files k v) in
      let same = ap (had f) (finite.get-entries w.files k) in
      let before = in_all w.files in
      omega (arith, one, after, same, before)

  -- a new file counts once more
  pub total_new : (g : File) → file_at w w.next ≡ None → total f (with_new_file w g) ≡ total f w + f g
  unfolding had
  total_new g none = let one = total_put w.next g in let zero = ap (had f) none in omega (arith, one, zero)

  -- a changed file counts as changed and not as before
  pub total_changed : (k : ℕ) (change : File → File) (g : File) → file_at w k ≡ Some g
      → total f (with_changed_file w k change) + f g ≡ total f w + f (change g)
  unfolding had
  total_changed k change g there =
      let one = total_put k (change g) in
      let old = ap (had f) there in
      let same = ap (λ o. total f (record {
        fsid = w.fsid;
        next = w.next;
        files =
            option_map_or (λ h. finite.insert w.files k (change h)) o w.files;
      })) there in
      omega (arith, one, old, same)

  -- a file that is gone counts no more
  pub total_without : (k : ℕ) (g : File) → file_at w k ≡ Some g → total f (without_file w k) + f g ≡ total f w
  unfolding had
  total_without k g there =
      let less = sum_where f k (finite.entries w.files) (finite.entries_sorted w.files) in
      let after : total f (without_file w k)
      ≡ sum_by (λ e. f e.1) (where_key nat_cmp (λ x. not (eq_by_cmp nat_cmp k x))
      (finite.entries w.files)) =
      in_all (finite.remove w.files k) ∙ ap (sum_by (λ e. f e.1)) (entries-remove w.files k) in
      let same = ap (had f) (sym (finite.get-entries w.files k) ∙ there) in
      let before = in_all w.files in
      omega (arith, less, after, same, before)

  -- without a file the sum is no greater
  pub total_gone : (k : ℕ) → total f (without_file w k) ≤ total f w
  unfolding had
  total_gone k =
      let less = sum_where f k (finite.entries w.files) (finite.entries_sorted w.files) in
      let after : total f (without_file w k)
      ≡ sum_by (λ e. f e.1) (where_key nat_cmp (λ x. not (eq_by_cmp nat_cmp k x))
      (finite.entries w.files)) =
      in_all (finite.remove w.files k) ∙ ap (sum_by (λ e. f e.1)) (entries-remove w.files k) in
      let before = in_all w.files in
      omega (arith, less, after, before)
