-- Sets and maps whose keys rise, and their values.
-- Serves: Received, Sends.
use Rattle.std.proofs.Common.{◌≡◌, ⊎_elim, true≢false, ℕ, ◌+◌, ◌-◌, ◌<◌, ◌≤◌, Bool, true, false, cond, List}
use Rattle.std.proofs.Common.{[], ◌∷◌, ◌++◌, map, length, get_or, take, drop, Option, None, Some, is_some}
use Rattle.std.proofs.Common.{refl, sym, ap, subst, ◌∙◌}
use Rattle.std.proofs.Common.{arith, Ordering, Less, Equal, Greater, Result, Ok, Err, OnErr}
use Rattle.std.specs.Map.{lookup, keys_of, remove_entry}
use Rattle.std.specs.List.{list_any, AllByRecursion}
use Rattle.std.specs.List.Sorted.{IsStrictlySortedBy}
use Rattle.std.specs.Ordering.{nat_cmp, eq_by_cmp, match_ordering, is_lt, ordering_reverse}
use Rattle.std.specs.Cmp.{IsTotalOrder, nat_cmp_total, eq_by_cmp_equiv}
use Rattle.std.specs.BTreeMap.{insert_entry}
use Rattle.std.specs.BTreeSet.{insert_key}
use Rattle.std.specs.Set.{remove_key}
use Rattle.std.specs.FinMap as finite
use Rattle.std.specs.FinMap.Entries.{put, by_order}
use Rattle.std.proofs.lemmas.Map.Keys.{sorted_from_all_adjacent, Less-from_sorted}
use Rattle.std.proofs.lemmas.List.{get_or_default, take_more, take-append-drop, map-append}
use Rattle.std.proofs.lemmas.Bool.{cases_lt}
use Rattle.service.proofs.fs_spec.Counts.{find_lookup}
use Rattle.state_spec.specs.StateValues.{map_from, set_from}
use Rattle.state_spec.proofs.Back.{map_back}
use Rattle.state_spec.proofs.Forth.{entries_of_map, keys_of_set}

-- a key put in its place, in a map and in a list
put_is : {K X : Type 0} (R : K → K → Ordering) (k : K) (v : X) (es : List (K × X))
    → insert_entry R es k v ≡ put R k v es
put_is R k v [] = refl
put_is {K} {X} R k v (e ∷ es) =
    elim (R k e.0) as (λ (o : Ordering). ◌≡◌ {A = List (K × X)}
    (match_ordering o ((k, v) ∷ e ∷ es) ((e.0, v) ∷ es) (e ∷ insert_entry R es k v))
    (by_order o ((k, v) ∷ e ∷ es) ((e.0, v) ∷ es) (e ∷ put R k v es))) [
      | Less ↦ refl
      | Equal ↦ refl
      | Greater ↦ λ i. e ∷ put_is R k v es i
    ]

-- keys as entries, with nothing at each
abbrev marked : {K : Type 0} → List K → List (K × Unit {0})
marked ks = map (λ k. (k, tt)) ks

key_put_is : {K : Type 0} (R : K → K → Ordering) (k : K) (ks : List K)
    → ◌≡◌ {A = List (K × Unit {0})} (marked (insert_key R ks k)) (put R k tt (marked ks))
key_put_is R k [] = refl
key_put_is {K} R k (x ∷ xs) =
    elim (R k x) as (λ (o : Ordering). ◌≡◌ {A = List (K × Unit {0})}
    (marked (match_ordering o (k ∷ x ∷ xs) (x ∷ xs) (x ∷ insert_key R xs k)))
    (by_order o ((k, tt) ∷ (x, tt) ∷ marked xs) ((x, tt) ∷ marked xs)
    ((x, tt) ∷ put R k tt (marked xs)))) [
      | Less ↦ refl
      | Equal ↦ refl
      | Greater ↦ λ i. (x, tt) ∷ key_put_is R k xs i
    ]

same_length : {K : Type 0} (ks : List K) → length (marked ks) ≡ length ks
same_length [] = refl
same_length (k ∷ ks) = let rest = same_length ks in omega arith

-- at most one more is within a limit that wasn't reached
pub one_within : (b : Bool) (old new max : ℕ) → new ≡ old + cond b 1 0 → old < max → new ≤ max
one_within true old new max e lt = omega arith
one_within false old new max e lt = omega arith

-- the same where an old one may be replaced
pub one_or_none_within : (b : Bool) (old new max : ℕ) → new ≡ old + cond b 0 1 → old < max → new ≤ max
one_or_none_within true old new max e lt = omega arith
one_or_none_within false old new max e lt = omega arith

-- one less is within a limit
pub less_within : (b : Bool) (old new max : ℕ) → new + cond b 1 0 ≡ old → old ≤ max → new ≤ max
less_within true old new max e le = omega arith
less_within false old new max e le = omega arith

-- what holds anyway holds where a call failed
pub on_err : {A E : Type 0} (r : Result A E) (P : Type 0) → P → OnErr r P
on_err (Ok x) P h = tt
on_err (Err e) P h = h

none_rises : {K : Type 0} (R : K → K → Ordering) → IsStrictlySortedBy R []
unfolding IsStrictlySortedBy
none_rises R = tt

module _ {K X : Type 0} (R : K → K → Ordering) where
  -- how many keys a map of entries has
  pub len_of_map : (es : List (K × X)) → IsStrictlySortedBy R (keys_of es)
      → finite.len (map_from R es) ≡ length es
  len_of_map es h = finite.len-entries (map_from R es) ∙ ap length (entries_of_map R es h)

  -- the map of no entries
  pub map_of_none : map_from {X = X} R [] ≡ finite.empty
  map_of_none = finite.empty_of_len (map_from {X = X} R []) (len_of_map [] (none_rises R))

  -- one entry more
  pub map_with : IsTotalOrder R → (es new : List (K × X)) (k : K) (v : X) → IsStrictlySortedBy R (keys_of es)
      → IsStrictlySortedBy R (keys_of new) → new ≡ insert_entry R es k v
      → map_from R new ≡ finite.insert (map_from R es) k v
  map_with total es new k v h after is =
      finite.same_entries_map (map_from R new) (finite.insert (map_from R es) k v)
      (entries_of_map R new after ∙ is ∙ put_is R k v es
      ∙ sym (finite.entries-insert total (map_from R es) k v ∙ ap (put R k v) (entries_of_map R es h)))

module _ {K : Type 0} (R : K → K → Ordering) where
  entries_of_set : (ks : List K) → IsStrictlySortedBy R ks → finite.entries (set_from R ks) ≡ marked ks
  unfolding set_from
  entries_of_set ks h =
      let same : map (λ (e : K × Unit {0}). e.0) (marked ks) ≡ ks =
      map_back {A = K} (λ k. (k, tt)) (λ (e : K × Unit {0}). e.0) (λ _. refl) ks in
      entries_of_map R (marked ks) (subst (IsStrictlySortedBy R) (sym same) h)

  -- how many keys a set has
  pub len_of_set : (ks : List K) → IsStrictlySortedBy R ks → finite.len (set_from R ks) ≡ length ks
  len_of_set ks h = finite.len-entries (set_from R ks) ∙ ap length (entries_of_set ks h) ∙ same_length ks

  -- the set of no keys
  pub set_of_none : set_from R [] ≡ finite.empty
  set_of_none = finite.empty_of_len (set_from R []) (len_of_set [] (none_rises R))

  -- whether a set has a key
  pub has_key : (ks : List K) (q : K) → IsStrictlySortedBy R ks
      → finite.contains_key (set_from R ks) q ≡ list_any (eq_by_cmp R q) ks
  has_key ks q h =
      finite.contains_key-keys (set_from R ks) q ∙ ap (list_any (eq_by_cmp R q)) (keys_of_set R ks h)

  -- one key more
  pub set_with : IsTotalOrder R → (ks new : List K) (k : K) → IsStrictlySortedBy R ks
      → IsStrictlySortedBy R new → new ≡ insert_key R ks k
      → set_from R new ≡ finite.insert (set_from R ks) k tt
  set_with total ks new k h after is =
      finite.same_entries_map (set_from R new) (finite.insert (set_from R ks) k tt)
      (entries_of_set new after ∙ ap marked is ∙ key_put_is R k ks
      ∙ sym (finite.entries-insert total (set_from R ks) k tt ∙ ap (put R k tt) (entries_of_set ks h)))

none_or : {X : Type 0} (b : Bool) (x : Option X) → cond b false (is_some x) ≡ is_some (cond b None x)
none_or true x = refl
none_or false x = refl

same_mark : (x y : Option (Unit {0})) → is_some x ≡ is_some y → x ≡ y
same_mark None None e = refl
same_mark None (Some y) e = absurd (true≢false (sym e))
same_mark (Some x) None e = absurd (true≢false e)
same_mark (Some x) (Some y) e = refl

module _ {K : Type 0} (R : K → K → Ordering) where
  -- one key less
  pub set_without : IsTotalOrder R → finite.IsAntisymmetric R → (ks new : List K) (k : K)
      → IsStrictlySortedBy R ks → IsStrictlySortedBy R new
      → ((q : K) → list_any (eq_by_cmp R q) new ≡ cond (eq_by_cmp R k q) false (list_any (eq_by_cmp R q) ks))
      → set_from R new ≡ finite.remove (set_from R ks) k
  set_without total same ks new k h after is =
      finite.same_map total same (set_from R new) (finite.remove (set_from R ks) k) (λ q. same_mark _ _
      (has_key R new q after ∙ is q
      ∙ (λ i. cond ((eq_by_cmp_equiv total).symm k q i) false (sym (has_key R ks q h) i))
      ∙ none_or (eq_by_cmp R q k) (finite.get (set_from R ks) q)
      ∙ ap is_some (sym (finite.get-remove total (set_from R ks) k q))))

module _ {X : Type 0} where
  -- what a map has at a number
  pub get_of_map : (es : List (ℕ × X)) (q : ℕ) → IsStrictlySortedBy nat_cmp (keys_of es)
      → finite.get (map_from nat_cmp es) q ≡ lookup (eq_by_cmp nat_cmp q) es
  get_of_map es q h =
      finite.get-entries (map_from nat_cmp es) q ∙ ap (finite.find nat_cmp q) (entries_of_map nat_cmp es h)
      ∙ find_lookup q es

  -- one entry less
  pub map_without : (es new : List (ℕ × X)) (k : ℕ) → IsStrictlySortedBy nat_cmp (keys_of es)
      → IsStrictlySortedBy nat_cmp (keys_of new)
      → ((q : ℕ) → lookup (eq_by_cmp nat_cmp q) new
      ≡ cond (eq_by_cmp nat_cmp k q) None (lookup (eq_by_cmp nat_cmp q) es))
      → map_from nat_cmp new ≡ finite.remove (map_from nat_cmp es) k
  map_without es new k h after is =
      finite.same_map nat_cmp_total finite.nat_cmp-IsAntisymmetric (map_from nat_cmp new)
      (finite.remove (map_from nat_cmp es) k) (λ q.
      get_of_map new q after ∙ is q
      ∙ (λ i. cond ((eq_by_cmp_equiv nat_cmp_total).symm k q i) None (sym (get_of_map es q h) i))
      ∙ sym (finite.get-remove nat_cmp_total (map_from nat_cmp es) k q))

-- ---- keys that come in order

module _ {K : Type 0} {R : K → K → Ordering} (total : IsTotalOrder R) where
  -- a key above all others comes last
  insert_last : (ks : List K) (k : K) → AllByRecursion (λ x. R x k ≡ Less) ks
      → insert_key R ks k ≡ ks ++ k ∷ []
  insert_last [] k above = refl
  insert_last (x ∷ ks) k above =
      let greater : R k x ≡ Greater = total.antisymm k x ∙ ap ordering_reverse above.0 in
      rw greater (ap (λ t. x ∷ t) (insert_last ks k above.1))

  last_of_all : (P : K → Type 0) (ks : List K) (k : K) → AllByRecursion P (ks ++ k ∷ []) → P k
  last_of_all P [] k h = h.0
  last_of_all P (x ∷ ks) k h = last_of_all P ks k h.1

  below_last : (ks : List K) (k : K) → IsStrictlySortedBy R (ks ++ k ∷ [])
      → AllByRecursion (λ x. R x k ≡ Less) ks
  unfolding IsStrictlySortedBy
  below_last [] k h = tt
  below_last (x ∷ ks) k h = (last_of_all (λ y. R x y ≡ Less) ks k h.0, below_last ks k h.1)

  all_front : (P : K → Type 0) (xs ys : List K) → AllByRecursion P (xs ++ ys) → AllByRecursion P xs
  all_front P [] ys h = tt
  all_front P (x ∷ xs) ys h = (h.0, all_front P xs ys h.1)

  front_rises : (xs ys : List K) → IsStrictlySortedBy R (xs ++ ys) → IsStrictlySortedBy R xs
  unfolding IsStrictlySortedBy
  front_rises [] ys h = tt
  front_rises (x ∷ xs) ys h = (all_front (λ y. R x y ≡ Less) xs ys h.0, front_rises xs ys h.1)

  -- the next of keys that rise is put after those before it
  pub next_put : (ks : List K) (at : ℕ) (k : K) → at < length ks → k ≡ get_or ks at k
      → IsStrictlySortedBy R ks → insert_key R (take at ks) k ≡ take (at + 1) ks
  next_put ks at k lt is rising =
      let more : take (at + 1) ks ≡ take at ks ++ k ∷ [] =
      take_more ks at k lt ∙ ap (λ x. take at ks ++ x ∷ []) (sym is) in
      let front =
      front_rises (take (at + 1) ks) (drop (at + 1) ks)
      (subst (IsStrictlySortedBy R) (sym (take-append-drop (at + 1) ks)) rising) in
      insert_last (take at ks) k (below_last (take at ks) k (subst (IsStrictlySortedBy R) more front))
      ∙ sym more

  -- an entry whose key is above all others comes last
  insert_entry_last : {X : Type 0} (es : List (K × X)) (k : K) (v : X)
      → AllByRecursion (λ x. R x k ≡ Less) (keys_of es) → insert_entry R es k v ≡ es ++ (k, v) ∷ []
  insert_entry_last [] k v above = refl
  insert_entry_last (e ∷ es) k v above =
      let greater : R k e.0 ≡ Greater = total.antisymm k e.0 ∙ ap ordering_reverse above.0 in
      rw greater (ap (λ t. e ∷ t) (insert_entry_last es k v above.1))

  -- the next of entries whose keys rise is put after those before it
  pub next_entry_put : {X : Type 0} (es : List (K × X)) (at : ℕ) (k : K) (v : X) → at < length es
      → ◌≡◌ {A = K × X} (k, v) (get_or es at (k, v)) → IsStrictlySortedBy R (keys_of es)
      → insert_entry R (take at es) k v ≡ take (at + 1) es
  next_entry_put {X} es at k v lt is rising =
      let more : take (at + 1) es ≡ take at es ++ (k, v) ∷ [] =
      take_more es at (k, v) lt ∙ ap (λ (x : K × X). take at es ++ x ∷ []) (sym is) in
      let parts : keys_of es ≡ keys_of (take (at + 1) es) ++ keys_of (drop (at + 1) es) =
      ap keys_of (sym (take-append-drop (at + 1) es))
      ∙ map-append (λ (e : K × X). e.0) (take (at + 1) es) (drop (at + 1) es) in
      let front =
      front_rises (keys_of (take (at + 1) es)) (keys_of (drop (at + 1) es))
      (subst (IsStrictlySortedBy R) parts rising) in
      let keys : keys_of (take (at + 1) es) ≡ keys_of (take at es) ++ k ∷ [] =
      ap keys_of more ∙ map-append (λ (e : K × X). e.0) (take at es) ((k, v) ∷ []) in
      insert_entry_last (take at es) k v (below_last (keys_of (take at es)) k
      (subst (IsStrictlySortedBy R) keys front)) ∙ sym more

  -- keys of which each is below the next rise
  pub rising_by_steps : (ks : List K) (d : K)
      → ((at : ℕ) → at + 1 < length ks → R (get_or ks at d) (get_or ks (at + 1) d) ≡ Less)
      → IsStrictlySortedBy R ks
  rising_by_steps ks d steps = sorted_from_all_adjacent total ks d steps

-- ---- what holds of each key or entry

module _ {K : Type 0} (R : K → K → Ordering) (P : K → Type 0) where
  -- what holds of each key and of one more holds of all of them
  pub all_with : (ks : List K) (k : K) → AllByRecursion P ks → P k → AllByRecursion P (insert_key R ks k)
  all_with [] k all one = (one, tt)
  all_with (x ∷ xs) k all one =
      elim (R k x) as (λ (o : Ordering). AllByRecursion P
      (match_ordering o (k ∷ x ∷ xs) (x ∷ xs) (x ∷ insert_key R xs k))) [
        | Less ↦ (one, all)
        | Equal ↦ all
        | Greater ↦ (all.0, all_with xs k all.1 one)
      ]

module _ {K X : Type 0} (P : K × X → Type 0) where
  -- what holds of each entry and of one more, and goes over to its value under another key, holds of all of
  -- them
  pub all_with_entry : (R : K → K → Ordering) (es : List (K × X)) (k : K) (v : X) → AllByRecursion P es
      → P (k, v)
      → ((e : K × X) → P e → P (e.0, v)) → AllByRecursion P (insert_entry R es k v)
  all_with_entry R [] k v all one other = (one, tt)
  all_with_entry R (e ∷ es) k v all one other =
      elim (R k e.0) as (λ (o : Ordering). AllByRecursion P
      (match_ordering o ((k, v) ∷ e ∷ es) ((e.0, v) ∷ es) (e ∷ insert_entry R es k v))) [
        | Less ↦ (one, all)
        | Equal ↦ (other e all.0, all.1)
        | Greater ↦ (all.0, all_with_entry R es k v all.1 one other)
      ]

  -- what holds of each entry holds of those that are left
  pub all_without : (test : K → Bool) (es : List (K × X)) → AllByRecursion P es
      → AllByRecursion P (remove_entry test es)
  all_without test [] all = tt
  all_without test (e ∷ es) all =
      elim (test e.0) as (λ b. AllByRecursion P (cond b es (e ∷ remove_entry test es))) [
        | true ↦ all.1
        | false ↦ (all.0, all_without test es all.1)
      ]

-- what holds of each key holds of those that are left
pub all_without_key : {K : Type 0} (P : K → Type 0) (test : K → Bool) (ks : List K) → AllByRecursion P ks
    → AllByRecursion P (remove_key test ks)
all_without_key P test [] all = tt
all_without_key P test (k ∷ ks) all =
    elim (test k) as (λ b. AllByRecursion P (cond b ks (k ∷ remove_key test ks))) [
      | true ↦ all.1
      | false ↦ (all.0, all_without_key P test ks all.1)
    ]

is_less : (o : Ordering) → is_lt o ≡ true → o ≡ Less
is_less Less h = refl
is_less Equal h = absurd (cc)
is_less Greater h = absurd (cc)

module _ {K : Type 0} (R : K → K → Ordering) where
  -- each key up to the next is below the one after it
  pub one_step_more : (ks : List K) (at : ℕ) (a b : K) → 1 ≤ at → at < length ks → a ≡ get_or ks (at - 1) a
      → b ≡ get_or ks at b → is_lt (R a b) ≡ true
      → ((k : ℕ) (d : K) → k + 1 < at → R (get_or ks k d) (get_or ks (k + 1) d) ≡ Less) → (k : ℕ) (d : K)
      → k + 1 < at + 1 → R (get_or ks k d) (get_or ks (k + 1) d) ≡ Less
  one_step_more ks at a b one lt is_a is_b below so_far k d lt' = ⊎_elim
      (λ before. so_far k d before)
      (λ reached.
      let first : at - 1 ≡ k = omega arith in
      let second : at ≡ k + 1 = omega arith in
      let one_is : a ≡ get_or ks k d =
      is_a ∙ ap (λ m. get_or ks m a) first ∙ get_or_default ks k a d (omega arith) in
      let two_is : b ≡ get_or ks (k + 1) d =
      is_b ∙ ap (λ m. get_or ks m b) second ∙ get_or_default ks (k + 1) b d (omega arith) in
      (λ i. R (sym one_is i) (sym two_is i)) ∙ is_less (R a b) below)
      (cases_lt (k + 1) at)

  -- a key that isn't below the one after it
  pub no_step : (ks : List K) (at : ℕ) (a b : K) → 1 ≤ at → at < length ks → a ≡ get_or ks (at - 1) a
      → b ≡ get_or ks at b → is_lt (R a b) ≡ false → IsStrictlySortedBy R ks → ⊥
  no_step ks at a b one lt is_a is_b above rising =
      let less = Less-from_sorted R ks (at - 1) at a rising (omega arith) lt in
      let b_is : b ≡ get_or ks at a = is_b ∙ get_or_default ks at b a lt in
      let same : R a b ≡ Less = (λ i. R (is_a i) (b_is i)) ∙ less in
      true≢false (sym (ap is_lt same) ∙ above)
