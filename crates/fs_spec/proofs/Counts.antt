-- Names are counted: an entry that names a number is one name of it, and two entries are two.
-- Serves: directories_have_one_path, numbers_have_paths; sums over files in `changes`.
use Rattle.std.proofs.Common.{◌≡◌, ◌≢◌, ⊎_elim, ℕ, ◌+◌, ◌≤◌, Bool, true, false, cond, List, [], ◌∷◌, map}
use Rattle.std.proofs.Common.{Option, Some, None, nat_eq, sum_by, option_and_then, refl, sym, ap, subst, ◌∙◌}
use Rattle.std.proofs.Common.{arith, eq-eqb}
use Rattle.std.specs.Map.{lookup}
use Rattle.std.specs.FinMap as finite
use Rattle.std.specs.Ordering.{nat_cmp, eq_by_cmp, is_eq}
use Rattle.std.specs.declared.cmp.Ordering.{Ordering}
use Rattle.std.specs.declared.cmp.Ordering.TheVariants.{Less, Equal, Greater}
use Rattle.std.specs.Cmp.Lexicographic.{pointwise, same_text}
use Rattle.std.proofs.lemmas.Bool.{cases_eq}
use Rattle.std.proofs.lemmas.List.Sums.{sum_by-cons}
use Rattle.fs_spec.specs.Listing.{entry_at}
use Rattle.fs_spec.specs.Files.{File, Files, file_at, listing_in, directory_entries, one_if, names_in}
use Rattle.fs_spec.specs.Files.{names_of}
use Rattle.fs_spec.proofs.Walks.{none_some, some_same}

-- ---- of entries with keys

module _ {K X : Type 0} (f : X → ℕ) where
  -- an entry that is found counts in the sum
  pub count_of_one : (t : K → Bool) (es : List (K × X)) (v : X) → lookup t es ≡ Some v
      → f v ≤ sum_by (λ e. f e.1) es
  count_of_one t [] v h = absurd (none_some h)
  count_of_one t (e ∷ es) v h =
      let parts = sum_by-cons (λ (e : K × X). f e.1) e es in
      elim (t e.0) as (λ b. cond b (Some e.1) (lookup t es) ≡ Some v → f v ≤ sum_by (λ e. f e.1) (e ∷ es)) [
        | true ↦ λ is. let same = ap f (some_same is) in omega (arith, parts, same)
        | false ↦ λ is. let rest = count_of_one t es v is in omega (arith, parts, rest)
      ] h

  -- two entries found under different keys count both
  pub count_of_two : (t u : K → Bool) → ((k : K) → t k ≡ true → u k ≡ false) → (es : List (K × X)) (v w : X)
      → lookup t es ≡ Some v → lookup u es ≡ Some w → f v + f w ≤ sum_by (λ e. f e.1) es
  count_of_two t u apart [] v w g h = absurd (none_some g)
  count_of_two t u apart (e ∷ es) v w g h =
      let parts = sum_by-cons (λ (e : K × X). f e.1) e es in
      elim (t e.0) as (λ b. t e.0 ≡ b → cond b (Some e.1) (lookup t es) ≡ Some v
      → f v + f w ≤ sum_by (λ e. f e.1) (e ∷ es)) [
        | true ↦ λ is one.
            let same = ap f (some_same one) in
            let rest = count_of_one u es w
            (sym (ap (λ b. cond b (Some e.1) (lookup u es)) (apart e.0 is)) ∙ h) in
            omega (arith, parts, same, rest)
        | false ↦ λ _ one. elim (u e.0) as (λ b. cond b (Some e.1) (lookup u es) ≡ Some w
            → f v + f w ≤ sum_by (λ e. f e.1) (e ∷ es)) [
              | true ↦ λ two. let same = ap f (some_same two) in let rest = count_of_one t es v one in
                  omega (arith, parts, same, rest)
              | false ↦ λ two. let rest = count_of_two t u apart es v w one two in omega (arith, parts, rest)
            ] h
      ] refl g

-- a sum over values is one over entries
pub sum_by_second : {K X : Type 0} (f : X → ℕ) (es : List (K × X))
    → sum_by f (map (λ e. e.1) es) ≡ sum_by (λ e. f e.1) es
sum_by_second f [] = refl
sum_by_second {K} {X} f (e ∷ es) =
    sum_by-cons f e.1 (map (λ (e : K × X). e.1) es) ∙ ap (λ n. f e.1 + n) (sum_by_second f es)
    ∙ sym (sum_by-cons (λ (e : K × X). f e.1) e es)

-- the two look-ups of the library agree on numbers
pub find_lookup : {X : Type 0} (q : ℕ) (es : List (ℕ × X))
    → finite.find nat_cmp q es ≡ lookup (eq_by_cmp nat_cmp q) es
find_lookup q [] = refl
find_lookup q (e ∷ es) = ap (cond (eq_by_cmp nat_cmp q e.0) (Some e.1)) (find_lookup q es)

-- ---- tests on keys

equal : (r : Ordering) → is_eq r ≡ true → r ≡ Equal
equal Less h = absurd (tf h)
  where
    tf : false ≡ true → ⊥
    tf h = cc
equal Equal h = refl
equal Greater h = absurd (tf h)
  where
    tf : false ≡ true → ⊥
    tf h = cc

-- numbers that compare as equal are one
pub same_number : (q k : ℕ) → eq_by_cmp nat_cmp q k ≡ true → q ≡ k
same_number q k e = finite.nat_cmp-IsAntisymmetric q k (equal (nat_cmp q k) e)

other_number : (q m : ℕ) → q ≢ m → (k : ℕ) → eq_by_cmp nat_cmp q k ≡ true → eq_by_cmp nat_cmp m k ≡ false
other_number q m not k e = by (eq_by_cmp nat_cmp m k) refl
  where
    by : (b : Bool) → eq_by_cmp nat_cmp m k ≡ b → eq_by_cmp nat_cmp m k ≡ false
    by false is = is
    by true is = absurd (not (same_number q k e ∙ sym (same_number m k is)))

other_name : (x y : List ℕ) → x ≢ y → (k : List ℕ) → pointwise nat_eq x k ≡ true
    → pointwise nat_eq y k ≡ false
other_name x y not k e = by (pointwise nat_eq y k) refl
  where
    by : (b : Bool) → pointwise nat_eq y k ≡ b → pointwise nat_eq y k ≡ false
    by false is = is
    by true is = absurd (not (same_text x k (sym e) ∙ sym (same_text y k (sym is))))

-- ---- of files

-- an entry is listed by a file that is there
pub listed_in : (w : Files) (d : ℕ) (x : List ℕ) (e : ℕ × ℕ) → directory_entries w d x ≡ Some e
    → (f : File) × (file_at w d ≡ Some f) × (entry_at (listing_in f.body) x ≡ Some e)
listed_in w d x e h = by (file_at w d) refl
  where
    by : (o : Option File) → file_at w d ≡ o
        → (f : File) × (file_at w d ≡ Some f) × (entry_at (listing_in f.body) x ≡ Some e)
    by None is = absurd (none_some (sym (ap (option_and_then (λ f. entry_at (listing_in f.body) x)) is) ∙ h))
    by (Some f) is = (f, is, sym (ap (option_and_then (λ f. entry_at (listing_in f.body) x)) is) ∙ h)

self : (n c : ℕ) → one_if n ([], (n, c)) ≡ 1
self n c = ap (λ b. cond b 1 0) (eq-eqb n n refl)

-- where the file of a number lies in the list of all
pub file_in : (w : Files) (d : ℕ) (f : File) → file_at w d ≡ Some f
    → lookup (eq_by_cmp nat_cmp d) (finite.entries w.files) ≡ Some f
file_in w d f h = sym (find_lookup d (finite.entries w.files)) ∙ sym (finite.get-entries w.files d) ∙ h

-- the names of a number, summed over the entries of the map
pub all_names : (w : Files) (n : ℕ) → names_of w n ≡ sum_by (λ e. names_in n e.1) (finite.entries w.files)
all_names w n = sum_by_second (names_in n) (finite.entries w.files)

module _ (w : Files) (n : ℕ) where
  -- an entry for a number is a name of it
  pub own_name : (f : File) (x : List ℕ) (c : ℕ) → entry_at (listing_in f.body) x ≡ Some (n, c)
      → 1 ≤ names_in n f
  own_name f x c h =
      subst (λ m. m ≤ names_in n f) (self n c)
      (count_of_one (λ (p : ℕ × ℕ). one_if n ([], p)) (pointwise nat_eq x) (listing_in f.body).entries
      (n, c) h)

  -- what an entry names has a name
  pub has_name : (d c : ℕ) (x : List ℕ) → directory_entries w d x ≡ Some (n, c) → 1 ≤ names_of w n
  has_name d c x h =
      let f = listed_in w d x (n, c) h in
      let outer = count_of_one (names_in n) (eq_by_cmp nat_cmp d) (finite.entries w.files) f.0
      (file_in w d f.0 f.1) in
      let inner = own_name f.0 x c f.2 in
      omega (arith, outer, inner, all_names w n)

  -- what two entries name has two
  pub has_two : (d e c b : ℕ) (x y : List ℕ) → directory_entries w d x ≡ Some (n, c)
      → directory_entries w e y ≡ Some (n, b) → ((d ≡ e) × (x ≡ y) → ⊥) → 2 ≤ names_of w n
  has_two d e c b x y g h apart =
      let f = listed_in w d x (n, c) g in
      let k = listed_in w e y (n, b) h in
      ⊎_elim
      (λ same.
      let inside : entry_at (listing_in f.0.body) y ≡ Some (n, b) =
      ap (λ (z : File). entry_at (listing_in z.body) y) (some_same (sym f.1 ∙ ap (file_at w) same ∙ k.1))
      ∙ k.2 in
      let inner = count_of_two (λ (p : ℕ × ℕ). one_if n ([], p)) (pointwise nat_eq x) (pointwise nat_eq y)
      (other_name x y (λ is. apart (same, is))) (listing_in f.0.body).entries (n, c) (n, b) f.2 inside in
      let outer = count_of_one (names_in n) (eq_by_cmp nat_cmp d) (finite.entries w.files) f.0
      (file_in w d f.0 f.1) in
      let inner' : 2 ≤ names_in n f.0 = omega (arith, inner, self n c, self n b) in
      omega (arith, outer, inner', all_names w n))
      (λ other.
      let outer = count_of_two (names_in n) (eq_by_cmp nat_cmp d) (eq_by_cmp nat_cmp e)
      (other_number d e other) (finite.entries w.files) f.0 k.0 (file_in w d f.0 f.1)
      (file_in w e k.0 k.1) in
      let one = own_name f.0 x c f.2 in
      let two = own_name k.0 y b k.2 in
      omega (arith, outer, one, two, all_names w n))
      (cases_eq d e)
