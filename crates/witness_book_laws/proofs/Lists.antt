-- Lists: what is among them, what is found in them, and lists the other way round.
-- Serves: all laws here.
use Rattle.std.proofs.Common.{◌≡◌, ◌⊎◌, inl, inr, ℕ, ◌≤◌, Bool, true, false, cond, max, List, [], ◌∷◌}
use Rattle.std.proofs.Common.{◌++◌, map, filter, find, flat_map, fold, Option, Some, None, refl, sym, ap}
use Rattle.std.proofs.Common.{subst, ◌∙◌, arith}
use Rattle.std.specs.List.{list_any}
use Rattle.std.proofs.Math.Nat.{le-max_left, le-max_right}
use Rattle.std.proofs.lemmas.Bool.{or_cases, or_left, or_right, true≢false}
use Rattle.secure_log.specs.LogEntries.Chain.{IsAmong}
use Rattle.witness_laws.specs.witness_spec.Histories.{HoldSame}
use Rattle.witness_laws.proofs.OfEvidence.Before.{split, on_left, on_right, passing, found, not_found}
use Rattle.witness_laws.proofs.Reach.{greater}

-- ---- what is among lists

-- what is mapped is of one of those before
pub record IsImage {A B : Type 0} (f : A → B) (xs : List A) (y : B) : Type 0 where
  -- that one
  pub of : A
  -- it is there
  pub among : IsAmong of xs
  -- it gives this
  pub is : y ≡ f of

-- what is among mapped ones is of one of those before
pub image : {A B : Type 0} (f : A → B) (xs : List A) (y : B) → IsAmong y (map f xs) → IsImage f xs y
image f [] y i = absurd i
image f (x ∷ xs) y (inl e) = record { of = x; among = inl refl; is = e }
image f (x ∷ xs) y (inr i) =
    let r = image f xs y i in record { of = r.of; among = inr r.among; is = r.is }

-- each of those before gives one
pub mapped : {A B : Type 0} (f : A → B) (xs : List A) (x : A) → IsAmong x xs → IsAmong (f x) (map f xs)
mapped f [] x i = absurd i
mapped f (z ∷ xs) x (inl e) = inl (ap f e)
mapped f (z ∷ xs) x (inr i) = inr (mapped f xs x i)

-- one of a list's members gives a list with this in it
pub record IsWithin {A B : Type 0} (f : A → List B) (xs : List A) (y : B) : Type 0 where
  -- that one
  pub of : A
  -- it is there
  pub among : IsAmong of xs
  -- this is among what it gives
  pub is : IsAmong y (f of)

-- what is among all lists together is in one
pub within : {A B : Type 0} (f : A → List B) (xs : List A) (y : B) → IsAmong y (flat_map f xs)
    → IsWithin f xs y
within f [] y i = absurd i
within f (x ∷ xs) y i =
    elim (split y (f x) (flat_map f xs) i) [
      | inl j ↦ record { of = x; among = inl refl; is = j }
      | inr j ↦ further (within f xs y j)
    ]
  where
    further : IsWithin f xs y → IsWithin f (x ∷ xs) y
    further r = record { of = r.of; among = inr r.among; is = r.is }

-- what is in one is among all together
pub of_within : {A B : Type 0} (f : A → List B) (xs : List A) (x : A) (y : B) → IsAmong x xs → IsAmong y (f x)
    → IsAmong y (flat_map f xs)
of_within f [] x y i j = absurd i
of_within f (z ∷ xs) x y (inl e) j =
    on_left y (f z) (flat_map f xs) (subst (λ w. IsAmong y (f w)) e j)
of_within f (z ∷ xs) x y (inr i) j = on_right y (f z) (flat_map f xs) (of_within f xs x y i j)

-- what passes a filter was there, and passes the test
pub filtered : {A : Type 0} (test : A → Bool) (xs : List A) (y : A) → IsAmong y (filter test xs)
    → IsAmong y xs × (test y ≡ true)
filtered test [] y i = absurd i
filtered test (x ∷ xs) y i = by (test x) refl i (λ j. filtered test xs y j)
  where
    by : (b : Bool) → test x ≡ b → IsAmong y (cond b (x ∷ filter test xs) (filter test xs))
        → (IsAmong y (filter test xs) → IsAmong y xs × (test y ≡ true)) → IsAmong y (x ∷ xs) × (test y ≡ true)
    by true e (inl same) rest = (inl same, ap test same ∙ e)
    by true e (inr j) rest = let r = rest j in (inr r.0, r.1)
    by false e j rest = let r = rest j in (inr r.0, r.1)

-- ---- tests

-- two truths that bring one another are the same
pub same_truth : (a b : Bool) → (a ≡ true → b ≡ true) → (b ≡ true → a ≡ true) → a ≡ b
same_truth true b f g = sym (f refl)
same_truth false true f g = absurd (true≢false (sym (g refl)))
same_truth false false f g = refl

-- one of a list's members passes
pub record Passes {A : Type 0} (test : A → Bool) (xs : List A) : Type 0 where
  -- that one
  pub one : A
  -- it is there
  pub among : IsAmong one xs
  -- it passes
  pub passes : test one ≡ true

-- where some member passes, this is one
pub passer : {A : Type 0} (test : A → Bool) (xs : List A) → list_any test xs ≡ true → Passes test xs
passer test [] h = absurd (true≢false (sym h))
passer test (x ∷ xs) h =
    elim (or_cases (test x) (list_any test xs) h) [
      | inl e ↦ record { one = x; among = inl refl; passes = e }
      | inr e ↦ further (passer test xs e)
    ]
  where
    further : Passes test xs → Passes test (x ∷ xs)
    further r = record { one = r.one; among = inr r.among; passes = r.passes }

-- a member that passes
pub passed : {A : Type 0} (test : A → Bool) (xs : List A) (x : A) → IsAmong x xs → test x ≡ true
    → list_any test xs ≡ true
passed test [] x i h = absurd i
passed test (z ∷ xs) x (inl e) h = or_left (test z) (list_any test xs) (ap test (sym e) ∙ h)
passed test (z ∷ xs) x (inr i) h = or_right (test z) (list_any test xs) (passed test xs x i h)

-- lists that hold the same pass the same tests
pub any_same : {A : Type 0} (test : A → Bool) (xs ys : List A) → HoldSame xs ys
    → list_any test xs ≡ list_any test ys
any_same test xs ys same =
    same_truth (list_any test xs) (list_any test ys)
    (λ h. let r = passer test xs h in passed test ys r.one ((same r.one).0 r.among) r.passes)
    (λ h. let r = passer test ys h in passed test xs r.one ((same r.one).1 r.among) r.passes)

-- ---- what is found

-- the same is found in lists that hold the same, where one at most passes
pub find_same : {A : Type 0} (test : A → Bool) (xs ys : List A) → HoldSame xs ys
    → ((x y : A) → IsAmong x xs → IsAmong y xs → test x ≡ true → test y ≡ true → x ≡ y)
    → find test xs ≡ find test ys
find_same {A} test xs ys same one = by (find test xs) (find test ys) refl refl
  where
    by : (a b : Option A) → find test xs ≡ a → find test ys ≡ b → a ≡ b
    by None None e f = refl
    by (Some x) None e f =
        let r = found test xs x e in
        absurd (true≢false (sym r.1 ∙ not_found test ys x f ((same x).0 r.0)))
    by None (Some y) e f =
        let r = found test ys y f in
        absurd (true≢false (sym r.1 ∙ not_found test xs y e ((same y).1 r.0)))
    by (Some x) (Some y) e f =
        let r = found test xs x e in
        let s = found test ys y f in
        ap (λ z. Some z) (one x y r.0 ((same y).1 s.0) r.1 s.1)

-- ---- lists that hold the same

-- so do what is made of each
pub same_map : {A B : Type 0} (f : A → B) (xs ys : List A) → HoldSame xs ys → HoldSame (map f xs) (map f ys)
same_map {A} f xs ys same y = (λ i. by xs ys (λ x. (same x).0) i, λ i. by ys xs (λ x. (same x).1) i)
  where
    by : (xs ys : List A) → ((x : A) → IsAmong x xs → IsAmong x ys) → IsAmong y (map f xs)
        → IsAmong y (map f ys)
    by xs ys within i =
        let r = image f xs y i in
        subst (λ z. IsAmong z (map f ys)) (sym r.is) (mapped f ys r.of (within r.of r.among))

-- so do those that pass a test
pub same_filter : {A : Type 0} (test : A → Bool) (xs ys : List A) → HoldSame xs ys
    → HoldSame (filter test xs) (filter test ys)
same_filter {A} test xs ys same y = (λ i. by xs ys (λ x. (same x).0) i, λ i. by ys xs (λ x. (same x).1) i)
  where
    by : (xs ys : List A) → ((x : A) → IsAmong x xs → IsAmong x ys) → IsAmong y (filter test xs)
        → IsAmong y (filter test ys)
    by xs ys within i = let r = filtered test xs y i in passing test ys y (within y r.0) r.1

-- so they do with one more, whether it stands first or last
pub same_more : {A : Type 0} (x : A) (xs ys : List A) → HoldSame xs ys → HoldSame (xs ++ x ∷ []) (x ∷ ys)
same_more x xs ys same y = (λ i. to (split y xs (x ∷ []) i), from)
  where
    to : IsAmong y xs ⊎ IsAmong y (x ∷ []) → IsAmong y (x ∷ ys)
    to (inl i) = inr ((same y).0 i)
    to (inr (inl e)) = inl e
    to (inr (inr i)) = absurd i

    from : IsAmong y (x ∷ ys) → IsAmong y (xs ++ x ∷ [])
    from (inl e) = on_right y xs (x ∷ []) (inl e)
    from (inr i) = on_left y xs (x ∷ []) ((same y).1 i)

-- ---- the greatest of them

max_from : (n : ℕ) (xs : List ℕ) → n ≤ fold max n xs
max_from n [] = omega arith
max_from n (x ∷ xs) = omega (arith, le-max_left n x, max_from (max n x) xs)

max_bound : (n x : ℕ) (xs : List ℕ) → IsAmong x xs → x ≤ fold max n xs
max_bound n x [] i = absurd i
max_bound n x (y ∷ xs) (inl e) = omega (arith, e, le-max_right n y, max_from (max n y) xs)
max_bound n x (y ∷ xs) (inr i) = max_bound (max n y) x xs i

max_is : (n : ℕ) (xs : List ℕ) → (fold max n xs ≡ n) ⊎ IsAmong (fold max n xs) xs
max_is n [] = inl refl
max_is n (x ∷ xs) = by (max_is (max n x) xs) (greater n x)
  where
    by : (fold max (max n x) xs ≡ max n x) ⊎ IsAmong (fold max (max n x) xs) xs
        → (max n x ≡ n) ⊎ (max n x ≡ x)
        → (fold max n (x ∷ xs) ≡ n) ⊎ IsAmong (fold max n (x ∷ xs)) (x ∷ xs)
    by (inr i) o = inr (inr i)
    by (inl e) (inl f) = inl (e ∙ f)
    by (inl e) (inr f) = inr (inl (e ∙ f))

max_le : (xs ys : List ℕ) → ((x : ℕ) → IsAmong x xs → IsAmong x ys) → fold max 0 xs ≤ fold max 0 ys
max_le xs ys within =
    elim (max_is 0 xs) [
      | inl e ↦ omega (arith, e)
      | inr i ↦ max_bound 0 (fold max 0 xs) ys (within (fold max 0 xs) i)
    ]

-- it is the same where they hold the same
pub max_same : (xs ys : List ℕ) → HoldSame xs ys → fold max 0 xs ≡ fold max 0 ys
max_same xs ys same = omega (arith, max_le xs ys (λ x. (same x).0), max_le ys xs (λ x. (same x).1))

-- ---- how many they are

-- a list in two parts, between which one stands
pub record IsCut {A : Type 0} (x : A) (ys : List A) : Type 0 where
  -- the part before it
  pub before : List A
  -- the part after it
  pub rest : List A
  -- it stands between
  pub is : ys ≡ before ++ x ∷ rest

-- what is among a list cuts it
pub cut : {A : Type 0} (x : A) (ys : List A) → IsAmong x ys → IsCut x ys
cut x [] i = absurd i
cut x (y ∷ ys) (inl e) = record { before = []; rest = ys; is = ap (λ z. z ∷ ys) (sym e) }
cut x (y ∷ ys) (inr i) =
    let r = cut x ys i in record { before = y ∷ r.before; rest = r.rest; is = ap (λ l. y ∷ l) r.is }
