-- Learned authenticators whose numbers differ, and what a book shows of them and of its segments.
-- Serves: all laws here.
use Rattle.std.proofs.Common.{◌≤◌, length, length-append, arith, ◌≡◌, ◌≢◌, ◌⊎◌, inl, inr, ℕ, Bool, true}
use Rattle.std.proofs.Common.{false, cond, ◌==◌, List, [], ◌∷◌, ◌++◌, map}
use Rattle.std.proofs.Common.{filter, flat_map, Option, Some, None, refl, sym, ap, subst, ◌∙◌}
use Rattle.std.specs.Prelude.{option_map, option_and_then, is_some, not, ◌&&◌}
use Rattle.std.specs.List.{AllByRecursion}
use Rattle.authenticator.specs.declared.authenticator.Authenticator.{Authenticator}
use Rattle.authenticator.specs.declared.member.LogVersion.{LogVersion}
use Rattle.secure_log.specs.Versioned.{VersionedParts}
use Rattle.secure_log.specs.LogEntries.Chain.{IsAmong}
use Rattle.witness_laws.specs.evidence_spec.Showing.{ShowingParts}
use Rattle.witness_laws.specs.evidence_spec.Evidence.{Charge, Fork, EvidenceParts}
use Rattle.witness_laws.specs.witness_spec.Starting.{KnownBase, start_pairs, start_showing}
use Rattle.witness_laws.specs.witness_spec.Pairs.{Pair, number_of, pair_of, first_pair, first_fork, marks_of}
use Rattle.witness_laws.specs.witness_spec.Exposing.{fork_of, showing_before}
use Rattle.witness_laws.specs.witness_spec.Histories.{HoldSame}
use Rattle.witness_book_laws.specs.Books.{Book, exposing_pairs, base_pairs, book_shown}
use Rattle.witness_book_laws.specs.Going.{evidence_of, fork_evidence}
use Rattle.witness_book_laws.specs.Fitting.{NumbersDiffer}
use Rattle.witness_book_laws.proofs.Lists.{cut, IsImage, image, mapped, IsWithin}
use Rattle.witness_laws.proofs.OfEvidence.Before.{split, on_left, on_right}
use Rattle.witness_book_laws.proofs.Lists.{within}
use Rattle.witness_book_laws.proofs.Lists.{of_within, filtered}

-- ---- numbers that differ

-- what all have, each has
pub all_of : {A : Type 0} (P : A → Type 0) (xs : List A) (x : A) → AllByRecursion P xs → IsAmong x xs → P x
all_of P [] x all i = absurd i
all_of P (y ∷ xs) x all (inl e) = subst P (sym e) all.0
all_of P (y ∷ xs) x all (inr i) = all_of P xs x all.1 i

-- what each of them has, all have
pub all_by : {A : Type 0} (P : A → Type 0) (xs : List A) → ((x : A) → IsAmong x xs → P x)
    → AllByRecursion P xs
all_by P [] each = tt
all_by P (x ∷ xs) each = (each x (inl refl), all_by P xs (λ y i. each y (inr i)))

-- one more with another number
pub differ_more : (v : LogVersion) (xs : List Authenticator) (a : Authenticator) → NumbersDiffer v xs
    → ((c : Authenticator) → IsAmong c xs → number_of v c ≢ number_of v a) → NumbersDiffer v (xs ++ a ∷ [])
differ_more v [] a d other = (tt, tt)
differ_more v (x ∷ xs) a d other = (
  all_by (λ c. number_of v x ≢ number_of v c) (xs ++ a ∷ []) (λ c i. by c (split c xs (a ∷ []) i)),
  differ_more v xs a d.1 (λ c i. other c (inr i)),
)
  where
    by : (c : Authenticator) → IsAmong c xs ⊎ IsAmong c (a ∷ []) → number_of v x ≢ number_of v c
    by c (inl i) = all_of (λ y. number_of v x ≢ number_of v y) xs c d.0 i
    by c (inr (inl e)) = λ same. other x (inl refl) (same ∙ ap (number_of v) e)
    by c (inr (inr j)) = absurd j

-- those that pass a test
pub differ_filter : (v : LogVersion) (test : Authenticator → Bool) (xs : List Authenticator)
    → NumbersDiffer v xs → NumbersDiffer v (filter test xs)
differ_filter v test [] d = tt
differ_filter v test (x ∷ xs) d = by (test x) (differ_filter v test xs d.1)
  where
    by : (b : Bool) → NumbersDiffer v (filter test xs)
        → NumbersDiffer v (cond b (x ∷ filter test xs) (filter test xs))
    by true rest = (
      all_by (λ c. number_of v x ≢ number_of v c) (filter test xs)
          (λ c i. all_of (λ y. number_of v x ≢ number_of v y) xs c d.0 (filtered test xs c i).0),
      rest,
    )
    by false rest = rest

-- two with one number are one
pub differ_one : (v : LogVersion) (xs : List Authenticator) (x y : Authenticator) → NumbersDiffer v xs
    → IsAmong x xs → IsAmong y xs → number_of v x ≡ number_of v y → x ≡ y
differ_one v [] x y d i j same = absurd i
differ_one v (z ∷ xs) x y d (inl e) (inl f) same = e ∙ sym f
differ_one v (z ∷ xs) x y d (inl e) (inr j) same =
    absurd (all_of (λ c. number_of v z ≢ number_of v c) xs y d.0 j
    (sym (ap (number_of v) e) ∙ same))
differ_one v (z ∷ xs) x y d (inr i) (inl f) same =
    absurd (all_of (λ c. number_of v z ≢ number_of v c) xs x d.0 i
    (sym (ap (number_of v) f) ∙ sym same))
differ_one v (z ∷ xs) x y d (inr i) (inr j) same = differ_one v xs x y d.1 i j same

-- ---- what is shown

-- what evidence, learned authenticators, segments and a base show
abbrev pub showing_of : Option KnownBase → LogVersion → Option EvidenceParts → List Authenticator
    → List VersionedParts → List Pair
showing_of base v e learned segments =
    first_pair
    ∷ (exposing_pairs e ++ (map (pair_of v) learned ++ (flat_map marks_of segments ++ base_pairs base)))

-- where a pair is shown
pub data Shower (base : Option KnownBase) (v : LogVersion) (e : Option EvidenceParts)
    (learned : List Authenticator) (segments : List VersionedParts) (p : Pair)
    : Type 0 where
  AtFirst : p ≡ first_pair → Shower base v e learned segments p
  Exposing : IsAmong p (exposing_pairs e) → Shower base v e learned segments p
  Learned : (a : Authenticator) → IsAmong a learned → p ≡ pair_of v a → Shower base v e learned segments p
  Segment : (s : VersionedParts) → IsAmong s segments → IsAmong p (marks_of s)
      → Shower base v e learned segments p
  OfBase : IsAmong p (base_pairs base) → Shower base v e learned segments p

module _ (base : Option KnownBase) (v : LogVersion) (e : Option EvidenceParts) (learned : List Authenticator)
    (segments : List VersionedParts) (p : Pair) where
  -- what the segments and the base show
  abbrev last_pairs : List Pair
  last_pairs = flat_map marks_of segments ++ base_pairs base

  -- where it is
  pub shower : IsAmong p (showing_of base v e learned segments) → Shower base v e learned segments p
  shower (inl same) = AtFirst same
  shower (inr i) =
      by (split p (exposing_pairs e) (map (pair_of v) learned ++ last_pairs) i)
    where
      of_learned : IsImage (pair_of v) learned p → Shower base v e learned segments p
      of_learned r = Learned r.of r.among r.is

      of_segment : IsWithin marks_of segments p → Shower base v e learned segments p
      of_segment r = Segment r.of r.among r.is

      by_last : IsAmong p (flat_map marks_of segments) ⊎ IsAmong p (base_pairs base)
          → Shower base v e learned segments p
      by_last (inl j) = of_segment (within marks_of segments p j)
      by_last (inr j) = OfBase j

      by_rest : IsAmong p (map (pair_of v) learned) ⊎ IsAmong p last_pairs
          → Shower base v e learned segments p
      by_rest (inl j) = of_learned (image (pair_of v) learned p j)
      by_rest (inr j) = by_last (split p (flat_map marks_of segments) (base_pairs base) j)

      by : IsAmong p (exposing_pairs e) ⊎ IsAmong p (map (pair_of v) learned ++ last_pairs)
          → Shower base v e learned segments p
      by (inl j) = Exposing j
      by (inr j) = by_rest (split p (map (pair_of v) learned) last_pairs j)

  at_last : IsAmong p last_pairs → IsAmong p (showing_of base v e learned segments)
  at_last i =
      inr (on_right p (exposing_pairs e) (map (pair_of v) learned ++ last_pairs)
      (on_right p (map (pair_of v) learned) last_pairs i))

  -- so it is shown
  pub shows : Shower base v e learned segments p → IsAmong p (showing_of base v e learned segments)
  shows (AtFirst same) = inl same
  shows (Exposing i) =
      inr (on_left p (exposing_pairs e) (map (pair_of v) learned ++ last_pairs) i)
  shows (Learned a i same) =
      inr (on_right p (exposing_pairs e) (map (pair_of v) learned ++ last_pairs)
      (on_left p (map (pair_of v) learned) last_pairs
      (subst (λ q. IsAmong q (map (pair_of v) learned)) (sym same) (mapped (pair_of v) learned a i))))
  shows (Segment s i j) =
      at_last (on_left p (flat_map marks_of segments) (base_pairs base) (of_within marks_of segments s p i j))
  shows (OfBase i) = at_last (on_right p (flat_map marks_of segments) (base_pairs base) i)

-- what is shown where the audit begins is shown
pub starts_shown : (base : Option KnownBase) (v : LogVersion) (e : Option EvidenceParts)
    (learned : List Authenticator) (segments : List VersionedParts) (p : Pair) → IsAmong p (start_pairs base)
    → IsAmong p (showing_of base v e learned segments)
starts_shown None v e learned segments p (inl same) = inl same
starts_shown None v e learned segments p (inr i) = absurd i
starts_shown (Some b) v e learned segments p (inl same) = inl same
starts_shown (Some b) v e learned segments p (inr i) = shows (Some b) v e learned segments p (OfBase i)

-- ---- what a fork's evidence shows

-- it shows the closing of the new showing
pub fork_shows : (b : Book) (new : ShowingParts) (ps : List Pair) (e : EvidenceParts)
    → fork_evidence b new ps ≡ Some e → exposing_pairs (Some e) ≡ pair_of b.log_version new.closing ∷ []
fork_shows b new ps e h = by_number (first_fork ps (book_shown b)) refl
  where
    some_same : {A : Type 0} {x y : A} → ◌≡◌ {A = Option A} (Some x) (Some y) → x ≡ y
    some_same h = cc

    of_charge : (c : Charge)
        → exposing_pairs (Some (record { node = b.node; charge = c }))
        ≡ pair_of b.log_version new.closing ∷ []
        → evidence_of b (Some c) ≡ Some e → exposing_pairs (Some e) ≡ pair_of b.log_version new.closing ∷ []
    of_charge c is k = sym (ap (λ (f : EvidenceParts). exposing_pairs (Some f)) (some_same k)) ∙ is

    by_old : (n : ℕ) (o : Option ShowingParts)
        → evidence_of b (option_map (λ old.
        Fork (record { log_version = b.log_version; at = n; a = old; b = Some new })) o) ≡ Some e
        → exposing_pairs (Some e) ≡ pair_of b.log_version new.closing ∷ []
    by_old n None k = absurd (cc)
    by_old n (Some old) k =
        of_charge (Fork (record { log_version = b.log_version; at = n; a = old; b = Some new })) refl k

    by_zero : (n : ℕ) (z : Bool)
        → evidence_of b (cond z
        (Some (Fork (record { log_version = b.log_version; at = 0; a = new; b = None })))
        (option_map (λ old. Fork (record { log_version = b.log_version; at = n; a = old; b = Some new }))
        (showing_before b.base b.log_version b.learned b.segments n)))
        ≡ Some e
        → exposing_pairs (Some e) ≡ pair_of b.log_version new.closing ∷ []
    by_zero n true k =
        of_charge (Fork (record { log_version = b.log_version; at = 0; a = new; b = None })) refl k
    by_zero n false k = by_old n (showing_before b.base b.log_version b.learned b.segments n) k

    by_fork : (o : Option ℕ)
        → evidence_of b (option_and_then (fork_of b.base b.log_version b.learned b.segments new) o) ≡ Some e
        → exposing_pairs (Some e) ≡ pair_of b.log_version new.closing ∷ []
    by_fork None k = absurd (cc)
    by_fork (Some n) k = by_zero n ((n == 0) && not (is_some (start_showing b.base 0))) k

    by_number : (o : Option ℕ) → first_fork ps (book_shown b) ≡ o
        → exposing_pairs (Some e) ≡ pair_of b.log_version new.closing ∷ []
    by_number o is =
        by_fork o
        (ap (λ x. evidence_of b (option_and_then (fork_of b.base b.log_version b.learned b.segments new) x))
        (sym is) ∙ h)

-- ---- one shown more

-- lists that hold the same with the same before them
pub same_after : (p : Pair) (xs ys : List Pair) → HoldSame xs ys → HoldSame (p ∷ xs) (p ∷ ys)
same_after p xs ys same q =
    (λ i. by xs ys (same q).0 i, λ i. by ys xs (same q).1 i)
  where
    by : (xs ys : List Pair) → (IsAmong q xs → IsAmong q ys) → IsAmong q (p ∷ xs) → IsAmong q (p ∷ ys)
    by xs ys h (inl e) = inl e
    by xs ys h (inr i) = inr (h i)

-- the same with a list before them
pub same_past : (ps xs ys : List Pair) → HoldSame xs ys → HoldSame (ps ++ xs) (ps ++ ys)
same_past [] xs ys same = same
same_past (p ∷ ps) xs ys same = same_after p (ps ++ xs) (ps ++ ys) (same_past ps xs ys same)

-- two steps
pub same_through : (xs ys zs : List Pair) → HoldSame xs ys → HoldSame ys zs → HoldSame xs zs
same_through xs ys zs f g p = (λ i. (g p).0 ((f p).0 i), λ i. (f p).1 ((g p).1 i))

module _ (base : Option KnownBase) (v : LogVersion) (e : Option EvidenceParts) (l : List Authenticator)
    (ss : List VersionedParts) where
  -- one learned
  pub add_learned : (a : Authenticator)
      → HoldSame (showing_of base v e (l ++ a ∷ []) ss) (pair_of v a ∷ showing_of base v e l ss)
  add_learned a p = (λ i. to (shower base v e (l ++ a ∷ []) ss p i), from)
    where
      by : (x : Authenticator) → p ≡ pair_of v x → IsAmong x l ⊎ IsAmong x (a ∷ [])
          → IsAmong p (pair_of v a ∷ showing_of base v e l ss)
      by x same (inl i) = inr (shows base v e l ss p (Learned x i same))
      by x same (inr (inl is)) = inl (same ∙ ap (pair_of v) is)
      by x same (inr (inr i)) = absurd i

      to : Shower base v e (l ++ a ∷ []) ss p → IsAmong p (pair_of v a ∷ showing_of base v e l ss)
      to (AtFirst same) = inr (shows base v e l ss p (AtFirst same))
      to (Exposing i) = inr (shows base v e l ss p (Exposing i))
      to (Learned x i same) = by x same (split x l (a ∷ []) i)
      to (Segment s i j) = inr (shows base v e l ss p (Segment s i j))
      to (OfBase i) = inr (shows base v e l ss p (OfBase i))

      older : Shower base v e l ss p → IsAmong p (showing_of base v e (l ++ a ∷ []) ss)
      older (AtFirst same) = shows base v e (l ++ a ∷ []) ss p (AtFirst same)
      older (Exposing i) = shows base v e (l ++ a ∷ []) ss p (Exposing i)
      older (Learned x i same) = shows base v e (l ++ a ∷ []) ss p (Learned x (on_left x l (a ∷ []) i) same)
      older (Segment s i j) = shows base v e (l ++ a ∷ []) ss p (Segment s i j)
      older (OfBase i) = shows base v e (l ++ a ∷ []) ss p (OfBase i)

      from : IsAmong p (pair_of v a ∷ showing_of base v e l ss) → IsAmong p (showing_of base v e (l ++ a ∷ []) ss)
      from (inl same) = shows base v e (l ++ a ∷ []) ss p (Learned a (on_right a l (a ∷ []) (inl refl)) same)
      from (inr i) = older (shower base v e l ss p i)

  -- one segment
  pub add_segment : (s : VersionedParts)
      → HoldSame (showing_of base v e l (ss ++ s ∷ [])) (marks_of s ++ showing_of base v e l ss)
  add_segment s p = (
    λ i. to (shower base v e l (ss ++ s ∷ []) p i),
    λ i. from (split p (marks_of s) (showing_of base v e l ss) i),
  )
    where
      old : Shower base v e l ss p → IsAmong p (marks_of s ++ showing_of base v e l ss)
      old x = on_right p (marks_of s) (showing_of base v e l ss) (shows base v e l ss p x)

      by : (t : VersionedParts) → IsAmong p (marks_of t) → IsAmong t ss ⊎ IsAmong t (s ∷ [])
          → IsAmong p (marks_of s ++ showing_of base v e l ss)
      by t j (inl i) = old (Segment t i j)
      by t j (inr (inl is)) =
          on_left p (marks_of s) (showing_of base v e l ss) (subst (λ u. IsAmong p (marks_of u)) is j)
      by t j (inr (inr i)) = absurd i

      to : Shower base v e l (ss ++ s ∷ []) p → IsAmong p (marks_of s ++ showing_of base v e l ss)
      to (AtFirst same) = old (AtFirst same)
      to (Exposing i) = old (Exposing i)
      to (Learned x i same) = old (Learned x i same)
      to (Segment t i j) = by t j (split t ss (s ∷ []) i)
      to (OfBase i) = old (OfBase i)

      older : Shower base v e l ss p → IsAmong p (showing_of base v e l (ss ++ s ∷ []))
      older (AtFirst same) = shows base v e l (ss ++ s ∷ []) p (AtFirst same)
      older (Exposing i) = shows base v e l (ss ++ s ∷ []) p (Exposing i)
      older (Learned x i same) = shows base v e l (ss ++ s ∷ []) p (Learned x i same)
      older (Segment t i j) = shows base v e l (ss ++ s ∷ []) p (Segment t (on_left t ss (s ∷ []) i) j)
      older (OfBase i) = shows base v e l (ss ++ s ∷ []) p (OfBase i)

      from : IsAmong p (marks_of s) ⊎ IsAmong p (showing_of base v e l ss)
          → IsAmong p (showing_of base v e l (ss ++ s ∷ []))
      from (inl j) = shows base v e l (ss ++ s ∷ []) p (Segment s (on_right s ss (s ∷ []) (inl refl)) j)
      from (inr i) = older (shower base v e l ss p i)

-- evidence that shows a pair
pub add_exposing : (base : Option KnownBase) (v : LogVersion) (e : EvidenceParts) (q : Pair) (l : List Authenticator)
    (ss : List VersionedParts)
    → exposing_pairs (Some e) ≡ q ∷ [] → HoldSame (showing_of base v (Some e) l ss) (q ∷ showing_of base v None l ss)
add_exposing base v e q l ss is p = (
  λ i. to (subst (λ xs. IsAmong p (first_pair ∷ (xs ++ rest))) is i),
  λ i. subst (λ xs. IsAmong p (first_pair ∷ (xs ++ rest))) (sym is) (from i),
)
  where
    rest : List Pair
    rest = map (pair_of v) l ++ (flat_map marks_of ss ++ base_pairs base)

    to : IsAmong p (first_pair ∷ q ∷ rest) → IsAmong p (q ∷ first_pair ∷ rest)
    to (inl h) = inr (inl h)
    to (inr (inl h)) = inl h
    to (inr (inr i)) = inr (inr i)

    from : IsAmong p (q ∷ first_pair ∷ rest) → IsAmong p (first_pair ∷ q ∷ rest)
    from (inl h) = inr (inl h)
    from (inr (inl h)) = inl h
    from (inr (inr i)) = inr (inr i)

-- ---- how many they are

uncut : (v : LogVersion) (x : Authenticator) (xs before rest : List Authenticator)
    → NumbersDiffer v (x ∷ xs)
    → ((a : Authenticator) → IsAmong a (x ∷ xs) → IsAmong a (before ++ x ∷ rest))
    → (a : Authenticator) → IsAmong a xs → IsAmong a (before ++ rest)
uncut v x xs before rest d within a i = by (split a before (x ∷ rest) (within a (inr i)))
  where
    by : IsAmong a before ⊎ IsAmong a (x ∷ rest) → IsAmong a (before ++ rest)
    by (inl j) = on_left a before rest j
    by (inr (inl e)) =
        absurd (all_of (λ c. number_of v x ≢ number_of v c) xs a d.0 i (sym (ap (number_of v) e)))
    by (inr (inr j)) = on_right a before rest j

-- those whose numbers differ are no more than those among which they are
no_more : (v : LogVersion) (xs ys : List Authenticator) → NumbersDiffer v xs
    → ((a : Authenticator) → IsAmong a xs → IsAmong a ys)
    → length xs ≤ length ys
no_more v [] ys d within = omega arith
no_more v (x ∷ xs) ys d within =
    let c = cut x ys (within x (inl refl)) in
    let rest = no_more v xs (c.before ++ c.rest) d.1
    (uncut v x xs c.before c.rest d (λ a i. subst (IsAmong a) c.is (within a i))) in
    omega (arith, rest, length-append c.before c.rest, ap length c.is, length-append c.before (x ∷ c.rest))

-- as many, where they hold the same
pub as_many : (v : LogVersion) (xs ys : List Authenticator) → NumbersDiffer v xs → NumbersDiffer v ys
    → HoldSame xs ys → length xs ≡ length ys
as_many v xs ys d f same =
    omega (arith, no_more v xs ys d (λ a. (same a).0), no_more v ys xs f (λ a. (same a).1))
