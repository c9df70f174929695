-- While a node isn't exposed, each pair that it showed, but that at 0 where there is no base, is one of the base,
-- of a learned authenticator that is kept, or of an accepted segment.
-- Serves: evidence_where_exposed, evidence_proves.
use Rattle.std.proofs.Common.{◌≡◌, ◌⊎◌, inl, inr, ℕ, ◌+◌, ◌-◌, ◌<◌, ◌≤◌, Bool, true, false, cond, ◌==◌}
use Rattle.std.proofs.Common.{nat_lt, nat_le, List, [], ◌∷◌, ◌++◌, filter, Option, Some, None, refl}
use Rattle.std.proofs.Common.{sym, ap}
use Rattle.std.proofs.Common.{subst, ◌∙◌, arith, eqb-true, eq-eqb}
use Rattle.std.specs.Prelude.{find, is_some, not, ◌&&◌}
use Rattle.std.proofs.lemmas.Bool.{and_parts, and_from, true≢false, ltb-true, ltb-false, leb-true}
use Rattle.std.proofs.lemmas.Bool.{leb-false, le-leb}
use Rattle.std.proofs.lemmas.Option.{same_Some}
use Rattle.authenticator.specs.declared.authenticator.Authenticator.{Authenticator}
use Rattle.authenticator.proofs.Members.{member_node}
use Rattle.secure_log.specs.LogEntries.Chain.{IsAmong}
use Rattle.secure_log.specs.Versioned.{VersionedParts, ClosedParts, segment_marks, versioned_links}
use Rattle.authenticator.specs.Signing.{is_same}
use Rattle.authenticator.proofs.Signed.{same_list, list_same, is_false}
use Rattle.witness_spec.specs.evidence_spec.Showing.{ShowingParts, showing_marks}
use Rattle.witness_spec.specs.evidence_spec.Showing.{authenticator_showing, versioned_showing}
use Rattle.witness_spec.specs.evidence_spec.Laws.{ShowsMarks}
use Rattle.witness_spec.proofs.evidence_spec.Closed.{one_pair, own_marks}
use Rattle.witness_spec.specs.Replies.{Reply}
use Rattle.witness_spec.specs.Starting.{KnownBase, IsKnownBase, IsBaseAt, start_number, start_pairs, is_below}
use Rattle.witness_spec.specs.Starting.{start_showing}
use Rattle.witness_spec.specs.Watched.{Watched, IsInRoster}
use Rattle.witness_spec.specs.Steps.{Step, Learn, Past}
use Rattle.witness_spec.specs.Pairs.{Pair, number_of, pair_of, last_of}
use Rattle.witness_spec.specs.Done.{noted, accepted}
use Rattle.witness_spec.specs.Standing.{end_of, pairs_noted, pairs_accepted, shown, is_exposed}
use Rattle.witness_spec.specs.Standing.{unless_exposed}
use Rattle.witness_spec.specs.Standing.{noted_before, kept, segment_of, all_accepted}
use Rattle.witness_spec.specs.Exposing.{segment_holding, or_segment, kept_before, showing_before}
use Rattle.witness_spec.specs.Histories.{AreOwed}
use Rattle.witness_spec.specs.Laws.{HasTwoHashes}
use Rattle.witness_laws.proofs.Exposing.{exposed_is, why_exposed, exposed_further}
use Rattle.witness_laws.proofs.Doing.{Doing, Nothing, Notes, Accepts, Asks, Begins, Files, PutsBack, doing}
use Rattle.witness_laws.proofs.Checked.{IsLearned, IsCheckedStep, AreChecked}
use Rattle.witness_laws.proofs.OfEvidence.Audits.{IsGoodSegment, its_log_version, are_numbered, last_is}
use Rattle.witness_laws.proofs.OfEvidence.Audits.{IsHeld, Stand}
use Rattle.witness_laws.proofs.OfEvidence.Marks.{has_mark, mark_within}
use Rattle.witness_laws.proofs.OfEvidence.Starts.{base_mark, base_shown, begun_fits, start_low, start_shown}

-- ---- lists

-- what is in two lists together is in one of them
pub split : {A : Type 0} (x : A) (xs ys : List A) → IsAmong x (xs ++ ys) → IsAmong x xs ⊎ IsAmong x ys
split x [] ys i = inr i
split x (z ∷ xs) ys (inl e) = inl (inl e)
split x (z ∷ xs) ys (inr i) = elim (split x xs ys i) [ inl a ↦ inl (inr a) | inr b ↦ inr b ]

-- what is in the first of two lists is in both together
pub on_left : {A : Type 0} (x : A) (xs ys : List A) → IsAmong x xs → IsAmong x (xs ++ ys)
on_left x [] ys i = absurd i
on_left x (z ∷ xs) ys (inl e) = inl e
on_left x (z ∷ xs) ys (inr i) = inr (on_left x xs ys i)

-- what is in the second of two lists is in both together
pub on_right : {A : Type 0} (x : A) (xs ys : List A) → IsAmong x ys → IsAmong x (xs ++ ys)
on_right x [] ys i = i
on_right x (z ∷ xs) ys i = inr (on_right x xs ys i)

-- what is found is among those that were looked through, and passes the test
pub found : {A : Type 0} (test : A → Bool) (xs : List A) (y : A) → find test xs ≡ Some y
    → IsAmong y xs × (test y ≡ true)
found test [] y h = absurd (cc)
found {A} test (x ∷ xs) y h = by (test x) refl h (λ k. found test xs y k)
  where
    by : (b : Bool) → test x ≡ b → ◌≡◌ {A = Option A} (cond b (Some x) (find test xs)) (Some y)
        → (find test xs ≡ Some y → IsAmong y xs × (test y ≡ true)) → IsAmong y (x ∷ xs) × (test y ≡ true)
    by true e h rest = let same : x ≡ y = same_Some _ _ h in (inl (sym same), ap test (sym same) ∙ e)
    by false e h rest = let more = rest h in (inr more.0, more.1)

-- if nothing is found, none passes
pub not_found : {A : Type 0} (test : A → Bool) (xs : List A) (y : A) → find test xs ≡ None → IsAmong y xs
    → test y ≡ false
not_found test [] y h i = absurd i
not_found {A} test (x ∷ xs) y h i = by (test x) refl h i (λ k j. not_found test xs y k j)
  where
    by : (b : Bool) → test x ≡ b → ◌≡◌ {A = Option A} (cond b (Some x) (find test xs)) None
        → (y ≡ x) ⊎ IsAmong y xs → (find test xs ≡ None → IsAmong y xs → test y ≡ false) → test y ≡ false
    by true e h i rest = absurd (cc)
    by false e h (inl same) rest = ap test same ∙ e
    by false e h (inr i) rest = rest h i

filtered : {A : Type 0} (test : A → Bool) (xs : List A) (y : A) → IsAmong y (filter test xs) → IsAmong y xs
filtered test [] y i = absurd i
filtered test (x ∷ xs) y i = by (test x) i (λ j. filtered test xs y j)
  where
    by : (b : Bool) → IsAmong y (cond b (x ∷ filter test xs) (filter test xs))
        → (IsAmong y (filter test xs) → IsAmong y xs) → IsAmong y (x ∷ xs)
    by true (inl e) rest = inl e
    by true (inr i) rest = inr (rest i)
    by false i rest = inr (rest i)

-- what passes a test is among what is kept
pub passing : {A : Type 0} (test : A → Bool) (xs : List A) (y : A) → IsAmong y xs → test y ≡ true
    → IsAmong y (filter test xs)
passing test [] y i h = absurd i
passing test (x ∷ xs) y (inl e) h =
    subst (λ b. IsAmong y (cond b (x ∷ filter test xs) (filter test xs))) (sym (ap test (sym e) ∙ h)) (inl e)
passing test (x ∷ xs) y (inr i) h = by (test x) (passing test xs y i h)
  where
    by : (b : Bool) → IsAmong y (filter test xs) → IsAmong y (cond b (x ∷ filter test xs) (filter test xs))
    by true rest = inr rest
    by false rest = rest

module _ (w : Watched) where
  -- the pair of an authenticator in the node's log
  abbrev own_pair : Authenticator → Pair
  own_pair a = pair_of w.member.log_version a

  -- ---- what is shown

  -- one hash is shown at each number
  pub one_shown : (past : Past) → is_exposed w past ≡ false → (n : ℕ) (x y : List ℕ)
      → IsAmong (n, x) (shown w past) → IsAmong (n, y) (shown w past) → x ≡ y
  one_shown past e n x y i j = by (is_same x y) refl
    where
      by : (b : Bool) → is_same x y ≡ b → x ≡ y
      by true s = same_list x y s
      by false s =
          let two : HasTwoHashes (shown w past) = record {
            number = n;
            one = x;
            other = y;
            one_shown = i;
            other_shown = j;
            differ = λ h. true≢false (sym (list_same x y h) ∙ s);
          } in absurd (true≢false (sym (exposed_is w past (why_exposed w past (inl two))) ∙ e))

  -- a node that isn't exposed after a step wasn't exposed before it
  pub was_not : (p : Step × Reply) (past : Past) → is_exposed w (p ∷ past) ≡ false
      → is_exposed w past ≡ false
  was_not p past e =
      is_false (is_exposed w past) (λ h. true≢false (sym (exposed_further w (p ∷ []) past h) ∙ e))

  -- a good segment that was accepted showed its pairs
  pub accepted_shown : (past : Past) (s : VersionedParts) (q : Pair) → IsAmong s (all_accepted past)
      → IsAmong q (segment_marks s) → IsAmong q (shown w past)
  accepted_shown [] s q i j = absurd i
  accepted_shown (p ∷ past) s q i j =
      on_right q (pairs_noted w.member.log_version (is_exposed w past) (noted p.0 p.1))
      (pairs_accepted (accepted p.0 p.1) ++ shown w past)
      (by (accepted p.0 p.1) i (λ k. accepted_shown past s q k j))
    where
      by : (o : Option ClosedParts) → IsAmong s (segment_of o ++ all_accepted past)
          → (IsAmong s (all_accepted past) → IsAmong q (shown w past))
          → IsAmong q (pairs_accepted o ++ shown w past)
      by None i rest = rest i
      by (Some c) (inl e) rest =
          on_left q (segment_marks c.segment) (shown w past) (subst (λ t. IsAmong q (segment_marks t)) e j)
      by (Some c) (inr i) rest = on_right q (segment_marks c.segment) (shown w past) (rest i)

  -- what was noted is that of a Learn
  noted_step : (past : Past) (p : Step × Reply) (a : Authenticator) → Doing w past p
      → noted p.0 p.1 ≡ Some a → p.0 ≡ Learn a
  noted_step past p a (Nothing did) h = let no : None ≡ Some a = sym did.notes ∙ h in absurd (cc)
  noted_step past p a (Notes b is above did) h = is ∙ ap (λ x. Learn x) (same_Some _ _ (sym did.notes ∙ h))
  noted_step past p a (Accepts c is wanted did) h = let no : None ≡ Some a = sym did.notes ∙ h in absurd (cc)
  noted_step past p a (Asks first last is few did) h = let no : None ≡ Some a = sym did.notes ∙ h in
      absurd (cc)
  noted_step past p a (Begins c is did) h = let no : None ≡ Some a = sym did.notes ∙ h in absurd (cc)
  noted_step past p a (Files j is did) h = let no : None ≡ Some a = sym did.notes ∙ h in absurd (cc)
  noted_step past p a (PutsBack c is did) h = let no : None ≡ Some a = sym did.notes ∙ h in absurd (cc)

  noted_good : (past : Past) (a : Authenticator) → AreOwed w past → AreChecked w past
      → IsAmong a (noted_before w past) → IsLearned w a
  noted_good [] a owed checked i = absurd i
  noted_good (p ∷ past) a owed checked i =
      by (is_exposed w (p ∷ past)) (noted p.0 p.1) refl i (λ k. noted_good past a owed.1 checked.1 k)
    where
      by : (b : Bool) (o : Option Authenticator) → noted p.0 p.1 ≡ o
          → IsAmong a (unless_exposed b o ++ noted_before w past)
          → (IsAmong a (noted_before w past) → IsLearned w a) → IsLearned w a
      by b None h i rest = rest i
      by true (Some c) h i rest = rest i
      by false (Some c) h (inr i) rest = rest i
      by false (Some c) h (inl e) rest =
          let is : p.0 ≡ Learn c = noted_step past p c (doing w past p.0 p.1 owed.0) h in
          subst (IsLearned w) (sym e) (subst (IsCheckedStep w) is checked.0)

  noted_shown : (past : Past) (a : Authenticator) → is_exposed w past ≡ false
      → IsAmong a (noted_before w past) → IsAmong (own_pair a) (shown w past)
  noted_shown [] a e i = absurd i
  noted_shown (p ∷ past) a e i =
      by (noted p.0 p.1) refl
      (subst (λ b. IsAmong a (unless_exposed b (noted p.0 p.1) ++ noted_before w past)) e i)
      (λ k. noted_shown past a (was_not p past e) k)
    where
      earlier : IsAmong (own_pair a) (shown w past) → IsAmong (own_pair a) (shown w (p ∷ past))
      earlier i =
          on_right (own_pair a) (pairs_noted w.member.log_version (is_exposed w past) (noted p.0 p.1))
          (pairs_accepted (accepted p.0 p.1) ++ shown w past)
          (on_right (own_pair a) (pairs_accepted (accepted p.0 p.1)) (shown w past) i)

      by : (o : Option Authenticator) → noted p.0 p.1 ≡ o
          → IsAmong a (unless_exposed false o ++ noted_before w past)
          → (IsAmong a (noted_before w past) → IsAmong (own_pair a) (shown w past))
          → IsAmong (own_pair a) (shown w (p ∷ past))
      by None h i rest = earlier (rest i)
      by (Some c) h (inr i) rest = earlier (rest i)
      by (Some c) h (inl same) rest =
          subst (λ b. IsAmong (own_pair a)
          (pairs_noted w.member.log_version b (noted p.0 p.1)
          ++ (pairs_accepted (accepted p.0 p.1) ++ shown w past)))
          (sym (was_not p past e))
          (subst (λ o. IsAmong (own_pair a)
          (pairs_noted w.member.log_version false o
          ++ (pairs_accepted (accepted p.0 p.1) ++ shown w past))) (sym h)
          (inl (ap own_pair same)))

  -- ---- where it is shown

  -- a pair that was shown is one of those at first, of an authenticator that was noted, or of an accepted segment
  pub data Source (past : Past) (n : ℕ) (x : List ℕ) : Type 0 where
    AtFirst : IsAmong (n, x) (start_pairs w.base) → Source past n x
    OfNoted : (a : Authenticator) → IsAmong a (noted_before w past)
        → ◌≡◌ {A = Pair} (n, x) (own_pair a) → Source past n x
    OfAccepted : (s : VersionedParts) → IsAmong s (all_accepted past) → IsAmong (n, x) (segment_marks s)
        → Source past n x

  sourced : (past : Past) (n : ℕ) (x : List ℕ) → is_exposed w past ≡ false
      → IsAmong (n, x) (shown w past)
      → Source past n x
  sourced [] n x e i = AtFirst i
  sourced (p ∷ past) n x e i =
      let new = pairs_noted w.member.log_version (is_exposed w past) (noted p.0 p.1) in
      let given = pairs_accepted (accepted p.0 p.1) in
      by (split (n, x) new (given ++ shown w past) i)
      (λ k. older (sourced past n x (was_not p past e) k))
    where
      older : Source past n x → Source (p ∷ past) n x
      older (AtFirst i) = AtFirst i
      older (OfNoted a i same) =
          OfNoted a (on_right a (unless_exposed (is_exposed w (p ∷ past)) (noted p.0 p.1))
          (noted_before w past) i)
          same
      older (OfAccepted s i j) =
          OfAccepted s (on_right s (segment_of (accepted p.0 p.1)) (all_accepted past) i) j

      by_noted : (b : Bool) (o : Option Authenticator) → noted p.0 p.1 ≡ o
          → IsAmong (n, x) (pairs_noted w.member.log_version b o) → Source (p ∷ past) n x
      by_noted b None h i = absurd i
      by_noted true (Some a) h i = absurd i
      by_noted false (Some a) h (inr i) = absurd i
      by_noted false (Some a) h (inl same) =
          OfNoted a
          (subst (λ b. IsAmong a (unless_exposed b (noted p.0 p.1) ++ noted_before w past)) (sym e)
          (subst (λ o. IsAmong a (unless_exposed false o ++ noted_before w past)) (sym h) (inl refl)))
          same

      by_accepted : (o : Option ClosedParts) → accepted p.0 p.1 ≡ o
          → IsAmong (n, x) (pairs_accepted o)
          → Source (p ∷ past) n x
      by_accepted None h i = absurd i
      by_accepted (Some c) h i =
          OfAccepted c.segment (subst (λ o. IsAmong c.segment (segment_of o ++ all_accepted past)) (sym h)
          (inl refl)) i

      by : IsAmong (n, x) (pairs_noted w.member.log_version (is_exposed w past) (noted p.0 p.1))
          ⊎ IsAmong (n, x) (pairs_accepted (accepted p.0 p.1) ++ shown w past)
          → (IsAmong (n, x) (shown w past) → Source (p ∷ past) n x) → Source (p ∷ past) n x
      by (inl i) rest = by_noted (is_exposed w past) (noted p.0 p.1) refl i
      by (inr i) rest =
          elim (split (n, x) (pairs_accepted (accepted p.0 p.1)) (shown w past) i) [
            | inl j ↦ by_accepted (accepted p.0 p.1) refl j
            | inr j ↦ rest j
          ]

-- ---- what shows it

-- a showing of the node, in a log of the version of its log, closed, with a text, of these pairs
pub record IsGoodShowing (w : Watched) (s : ShowingParts) (ps : List Pair) : Type 0 where
  -- it is of the node
  pub node : s.node ≡ w.member.node
  -- it is closed, has a text, and shows these pairs
  pub shows : ShowsMarks w.member.log_version w.roster s ps

-- a learned authenticator of the node, alone, shows its own pair
pub good_authenticator : (w : Watched) (a : Authenticator) → IsLearned w a
    → IsGoodShowing w (authenticator_showing w.member.log_version a) (pair_of w.member.log_version a ∷ [])
good_authenticator w a good =
    record { node = good.node; shows = one_pair w.member.log_version w.roster a good.text good.signed }

-- a good segment of the node, without its entries, shows all its marks
pub good_segment : (w : Watched) (s : VersionedParts) → IsInRoster w → IsGoodSegment w s
    → IsGoodShowing w (versioned_showing s) (segment_marks s)
good_segment w s is good = record {
  node = sym good.closed.ends.node ∙ good.node;
  shows = subst (λ v. ShowsMarks v w.roster (versioned_showing s) (segment_marks s))
      (its_log_version w s is good) (own_marks w.roster s good.fits good.closed);
}

-- a good base of the node shows its marks
good_base : (w : Watched) (b : KnownBase) → IsKnownBase w.roster w.member b
    → IsGoodShowing w b.parts.showing (showing_marks b.parts.showing)
good_base w b known =
    let good = known.good in
    record {
      node = sym (member_node w.roster b.parts.showing.node w.member good.is_member);
      shows = subst (λ v. ShowsMarks v w.roster b.parts.showing (showing_marks b.parts.showing))
          good.of_member.log_version
          (record {
            closed = good.closed;
            text = (begun_fits b.parts.log_version b.parts known.text).0;
            is = refl;
          });
    }

-- a showing that was looked up shows a hash at a number
pub record IsShownBefore (w : Watched) (looked : Option ShowingParts) (n : ℕ) (x : List ℕ) : Type 0 where
  -- the showing
  pub showing : ShowingParts
  -- it is the one that was looked up
  pub is : looked ≡ Some showing
  -- the pairs that it shows
  pub ps : List Pair
  -- it is closed and has a text
  pub good : IsGoodShowing w showing ps
  -- the number and hash are one of those pairs
  pub there : IsAmong (n, x) ps

module _ (w : Watched) (past : Past) (n : ℕ) (x : List ℕ) where
  -- the number of an authenticator in the node's log
  abbrev own_number : Authenticator → ℕ
  own_number a = number_of w.member.log_version a

  abbrev at_number : Authenticator → Bool
  at_number a = own_number a == n

  -- what is looked up for the number among what is kept
  abbrev looked : Option ShowingParts
  looked = kept_before w.member.log_version (kept w past) (all_accepted past) n

  abbrev holds : VersionedParts → Bool
  holds s = nat_le s.first n && nat_le n (last_of s)

  -- a kept one has this hash
  by_kept : (a : Authenticator) → AreOwed w past → AreChecked w past → is_exposed w past ≡ false
      → IsAmong (n, x) (shown w past) → find at_number (kept w past) ≡ Some a
      → IsShownBefore w looked n x
  by_kept a owed checked e i is =
      let f = found at_number (kept w past) a is in
      let before = filtered (λ (b : Authenticator). nat_lt (end_of w past).number (own_number b))
      (noted_before w past) a f.0 in
      let number : own_number a ≡ n = eqb-true (own_number a) n f.1 in
      let there : IsAmong (n, a.hash) (shown w past) =
      subst (λ k. IsAmong (k, a.hash) (shown w past)) number (noted_shown w past a e before) in
      let hash : x ≡ a.hash = one_shown w past e n x a.hash i there in
      record {
        showing = authenticator_showing w.member.log_version a;
        is = ap (λ o. or_segment w.member.log_version o (segment_holding n (all_accepted past))) is;
        ps = pair_of w.member.log_version a ∷ [];
        good = good_authenticator w a (noted_good w past a owed checked before);
        there = inl (ap (λ (k : ℕ). (k, x)) (sym number) ∙ ap (λ (y : List ℕ). (own_number a, y)) hash);
      }

  -- a segment that holds the number shows this hash
  by_segment : (s : VersionedParts) → IsInRoster w → Stand w past → is_exposed w past ≡ false
      → IsAmong (n, x) (shown w past) → find at_number (kept w past) ≡ None
      → find holds (all_accepted past) ≡ Some s → IsShownBefore w looked n x
  by_segment s member stand e i none is =
      let f = found holds (all_accepted past) s is in
      let good = (stand.segments s f.0).good in
      let both = and_parts (nat_le s.first n) (nat_le n (last_of s)) f.1 in
      let low : s.first ≤ n = leb-true s.first n both.0 in
      let high : n ≤ last_of s = leb-true n (last_of s) both.1 in
      let has = has_mark (s.first - 1) s.opening (versioned_links s) n (are_numbered s) (omega (arith, low))
      (omega (arith, high, last_is w s good)) in
      let same : has.mark ≡ x =
      one_shown w past e n has.mark x (accepted_shown w past s (n, has.mark) f.0 has.there) i in
      record {
        showing = versioned_showing s;
        is = ap (λ o. or_segment w.member.log_version o (segment_holding n (all_accepted past))) none
            ∙ ap (λ o. or_segment w.member.log_version None o) is;
        ps = segment_marks s;
        good = good_segment w s member good;
        there = subst (λ y. IsAmong (n, y) (segment_marks s)) same has.there;
      }

  -- where none is kept at the number, a segment holds it
  held : IsInRoster w → Stand w past → start_number w.base < n → find at_number (kept w past) ≡ None
      → Source w past n x → IsHeld past n
  held member stand some none (AtFirst i) =
      absurd (omega (arith, some, start_low w.roster w.member w.base member.base n x i))
  held member stand some none (OfNoted a i same) = by (nat_lt (end_of w past).number (own_number a)) refl
    where
      number : n ≡ own_number a
      number = ap (λ (q : Pair). q.0) same

      by : (b : Bool) → nat_lt (end_of w past).number (own_number a) ≡ b → IsHeld past n
      by false e =
          stand.held n some (omega (arith, number, ltb-false (end_of w past).number (own_number a) e))
      by true e =
          absurd (true≢false (sym (eq-eqb (own_number a) n (sym number))
          ∙ not_found at_number (kept w past) a none
          (passing (λ (b : Authenticator). nat_lt (end_of w past).number (own_number b))
          (noted_before w past) a i e)))
  held member stand some none (OfAccepted s i j) = by (nat_lt n s.first) refl
    where
      by : (b : Bool) → nat_lt n s.first ≡ b → IsHeld past n
      by b e =
          let k = stand.segments s i in
          let h = mark_within (s.first - 1) s.opening (versioned_links s) n x (are_numbered s) j in
          let high : n ≤ last_of s = omega (arith, h.1, last_is w s k.good) in
          let low : s.first ≤ n + 1 = omega (arith, h.0) in
          at b e low high k.first
        where
          at : (b : Bool) → nat_lt n s.first ≡ b → s.first ≤ n + 1 → n ≤ last_of s
              → s.first ≤ (end_of w past).number + 1 → IsHeld past n
          at true e low high first = stand.held n some (omega (arith, low, first, ltb-true n s.first e))
          at false e low high first =
              record { segment = s; among = i; from = omega (arith, ltb-false n s.first e); to = high }

  by_held : (o : Option VersionedParts) → IsInRoster w → Stand w past → is_exposed w past ≡ false
      → IsAmong (n, x) (shown w past) → find at_number (kept w past) ≡ None
      → IsHeld past n → find holds (all_accepted past) ≡ o → IsShownBefore w looked n x
  by_held (Some s) member stand e i none h is = by_segment s member stand e i none is
  by_held None member stand e i none h is =
      absurd (true≢false (sym (and_from (nat_le h.segment.first n) (nat_le n (last_of h.segment))
      (le-leb h.segment.first n h.from) (le-leb n (last_of h.segment) h.to))
      ∙ not_found holds (all_accepted past) h.segment is h.among))

  by_number : (o : Option Authenticator) → IsInRoster w → AreOwed w past → AreChecked w past
      → Stand w past → is_exposed w past ≡ false → start_number w.base < n → IsAmong (n, x) (shown w past)
      → find at_number (kept w past) ≡ o → IsShownBefore w looked n x
  by_number (Some a) member owed checked stand e some i is = by_kept a owed checked e i is
  by_number None member owed checked stand e some i is =
      by_held (find holds (all_accepted past)) member stand e i is
      (held member stand some is (sourced w past n x e i)) refl

  -- what is looked up where there is a base, by whether the number is past the base's
  at_base : (b : KnownBase) (t : Bool) → w.base ≡ Some b → IsKnownBase w.roster w.member b
      → is_below (Some b) n ≡ false → nat_le n b.parts.at ≡ t
      → (start_number w.base < n → IsShownBefore w looked n x) → is_exposed w past ≡ false
      → IsAmong (n, x) (shown w past)
      → IsShownBefore w
      (cond (is_some (cond t (Some b.parts.showing) None)) (cond t (Some b.parts.showing) None) looked) n x
  at_base b true same known above low rest e i =
      let high : n ≤ b.parts.at = leb-true n b.parts.at low in
      let has = base_mark w.roster w.member b known n (ltb-false n (b.parts.showing.first - 1) above) high in
      let there : IsAmong (n, has.mark) (shown w past) =
      start_shown w past (n, has.mark)
      (subst (λ base. IsAmong (n, has.mark) (start_pairs base)) (sym same) (inr has.there)) in
      let mark : has.mark ≡ x = one_shown w past e n has.mark x there i in
      record {
        showing = b.parts.showing;
        is = refl;
        ps = showing_marks b.parts.showing;
        good = good_base w b known;
        there = subst (λ y. IsAmong (n, y) (showing_marks b.parts.showing)) mark
            (base_shown w.roster w.member b known (n, has.mark) has.there);
      }
  at_base b false same known above low rest e i =
      rest (omega (arith, leb-false n b.parts.at low, ap start_number same))

  -- Each pair that was shown, but that at 0 where there is no base, is shown by the base or by what is kept.
  pub shown_before : IsInRoster w → AreOwed w past → AreChecked w past → Stand w past
      → is_exposed w past ≡ false → is_below w.base n ≡ false
      → ((n == 0) && not (is_some (start_showing w.base 0))) ≡ false → IsAmong (n, x) (shown w past)
      → IsShownBefore w
      (showing_before w.base w.member.log_version (kept w past) (all_accepted past) n) n x
  shown_before member owed checked stand e above late i = by w.base refl member.base above late
    where
      rest : start_number w.base < n → IsShownBefore w looked n x
      rest some = by_number (find at_number (kept w past)) member owed checked stand e some i refl

      positive : (t : Bool) → (n == 0) ≡ t → (t && true) ≡ false → 0 < n
      positive true z late = absurd (true≢false late)
      positive false z late = by_zero (nat_lt 0 n) refl
        where
          by_zero : (c : Bool) → nat_lt 0 n ≡ c → 0 < n
          by_zero true f = ltb-true 0 n f
          by_zero false f =
              let none : n ≡ 0 = omega (arith, ltb-false 0 n f) in
              absurd (true≢false (sym (eq-eqb n 0 none) ∙ z))

      by : (base : Option KnownBase) → w.base ≡ base → IsBaseAt w.roster w.member base
          → is_below base n ≡ false → ((n == 0) && not (is_some (start_showing base 0))) ≡ false
          → IsShownBefore w
          (showing_before base w.member.log_version (kept w past) (all_accepted past) n) n x
      by None same known above late =
          rest (omega (arith, positive (n == 0) refl late, ap start_number same))
      by (Some b) same known above late =
          at_base b (nat_le n b.parts.at) same known above refl rest e i
