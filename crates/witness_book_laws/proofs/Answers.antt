-- A segment that is given for one that was asked for: where it makes a fork is looked up.
-- Serves: answers_look_up.
use Rattle.std.proofs.Common.{◌≡◌, ◌⊎◌, inl, inr, ℕ, zero, suc, ◌+◌, ◌-◌, ◌<◌, ◌≤◌, Bool, true, false, cond}
use Rattle.std.proofs.Common.{not, ◌==◌, nat_lt, List, [], ◌∷◌, ◌++◌}
use Rattle.std.proofs.Common.{Option, Some, None, refl, sym, ap, ap₂, subst, ◌∙◌, arith, append-nil}
use Rattle.std.proofs.Common.{eqb-true, eq-eqb}
use Rattle.std.specs.Prelude.{is_some, nat_le}
use Rattle.std.proofs.lemmas.Bool.{and_parts, and_from, true≢false, leb-true, ltb-true, ltb-false}
use Rattle.authenticator.specs.declared.authenticator.Authenticator.{Authenticator}
use Rattle.authenticator.specs.declared.member.LogVersion.{LogVersion}
use Rattle.authenticator.specs.Signing.{is_same}
use Rattle.authenticator.proofs.Signed.{same_list, list_same}
use Rattle.secure_log.specs.LogEntries.Chain.{AreNumbered, IsAmong, Link, hash_after, marks, none_from}
use Rattle.secure_log.specs.Versioned.{VersionedParts, versioned_links}
use Rattle.secure_log.specs.Marks.{segment_mark_at}
use Rattle.secure_log.proofs.OfLogEntries.Marks.{one_mark}
use Rattle.witness_laws.specs.evidence_spec.Showing.{showing_marks}
use Rattle.witness_laws.specs.evidence_spec.Evidence.{EvidenceParts}
use Rattle.witness_laws.specs.witness_spec.Starting.{KnownBase, start_number}
use Rattle.witness_laws.specs.witness_spec.Pairs.{Pair, number_of, pair_of, differ, is_fork, first_fork}
use Rattle.witness_laws.specs.witness_spec.Pairs.{last_of, marks_of}
use Rattle.witness_laws.specs.witness_spec.Standing.{Wanted}
use Rattle.witness_book_laws.specs.Books.{Book, exposed, exposing_pairs, base_pairs, book_shown}
use Rattle.witness_book_laws.specs.Fitting.{IsMore, FitsTogether}
use Rattle.witness_book_laws.specs.LookUps.{hash_shown, is_other_hash, HasOneMark}
use Rattle.witness_book_laws.specs.Answers.{shows_another, lesser, least_from, answer_fork}
use Rattle.witness_book_laws.proofs.Lists.{passer, passed}
use Rattle.witness_laws.proofs.OfAnswers.Answering.{passes}
use Rattle.witness_laws.proofs.OfEvidence.Audits.{are_numbered}
use Rattle.witness_laws.proofs.OfEvidence.Before.{split}
use Rattle.witness_laws.proofs.OfEvidence.Marks.{mark_within, opening_there}
use Rattle.witness_book_laws.proofs.Kept.{Shower, AtFirst, Exposing, Learned, Segment, OfBase, shower, shows}
use Rattle.witness_book_laws.proofs.Segments.{marked, tile_between}
use Rattle.witness_book_laws.proofs.LookUps.{among_there, among_some, fork_by_look_up}

-- ---- the mark of a segment at a number

-- what a segment shows at a number is its mark there
mark_of_shown : (s : VersionedParts) (n : ℕ) (x : List ℕ) → IsAmong (n, x) (marks_of s)
    → segment_mark_at s n ≡ Some x
mark_of_shown s n x i = by (segment_mark_at s n) refl
  where
    by : (o : Option (List ℕ)) → segment_mark_at s n ≡ o → o ≡ Some x
    by None e = absurd (among_some n (marks_of s) x i e)
    by (Some y) e =
        ap (λ (z : List ℕ). Some z)
        (one_mark (s.first - 1) s.opening (versioned_links s) n y x (are_numbered s)
        (among_there n (marks_of s) y e) i)

-- ---- the least number of which something holds

-- it holds of a number, and of none below
record IsLeastOf (P : ℕ → Type 0) (n : ℕ) : Type 0 where
  -- it holds of this
  holds : P n
  -- it holds of none below
  least : (k : ℕ) → P k → n ≤ k

-- the least of which it holds, if it holds of one
abbrev IsLeast : (P : ℕ → Type 0) → Option ℕ → Type 0
IsLeast P None = (k : ℕ) → P k → ⊥
IsLeast P (Some n) = IsLeastOf P n

-- there is one at most
one_least : (P : ℕ → Type 0) (o q : Option ℕ) → IsLeast P o → IsLeast P q → o ≡ q
one_least P None None i j = refl
one_least P None (Some n) i j = absurd (i n j.holds)
one_least P (Some n) None i j = absurd (j n i.holds)
one_least P (Some n) (Some m) i j =
    let same : n ≡ m = omega (arith, i.least m j.holds, j.least n i.holds) in ap (λ (k : ℕ). Some k) same

-- ---- the first fork of pairs

-- at a number, pairs have another mark than one that is shown
record IsForked (ps shown : List Pair) (n : ℕ) : Type 0 where
  -- the mark
  mark : List ℕ
  -- it is there
  there : IsAmong (n, mark) ps
  -- another one is shown
  forks : is_fork (n, mark) shown ≡ true

more_least : (p : Pair) (ps shown : List Pair) → ((n : ℕ) (x : List ℕ) → IsAmong (n, x) (p ∷ ps) → p.0 ≤ n)
    → IsLeast (IsForked ps shown) (first_fork ps shown)
    → IsLeast (IsForked (p ∷ ps) shown) (first_fork (p ∷ ps) shown)
more_least p ps shown low rest = by (is_fork p shown) refl
  where
    fall : (k : ℕ) → is_fork p shown ≡ false → IsForked (p ∷ ps) shown k → IsForked ps shown k
    fall k miss f = of f.there
      where
        of : (◌≡◌ {A = Pair} (k, f.mark) p) ⊎ IsAmong (k, f.mark) ps → IsForked ps shown k
        of (inl same) = absurd (true≢false (sym f.forks ∙ ap (λ q. is_fork q shown) same ∙ miss))
        of (inr i) = record { mark = f.mark; there = i; forks = f.forks }

    weaken : (o : Option ℕ) → is_fork p shown ≡ false → IsLeast (IsForked ps shown) o
        → IsLeast (IsForked (p ∷ ps) shown) o
    weaken None miss i = λ k f. i k (fall k miss f)
    weaken (Some n) miss i = record {
      holds = record { mark = i.holds.mark; there = inr i.holds.there; forks = i.holds.forks };
      least = λ k f. i.least k (fall k miss f);
    }

    by : (b : Bool) → is_fork p shown ≡ b
        → IsLeast (IsForked (p ∷ ps) shown) (cond b (Some p.0) (first_fork ps shown))
    by true e = record {
      holds = record { mark = p.1; there = inl refl; forks = e };
      least = λ k f. low k f.mark f.there;
    }
    by false e = weaken (first_fork ps shown) e rest

-- numbers don't fall
abbrev Rises : List Pair → Type 0
Rises [] = Unit {0}
Rises (p ∷ ps) = ((n : ℕ) (x : List ℕ) → IsAmong (n, x) ps → p.0 ≤ n) × Rises ps

-- where they don't, the first fork is the least
rises_least : (ps shown : List Pair) → Rises ps → IsLeast (IsForked ps shown) (first_fork ps shown)
rises_least [] shown r = λ k f. f.there
rises_least (p ∷ ps) shown r = more_least p ps shown low (rises_least ps shown r.1)
  where
    low : (n : ℕ) (x : List ℕ) → IsAmong (n, x) (p ∷ ps) → p.0 ≤ n
    low n x (inl e) = omega (arith, ap (λ (q : Pair). q.0) e)
    low n x (inr i) = r.0 n x i

-- no number that is skipped is before the first
none_low : (first count n : ℕ) (x : List ℕ) → IsAmong (n, x) (none_from first count) → first ≤ n
none_low first zero n x i = absurd i
none_low first (suc k) n x (inl e) = omega (arith, ap (λ (q : Pair). q.0) e)
none_low first (suc k) n x (inr i) = omega (arith, none_low (first + 1) k n x i)

-- those that are skipped don't fall
none_rise : (first count : ℕ) (ps : List Pair) → Rises ps
    → ((n : ℕ) (x : List ℕ) → IsAmong (n, x) ps → first + count ≤ n) → Rises (none_from first count ++ ps)
none_rise first zero ps r above = r
none_rise first (suc k) ps r above = (
  λ n x i. by n x (split (n, x) (none_from (first + 1) k) ps i),
  none_rise (first + 1) k ps r (λ n x i. omega (arith, above n x i)),
)
  where
    by : (n : ℕ) (x : List ℕ) → IsAmong (n, x) (none_from (first + 1) k) ⊎ IsAmong (n, x) ps → first ≤ n
    by n x (inl i) = omega (arith, none_low (first + 1) k n x i)
    by n x (inr i) = omega (arith, above n x i)

-- those of marks don't
marks_rise : (before : ℕ) (opening : List ℕ) (links : List Link) → AreNumbered before links
    → Rises (marks before opening links)
marks_rise before opening [] are = (λ n x i. absurd i, tt)
marks_rise before opening (l ∷ links) are =
    let after = hash_after opening l in (
      λ n x i. (mark_within before opening (l ∷ links) n x are (inr i)).0,
      none_rise (before + 1) l.skipped (marks l.number after links) (marks_rise l.number after links are.1)
          (λ n x i. omega (arith, (mark_within l.number after links n x are.1 i).0, are.0)),
    )

-- ---- the least of learned authenticators

-- a number that was found is the least so far
abbrev Covers : Option ℕ → ℕ → Type 0
Covers None k = ⊥
Covers (Some m) k = m ≤ k

-- something holds of a number that was found
abbrev IsSound : (P : ℕ → Type 0) → Option ℕ → Type 0
IsSound P None = Unit {0}
IsSound P (Some m) = P m

-- at the number of one of these authenticators a segment shows another hash
record IsCharged (v : LogVersion) (s : VersionedParts) (cs : List Authenticator) (k : ℕ) : Type 0 where
  -- that one
  one : Authenticator
  -- it is there
  among : IsAmong one cs
  -- its number
  number : k ≡ number_of v one
  -- the segment shows another hash
  another : shows_another v s one ≡ true

lesser_right : (least : Option ℕ) (n : ℕ) → lesser least n ≤ n
lesser_right None n = omega arith
lesser_right (Some m) n = by (nat_lt n m) refl
  where
    by : (b : Bool) → nat_lt n m ≡ b → cond b n m ≤ n
    by true e = omega arith
    by false e = ltb-false n m e

lesser_left : (least : Option ℕ) (n k : ℕ) → Covers least k → lesser least n ≤ k
lesser_left None n k c = absurd c
lesser_left (Some m) n k c = by (nat_lt n m) refl
  where
    by : (b : Bool) → nat_lt n m ≡ b → cond b n m ≤ k
    by true e = omega (arith, ltb-true n m e, c)
    by false e = c

lesser_sound : (P : ℕ → Type 0) (least : Option ℕ) (n : ℕ) → IsSound P least → P n → P (lesser least n)
lesser_sound P None n i p = p
lesser_sound P (Some m) n i p = by (nat_lt n m)
  where
    by : (b : Bool) → P (cond b n m)
    by true = p
    by false = i

least_is : (v : LogVersion) (P : ℕ → Type 0) (s : VersionedParts) (least : Option ℕ) (cs : List Authenticator)
    → IsSound P least
    → ((a : Authenticator) → IsAmong a cs → shows_another v s a ≡ true → P (number_of v a))
    → ((k : ℕ) → P k → Covers least k ⊎ IsCharged v s cs k)
    → IsLeast P (least_from v s least cs)
least_is v P s None [] sound each all = λ k p. elim (all k p) [ inl c ↦ c | inr c ↦ c.among ]
least_is v P s (Some m) [] sound each all = record {
  holds = sound;
  least = λ k p. elim (all k p) [ inl c ↦ c | inr c ↦ absurd c.among ];
}
least_is v P s least (a ∷ cs) sound each all = by (shows_another v s a) refl
    (λ l sound all. least_is v P s l cs sound (λ c i. each c (inr i)) all)
  where
    to_true : shows_another v s a ≡ true → (k : ℕ) → P k
        → Covers (Some (lesser least (number_of v a))) k ⊎ IsCharged v s cs k
    to_true e k p = of (all k p)
      where
        charged : (c : IsCharged v s (a ∷ cs) k) → (c.one ≡ a) ⊎ IsAmong c.one cs
            → Covers (Some (lesser least (number_of v a))) k ⊎ IsCharged v s cs k
        charged c (inl same) =
            let number : k ≡ number_of v a = c.number ∙ ap (number_of v) same in
            inl (omega (arith, number, lesser_right least (number_of v a)))
        charged c (inr i) = inr (record { one = c.one; among = i; number = c.number; another = c.another })

        of : Covers least k ⊎ IsCharged v s (a ∷ cs) k
            → Covers (Some (lesser least (number_of v a))) k ⊎ IsCharged v s cs k
        of (inl c) = inl (lesser_left least (number_of v a) k c)
        of (inr c) = charged c c.among

    to_false : shows_another v s a ≡ false → (k : ℕ) → P k → Covers least k ⊎ IsCharged v s cs k
    to_false e k p = of (all k p)
      where
        charged : (c : IsCharged v s (a ∷ cs) k) → (c.one ≡ a) ⊎ IsAmong c.one cs
            → Covers least k ⊎ IsCharged v s cs k
        charged c (inl same) =
            absurd (true≢false (sym c.another ∙ ap (λ z. shows_another v s z) same ∙ e))
        charged c (inr i) = inr (record { one = c.one; among = i; number = c.number; another = c.another })

        of : Covers least k ⊎ IsCharged v s (a ∷ cs) k → Covers least k ⊎ IsCharged v s cs k
        of (inl c) = inl c
        of (inr c) = charged c c.among

    by : (b : Bool) → shows_another v s a ≡ b
        → ((l : Option ℕ) → IsSound P l → ((k : ℕ) → P k → Covers l k ⊎ IsCharged v s cs k)
        → IsLeast P (least_from v s l cs))
        → IsLeast P (least_from v s (cond b (Some (lesser least (number_of v a))) least) cs)
    by true e rest =
        rest (Some (lesser least (number_of v a)))
        (lesser_sound P least (number_of v a) sound (each a (inl refl) e)) (to_true e)
    by false e rest = rest least sound (to_false e)

-- ---- a segment that follows on the end

-- another hash is another one from either side
other_side : (x y : List ℕ) → not (is_same x y) ≡ true → not (is_same y x) ≡ true
other_side x y h = by (is_same y x) refl
  where
    by : (b : Bool) → is_same y x ≡ b → not b ≡ true
    by false e = refl
    by true e =
        let same : x ≡ y = sym (same_list y x e) in
        absurd (true≢false (sym h ∙ ap not (list_same x y same)))

-- a segment that was asked for follows on the end, and no accepted one lies above
record IsAsked (b : Book) (s : VersionedParts) : Type 0 where
  -- it follows on the end
  first : s.first ≡ b.end.number + 1
  -- no accepted segment lies above the end
  below : (t : VersionedParts) → IsAmong t b.segments → last_of t ≤ b.end.number

asked : (b : Book) (s : VersionedParts) (last : ℕ) → FitsTogether b → b.stage ≡ Wanted s.first last
    → IsAsked b s
asked b s last fits wanted =
    let rest : IsMore b.end.number (exposed b) (Wanted s.first last) fits.tiles.more =
    subst (λ t. IsMore b.end.number (exposed b) t fits.tiles.more) wanted fits.tiles.rest in
    let all : b.segments ≡ fits.tiles.audited =
    fits.tiles.are ∙ ap (λ l. fits.tiles.audited ++ l) rest.0 ∙ append-nil fits.tiles.audited in
    record {
      first = rest.1;
      below = λ t i.
          omega (
            arith,
            (tile_between (start_number b.base + 1) fits.tiles.audited (b.end.number + 1) t fits.tiles.tile
                (subst (IsAmong t) all i)).1,
          );
    }

module _ (b : Book) (s : VersionedParts) (fits : FitsTogether b) (one : HasOneMark b)
    (hidden : exposed b ≡ false) (is : IsAsked b s) where
  -- at a number it shows another hash than the book
  abbrev Forks : ℕ → Type 0
  Forks n = IsForked (marks_of s) (book_shown b) n

  -- no number is before the end
  from_end : (k : ℕ) → Forks k → b.end.number ≤ k
  from_end k f =
      omega (
        arith,
        (mark_within (s.first - 1) s.opening (versioned_links s) k f.mark (are_numbered s) f.there).0,
        is.first,
      )

  first_is : IsLeast Forks (first_fork (marks_of s) (book_shown b))
  first_is =
      rises_least (marks_of s) (book_shown b)
      (marks_rise (s.first - 1) s.opening (versioned_links s) (are_numbered s))

  opening_shown : IsAmong (b.end.number, s.opening) (marks_of s)
  opening_shown =
      let end : s.first - 1 ≡ b.end.number = omega (arith, is.first) in
      subst (λ k. IsAmong (k, s.opening) (marks_of s)) end
      (opening_there (s.first - 1) s.opening (versioned_links s))

  opening_forks : is_fork (b.end.number, s.opening) (book_shown b)
      ≡ is_other_hash s.opening (hash_shown b b.end.number)
  opening_forks = fork_by_look_up b fits b.end.number one hidden s.opening

  -- the number of a learned authenticator
  abbrev at : Authenticator → ℕ
  at a = number_of b.log_version a

  -- where a learned authenticator has another hash there is a fork
  learned_forks : (a : Authenticator) → IsAmong a b.learned → shows_another b.log_version s a ≡ true
      → Forks (at a)
  learned_forks a i e = by (segment_mark_at s (at a)) refl e
    where
      by : (o : Option (List ℕ)) → segment_mark_at s (at a) ≡ o → is_other_hash a.hash o ≡ true
          → Forks (at a)
      by None f h = absurd (true≢false (sym h))
      by (Some x) f h = record {
        mark = x;
        there = among_there (at a) (marks_of s) x f;
        forks = passed (λ q. differ (at a, x) q) (book_shown b) (pair_of b.log_version a)
            (shows b.base b.log_version b.evidence b.learned b.segments (pair_of b.log_version a) (Learned a i refl))
            (and_from (at a == at a) (not (is_same x a.hash)) (eq-eqb (at a) (at a) refl)
            (other_side a.hash x h));
      }

  -- what makes a fork after the end is a learned authenticator's
  past_end : (k : ℕ) (f : Forks k) → b.end.number < k → IsCharged b.log_version s b.learned k
  past_end k f past =
      let r = passer (λ q. differ (k, f.mark) q) (book_shown b) f.forks in
      let both = and_parts (k == r.one.0) (not (is_same f.mark r.one.1)) r.passes in
      by r.one (eqb-true k r.one.0 both.0) both.1
      (shower b.base b.log_version b.evidence b.learned b.segments r.one r.among)
    where
      no_evidence : (o : Option EvidenceParts) (q : Pair) → is_some o ≡ false → IsAmong q (exposing_pairs o)
          → ⊥
      no_evidence None q e i = i
      no_evidence (Some g) q e i = true≢false e

      base_low : (base : Option KnownBase) (q : Pair) → IsAmong q (base_pairs base) → q.0 ≤ start_number base
      base_low None q j = absurd j
      base_low (Some o) q j =
          leb-true q.0 o.parts.at
          (passes (λ (p : Pair). nat_le p.0 o.parts.at) q (showing_marks o.parts.showing) j)

      by : (q : Pair) → k ≡ q.0 → not (is_same f.mark q.1) ≡ true
          → Shower b.base b.log_version b.evidence b.learned b.segments q → IsCharged b.log_version s b.learned k
      by q number other (AtFirst same) =
          absurd (omega (arith, past, number, ap (λ (p : Pair). p.0) same))
      by q number other (Exposing j) = absurd (no_evidence b.evidence q hidden j)
      by q number other (Learned a j same) =
          let same_number : k ≡ at a = number ∙ ap (λ (p : Pair). p.0) same in
          let hash : q.1 ≡ a.hash = ap (λ (p : Pair). p.1) same in
          let there : segment_mark_at s (at a) ≡ Some f.mark =
          ap (segment_mark_at s) (sym same_number) ∙ mark_of_shown s k f.mark f.there in
          record {
            one = a;
            among = j;
            number = same_number;
            another = ap (is_other_hash a.hash) there
                ∙ other_side f.mark a.hash (subst (λ y. not (is_same f.mark y) ≡ true) hash other);
          }
      by q number other (Segment t j there) =
          absurd (omega (arith, past, number, (marked t q.0 q.1 (fits.whole t j) there).1, is.below t j))
      by q number other (OfBase j) = absurd (omega (arith, past, number, base_low b.base q j, fits.begun))

  -- where the opening is the book's, each fork is a learned authenticator's
  each_fork : is_other_hash s.opening (hash_shown b b.end.number) ≡ false → (k : ℕ) → Forks k
      → IsCharged b.log_version s b.learned k
  each_fork same k f = by (nat_lt b.end.number k) refl
    where
      some_same : {A : Type 0} {x y : A} → ◌≡◌ {A = Option A} (Some x) (Some y) → x ≡ y
      some_same h = cc

      at_end : k ≡ b.end.number → f.mark ≡ s.opening
      at_end e =
          some_same (sym (mark_of_shown s k f.mark f.there) ∙ ap (segment_mark_at s) e
          ∙ mark_of_shown s b.end.number s.opening opening_shown)

      by : (c : Bool) → nat_lt b.end.number k ≡ c → IsCharged b.log_version s b.learned k
      by true e = past_end k f (ltb-true b.end.number k e)
      by false e =
          let end : k ≡ b.end.number = omega (arith, from_end k f, ltb-false b.end.number k e) in
          absurd (true≢false (sym f.forks
          ∙ ap₂ (λ (n : ℕ) (x : List ℕ). is_fork (n, x) (book_shown b)) end (at_end end)
          ∙ opening_forks ∙ same))

  looked_is : IsLeast Forks (answer_fork b s)
  looked_is = by (is_other_hash s.opening (hash_shown b b.end.number)) refl
    where
      by : (c : Bool) → is_other_hash s.opening (hash_shown b b.end.number) ≡ c
          → IsLeast Forks (cond c (Some b.end.number) (least_from b.log_version s None b.learned))
      by true e = record {
        holds = record { mark = s.opening; there = opening_shown; forks = opening_forks ∙ e };
        least = from_end;
      }
      by false e =
          least_is b.log_version Forks s None b.learned tt learned_forks (λ k f. inr (each_fork e k f))

-- where a segment that was asked for makes the first fork is looked up
pub answer_looked_up : (b : Book) (s : VersionedParts) (last : ℕ)
    → FitsTogether b → HasOneMark b → exposed b ≡ false → b.stage ≡ Wanted s.first last
    → first_fork (marks_of s) (book_shown b) ≡ answer_fork b s
answer_looked_up b s last fits one hidden wanted =
    let is = asked b s last fits wanted in
    one_least (IsForked (marks_of s) (book_shown b)) (first_fork (marks_of s) (book_shown b))
    (answer_fork b s) (first_is b s fits one hidden is) (looked_is b s fits one hidden is)
