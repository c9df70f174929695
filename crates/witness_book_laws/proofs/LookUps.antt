-- What a book looks up tells whether a pair was shown, and whether another hash is at its number.
-- Serves: look_ups_tell.
use Rattle.std.proofs.Common.{◌≡◌, inl, inr, ℕ, ◌+◌, ◌≤◌, Bool, true, false, cond, not, ◌==◌, ◌&&◌}
use Rattle.std.proofs.Common.{nat_le, List, find, Option, Some, None, refl, sym, ap, ap₂}
use Rattle.std.proofs.Common.{subst, ◌∙◌, arith, eqb-true, eq-eqb}
use Rattle.std.specs.Prelude.{is_some, option_map}
use Rattle.std.proofs.lemmas.Bool.{and_parts, and_from, true≢false, le-leb, leb-true, leb-false}
use Rattle.std.proofs.lemmas.Option.{same_Some}
use Rattle.authenticator.specs.declared.authenticator.Authenticator.{Authenticator}
use Rattle.authenticator.specs.Signing.{is_same}
use Rattle.authenticator.proofs.Signed.{same_list, list_same}
use Rattle.secure_log.specs.LogEntries.Chain.{zeros}
use Rattle.secure_log.specs.Versioned.{VersionedParts}
use Rattle.secure_log.specs.Marks.{mark_among}
use Rattle.secure_log.specs.LogEntries.Chain.{IsAmong}
use Rattle.witness_laws.specs.evidence_spec.Evidence.{EvidenceParts}
use Rattle.witness_laws.specs.witness_spec.Starting.{KnownBase, start_number, start_pairs, is_below}
use Rattle.witness_laws.specs.witness_spec.Watched.{Watched}
use Rattle.witness_laws.specs.witness_spec.Steps.{Past}
use Rattle.witness_laws.specs.witness_spec.Pairs.{Pair, number_of, last_of, marks_of, same_pair, differ}
use Rattle.witness_laws.specs.witness_spec.Pairs.{is_shown, is_fork}
use Rattle.witness_laws.specs.witness_spec.Exposing.{segment_holding}
use Rattle.witness_laws.proofs.OfEvidence.Before.{one_shown}
use Rattle.witness_book_laws.specs.Books.{Book, exposed, exposing_pairs, base_pairs, book_shown}
use Rattle.witness_book_laws.specs.Fitting.{FitsTogether, IsBookOf}
use Rattle.witness_book_laws.specs.LookUps.{base_mark_at, or_else, hash_held, hash_shown, is_hash, is_other_hash}
use Rattle.witness_book_laws.specs.LookUps.{HasOneMark}
use Rattle.witness_book_laws.proofs.Lists.{same_truth, passer, passed}
use Rattle.witness_laws.proofs.OfEvidence.Before.{found, not_found}
use Rattle.witness_book_laws.proofs.Kept.{Shower, AtFirst, Exposing, Learned, Segment, OfBase, shower, shows}
use Rattle.witness_book_laws.proofs.Segments.{mark_at, marked, IsHeldIn, tile_holds, tile_between, tiled}
use Rattle.witness_book_laws.proofs.Quiet.{Exposure}
use Rattle.witness_book_laws.proofs.Known.{exposed_same}

-- ---- marks of a segment

-- what is found among these is one of them
pub among_there : (n : ℕ) (ps : List Pair) (y : List ℕ) → mark_among n ps ≡ Some y → IsAmong (n, y) ps
among_there n ps y h = by (find (λ (p : Pair). p.0 == n) ps) refl h
  where
    by : (o : Option Pair) → find (λ (p : Pair). p.0 == n) ps ≡ o
        → ◌≡◌ {A = Option (List ℕ)} (option_map (λ (p : Pair). p.1) o) (Some y) → IsAmong (n, y) ps
    by None e k = absurd (cc)
    by (Some p) e k =
        let f = found (λ (q : Pair). q.0 == n) ps p e in
        let hash : p.1 ≡ y = same_Some _ _ k in
        subst (λ q. IsAmong q ps)
        (ap₂ (λ (a : ℕ) (b : List ℕ). (a, b)) (eqb-true p.0 n f.1) hash) f.0

-- where one has the number, one is found
pub among_some : (n : ℕ) (ps : List Pair) (x : List ℕ) → IsAmong (n, x) ps → mark_among n ps ≡ None → ⊥
among_some n ps x i h = by (find (λ (p : Pair). p.0 == n) ps) refl h
  where
    by : (o : Option Pair) → find (λ (p : Pair). p.0 == n) ps ≡ o
        → ◌≡◌ {A = Option (List ℕ)} (option_map (λ (p : Pair). p.1) o) None → ⊥
    by None e k =
        true≢false (sym (eq-eqb n n refl) ∙ not_found (λ (q : Pair). q.0 == n) ps (n, x) e i)
    by (Some p) e k = absurd (cc)

module _ (b : Book) (fits : FitsTogether b) (n : ℕ) where
  abbrev holds : VersionedParts → Bool
  holds s = nat_le s.first n && nat_le n (last_of s)

  -- an authenticator is at the number
  abbrev is_at : Authenticator → Bool
  is_at a = number_of b.log_version a == n

  -- ---- what is looked up was shown

  held_there : (o : Option VersionedParts) (y : List ℕ) → segment_holding n b.segments ≡ o
      → hash_held o b n ≡ Some y
      → IsAmong (n, y) (book_shown b)
  held_there (Some s) y e h =
      shows b.base b.log_version b.evidence b.learned b.segments (n, y)
      (Segment s (found holds b.segments s e).0 (among_there n (marks_of s) y h))
  held_there None y e h = by (find (λ a. is_at a) b.learned) refl h
    where
      by : (o : Option Authenticator) → find (λ a. is_at a) b.learned ≡ o
          → ◌≡◌ {A = Option (List ℕ)} (option_map (λ (a : Authenticator). a.hash) o) (Some y)
          → IsAmong (n, y) (book_shown b)
      by None f k = absurd (cc)
      by (Some a) f k =
          let r = found (λ c. is_at c) b.learned a f in
          let hash : y ≡ a.hash = sym (same_Some _ _ k) in
          shows b.base b.log_version b.evidence b.learned b.segments (n, y)
          (Learned a r.0 (ap₂ (λ (m : ℕ) (x : List ℕ). (m, x))
          (sym (eqb-true (number_of b.log_version a) n r.1)) hash))

  looked : (y : List ℕ) → hash_shown b n ≡ Some y → IsAmong (n, y) (book_shown b)
  looked y h = by_base (base_mark_at b.base n) refl h
    where
      by : (z : Bool) → (n == 0) ≡ z
          → cond z (Some zeros) (hash_held (segment_holding n b.segments) b n) ≡ Some y
          → IsAmong (n, y) (book_shown b)
      by true e k = inl (ap₂ (λ (m : ℕ) (x : List ℕ). (m, x)) (eqb-true n 0 e) (sym (same_Some _ _ k)))
      by false e k = held_there (segment_holding n b.segments) y refl k

      by_base : (o : Option (List ℕ)) → base_mark_at b.base n ≡ o
          → or_else o (cond (n == 0) (Some zeros) (hash_held (segment_holding n b.segments) b n)) ≡ Some y
          → IsAmong (n, y) (book_shown b)
      by_base (Some x) e k =
          subst (λ z. IsAmong (n, z) (book_shown b)) (same_Some _ _ k)
          (shows b.base b.log_version b.evidence b.learned b.segments (n, x)
          (OfBase (among_there n (base_pairs b.base) x e)))
      by_base None e k = by (n == 0) refl k

  -- ---- what is shown is found

  not_held : (x : List ℕ) → IsHeldIn b.segments n → hash_held (segment_holding n b.segments) b n ≡ None → ⊥
  not_held x h k = by (segment_holding n b.segments) refl k
    where
      by : (o : Option VersionedParts) → segment_holding n b.segments ≡ o → hash_held o b n ≡ None → ⊥
      by None e k =
          true≢false (sym (and_from (nat_le h.segment.first n) (nat_le n (last_of h.segment))
          (le-leb h.segment.first n h.from) (le-leb n (last_of h.segment) h.to))
          ∙ not_found holds b.segments h.segment e h.among)
      by (Some s) e k =
          let f = found holds b.segments s e in
          let both = and_parts (nat_le s.first n) (nat_le n (last_of s)) f.1 in
          let p = mark_at s n (fits.whole s f.0) (omega (arith, leb-true s.first n both.0))
          (leb-true n (last_of s) both.1) in
          among_some n (marks_of s) p.mark p.there k

  unfound : (x : List ℕ) → exposed b ≡ false → (n == 0) ≡ false → IsAmong (n, x) (book_shown b)
      → base_mark_at b.base n ≡ None → hash_held (segment_holding n b.segments) b n ≡ None → ⊥
  unfound x hidden some i no_base k = by (shower b.base b.log_version b.evidence b.learned b.segments (n, x) i)
    where
      no_evidence : (o : Option EvidenceParts) → is_some o ≡ false → IsAmong (n, x) (exposing_pairs o) → ⊥
      no_evidence None e i = i
      no_evidence (Some f) e i = true≢false e

      no_learned : (a : Authenticator) → IsAmong a b.learned → n ≡ number_of b.log_version a
          → (o : Option VersionedParts) → segment_holding n b.segments ≡ o → hash_held o b n ≡ None → ⊥
      no_learned a i same (Some s) e k = not_held x (found_held s e) (ap (λ o. hash_held o b n) e ∙ k)
        where
          found_held : (s : VersionedParts) → segment_holding n b.segments ≡ Some s → IsHeldIn b.segments n
          found_held s e =
              let f = found holds b.segments s e in
              let both = and_parts (nat_le s.first n) (nat_le n (last_of s)) f.1 in
              record {
                segment = s;
                among = f.0;
                from = leb-true s.first n both.0;
                to = leb-true n (last_of s) both.1;
              }
      no_learned a i same None e k = by_found (find (λ c. is_at c) b.learned) refl k
        where
          by_found : (o : Option Authenticator) → find (λ c. is_at c) b.learned ≡ o
              → ◌≡◌ {A = Option (List ℕ)} (option_map (λ (c : Authenticator). c.hash) o) None → ⊥
          by_found (Some c) f h = absurd (cc)
          by_found None f h =
              true≢false (sym (eq-eqb (number_of b.log_version a) n (sym same))
              ∙ not_found (λ c. is_at c) b.learned a f i)

      in_segment : (s : VersionedParts) → IsAmong s b.segments → IsAmong (n, x) (marks_of s)
          → IsHeldIn b.segments n
      in_segment s j there =
          let t = tiled b fits.tiles in
          let between = tile_between (start_number b.base + 1) b.segments t.next s t.tile j in
          tile_holds (start_number b.base + 1) b.segments t.next n t.tile
          (past_start (nat_le (start_number b.base + 1) n) refl
          (omega (arith, (marked s n x (fits.whole s j) there).0, between.0)))
          (omega (arith, (marked s n x (fits.whole s j) there).1, between.1))
        where
          -- what was shown at first is the base's, but at 0
          of_base : (base : Option KnownBase) (y : List ℕ) → IsAmong (n, y) (start_pairs base)
              → IsAmong (n, y) (base_pairs base)
          of_base None y (inl same) =
              absurd (true≢false (sym (eq-eqb n 0 (ap (λ (p : Pair). p.0) same)) ∙ some))
          of_base None y (inr i) = absurd i
          of_base (Some o) y (inl same) =
              absurd (true≢false (sym (eq-eqb n 0 (ap (λ (p : Pair). p.0) same)) ∙ some))
          of_base (Some o) y (inr i) = i

          past_start : (c : Bool) → nat_le (start_number b.base + 1) n ≡ c → start_number b.base ≤ n
              → start_number b.base + 1 ≤ n
          past_start true e low = leb-true (start_number b.base + 1) n e
          past_start false e low =
              let same : start_number b.base ≡ n =
              omega (arith, low, leb-false (start_number b.base + 1) n e) in
              let above : is_below b.base n ≡ false = ap (is_below b.base) (sym same) ∙ fits.started.own in
              let r = fits.started.marks n above (omega (arith, same)) in
              absurd (among_some n (base_pairs b.base) r.0 (of_base b.base r.0 r.1) no_base)

      by : Shower b.base b.log_version b.evidence b.learned b.segments (n, x) → ⊥
      by (AtFirst same) = true≢false (sym (eq-eqb n 0 (ap (λ (p : Pair). p.0) same)) ∙ some)
      by (Exposing j) = no_evidence b.evidence hidden j
      by (Learned a j same) =
          no_learned a j (ap (λ (p : Pair). p.0) same) (segment_holding n b.segments) refl k
      by (Segment s j there) = not_held x (in_segment s j there) k
      by (OfBase j) = among_some n (base_pairs b.base) x j no_base

  unlooked : (x : List ℕ) → exposed b ≡ false → hash_shown b n ≡ None → IsAmong (n, x) (book_shown b) → ⊥
  unlooked x hidden h i = by_base (base_mark_at b.base n) refl h
    where
      by : base_mark_at b.base n ≡ None → (z : Bool) → (n == 0) ≡ z
          → cond z (Some zeros) (hash_held (segment_holding n b.segments) b n) ≡ None → ⊥
      by none true e k = absurd (cc)
      by none false e k = unfound x hidden e i none k

      by_base : (o : Option (List ℕ)) → base_mark_at b.base n ≡ o
          → or_else o (cond (n == 0) (Some zeros) (hash_held (segment_holding n b.segments) b n)) ≡ None
          → ⊥
      by_base (Some y) e k = absurd (cc)
      by_base None e k = by e (n == 0) refl k

  -- ---- what it tells

  module _ (one : HasOneMark b) (hidden : exposed b ≡ false) (x : List ℕ) where
    of_same : (q : Pair) → same_pair (n, x) q ≡ true → q ≡ (n, x)
    of_same q h =
        let both = and_parts (n == q.0) (is_same x q.1) h in
        ap₂ (λ (a : ℕ) (y : List ℕ). (a, y)) (sym (eqb-true n q.0 both.0)) (sym (same_list x q.1 both.1))

    -- whether the pair was shown
    pub shown_by_look_up : is_shown (n, x) (book_shown b) ≡ is_hash x (hash_shown b n)
    shown_by_look_up =
        same_truth (is_shown (n, x) (book_shown b)) (is_hash x (hash_shown b n)) (λ h. to h) (λ h. from h)
      where
        to_by : IsAmong (n, x) (book_shown b) → (o : Option (List ℕ)) → hash_shown b n ≡ o
            → is_hash x o ≡ true
        to_by i None e = absurd (unlooked x hidden e i)
        to_by i (Some y) e = list_same x y (one hidden n x y i (looked y e))

        to : is_shown (n, x) (book_shown b) ≡ true → is_hash x (hash_shown b n) ≡ true
        to h =
            let r = passer (λ q. same_pair (n, x) q) (book_shown b) h in
            to_by (subst (λ q. IsAmong q (book_shown b)) (of_same r.one r.passes) r.among) (hash_shown b n)
            refl

        from_by : (o : Option (List ℕ)) → hash_shown b n ≡ o → is_hash x o ≡ true
            → is_shown (n, x) (book_shown b) ≡ true
        from_by None e h = absurd (true≢false (sym h))
        from_by (Some y) e h =
            passed (λ q. same_pair (n, x) q) (book_shown b) (n, y) (looked y e)
            (and_from (n == n) (is_same x y) (eq-eqb n n refl) h)

        from : is_hash x (hash_shown b n) ≡ true → is_shown (n, x) (book_shown b) ≡ true
        from h = from_by (hash_shown b n) refl h

    -- whether another hash is at its number
    pub fork_by_look_up : is_fork (n, x) (book_shown b) ≡ is_other_hash x (hash_shown b n)
    fork_by_look_up =
        same_truth (is_fork (n, x) (book_shown b)) (is_other_hash x (hash_shown b n)) (λ h. to h)
        (λ h. from h)
      where
        to_by : (z : List ℕ) → IsAmong (n, z) (book_shown b) → not (is_same x z) ≡ true
            → (o : Option (List ℕ)) → hash_shown b n ≡ o → is_other_hash x o ≡ true
        to_by z i d None e = absurd (unlooked z hidden e i)
        to_by z i d (Some y) e = subst (λ w. not (is_same x w) ≡ true) (one hidden n z y i (looked y e)) d

        to : is_fork (n, x) (book_shown b) ≡ true → is_other_hash x (hash_shown b n) ≡ true
        to h =
            let r = passer (λ q. differ (n, x) q) (book_shown b) h in
            let both = and_parts (n == r.one.0) (not (is_same x r.one.1)) r.passes in
            to_by r.one.1
            (subst (λ a. IsAmong (a, r.one.1) (book_shown b)) (sym (eqb-true n r.one.0 both.0)) r.among)
            both.1 (hash_shown b n) refl

        from_by : (o : Option (List ℕ)) → hash_shown b n ≡ o → is_other_hash x o ≡ true
            → is_fork (n, x) (book_shown b) ≡ true
        from_by None e h = absurd (true≢false (sym h))
        from_by (Some y) e h =
            passed (λ q. differ (n, x) q) (book_shown b) (n, y) (looked y e)
            (and_from (n == n) (not (is_same x y)) (eq-eqb n n refl) h)

        from : is_other_hash x (hash_shown b n) ≡ true → is_fork (n, x) (book_shown b) ≡ true
        from h = from_by (hash_shown b n) refl h

-- ---- one hash

-- a book of own steps shows one mark at each number, where the node isn't exposed
pub one_hash : (w : Watched) (past : Past) (b : Book) → IsBookOf w past b
    → Exposure w past → HasOneMark b
one_hash w past b of x hidden n y z i j =
    one_shown w past (sym (exposed_same w past b of x) ∙ hidden) n y z ((of.stands.pairs (n, y)).0 i)
    ((of.stands.pairs (n, z)).0 j)
