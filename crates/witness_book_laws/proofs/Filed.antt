-- The book after a segment with its verdict was filed.
-- Serves: all laws here.
use Rattle.std.specs.List.{AllByRecursion}
use Rattle.std.proofs.Common.{◌+◌, ◌-◌, ◌≡◌, inl, inr, ℕ, ◌≤◌, Bool, true, false, cond, nat_lt, List, []}
use Rattle.std.proofs.Common.{◌∷◌}
use Rattle.std.proofs.Common.{◌++◌, filter, flat_map, length-append, append-nil, Option, Some, None}
use Rattle.std.proofs.Common.{refl, sym, ap, ap₂, subst, ◌∙◌, arith}
use Rattle.std.specs.Prelude.{is_some, option_map, map}
use Rattle.std.proofs.lemmas.Bool.{ltb-true, ltb-false}
use Rattle.std.proofs.lemmas.Grind.{flat_map-append}
use Rattle.std.proofs.lemmas.List.{drop-append-le}
use Rattle.authenticator.specs.declared.authenticator.Authenticator.{Authenticator}
use Rattle.authenticator.specs.declared.member.LogVersion.{LogVersion}
use Rattle.secure_log.specs.LogEntries.Chain.{IsAmong, Logged, span}
use Rattle.secure_log.specs.LogEntries.Words.{MaySkip}
use Rattle.secure_log.specs.Versioned.{VersionedParts, versioned_links}
use Rattle.witness_laws.specs.state_spec.State.{State}
use Rattle.replay_spec.specs.Placed.{places_from, places_in}
use Rattle.replay_spec.specs.Replay.{Honest, Verdict, Sound, Fault}
use Rattle.replay_spec.proofs.Runs.{is_sound}
use Rattle.witness_laws.specs.evidence_spec.Evidence.{Charge, EvidenceParts}
use Rattle.witness_laws.specs.witness_spec.Events.{DoneParts}
use Rattle.witness_laws.specs.witness_spec.Replies.{Filed}
use Rattle.witness_laws.specs.witness_spec.Watched.{Watched}
use Rattle.witness_laws.specs.witness_spec.Steps.{File, Past}
use Rattle.witness_laws.specs.witness_spec.Pairs.{number_of, pair_of, first_pair, last_of, marks_of}
use Rattle.witness_laws.specs.witness_spec.Standing.{End, end_of, moved_by, verdict_on, sound_entries}
use Rattle.witness_laws.specs.witness_spec.Standing.{audited, shown}
use Rattle.witness_laws.specs.witness_spec.Standing.{noted_before}
use Rattle.witness_laws.specs.witness_spec.Standing.{kept, Out, sound_found, all_found, forwards}
use Rattle.witness_laws.specs.witness_spec.Exposing.{replay_from, replay_of, evidence}
use Rattle.witness_laws.specs.witness_spec.Starting.{KnownBase, start_number, start_hash}
use Rattle.witness_laws.specs.witness_spec.Histories.{HoldSame}
use Rattle.witness_book_laws.specs.Books.{Book, exposed, base_pairs, charged_pairs, exposing_pairs}
use Rattle.witness_book_laws.specs.Books.{book_shown, book_audited}
use Rattle.witness_book_laws.specs.Going as books
use Rattle.witness_book_laws.specs.Going.{evidence_of, first_evidence, verdict_charge, evidence_filed}
use Rattle.witness_book_laws.specs.Going.{learned_above}
use Rattle.witness_book_laws.specs.Going.{having_filed, after_file}
use Rattle.witness_book_laws.specs.Fitting.{NumbersDiffer, IsOne, IsMore, AgreesAt, SendsLieBelowIn}
use Rattle.witness_book_laws.specs.Fitting.{FitsTogether}
use Rattle.witness_book_laws.proofs.Lists.{filtered, same_filter}
use Rattle.witness_laws.proofs.OfEvidence.Before.{passing, on_right}
use Rattle.witness_book_laws.proofs.Kept.{differ_filter, showing_of, Shower, AtFirst, Exposing, Learned}
use Rattle.witness_book_laws.proofs.Kept.{Segment, OfBase}
use Rattle.witness_book_laws.proofs.Kept.{shower}
use Rattle.witness_book_laws.proofs.Kept.{shows, same_through}
use Rattle.witness_book_laws.proofs.Segments.{tile_more, audited_are}
use Rattle.witness_book_laws.proofs.Sends.{lie_below_in}
use Rattle.witness_book_laws.proofs.Quiet.{Exposure}
use Rattle.witness_book_laws.proofs.Known.{charged, Known, first_same}

-- ---- what stays above a number

-- what lies above a later number lies above an earlier one
still_above : (v : LogVersion) (end last : ℕ) (xs : List Authenticator) → end ≤ last
    → filter (λ a. nat_lt last (number_of v a)) (filter (λ a. nat_lt end (number_of v a)) xs)
    ≡ filter (λ a. nat_lt last (number_of v a)) xs
still_above v end last [] le = refl
still_above v end last (x ∷ xs) le =
    by (nat_lt end (number_of v x)) refl (nat_lt last (number_of v x)) refl (still_above v end last xs le)
  where
    rest : List Authenticator
    rest = filter (λ a. nat_lt end (number_of v a)) xs

    all : List Authenticator
    all = filter (λ a. nat_lt last (number_of v a)) xs

    by : (c : Bool) → nat_lt end (number_of v x) ≡ c → (d : Bool) → nat_lt last (number_of v x) ≡ d
        → filter (λ a. nat_lt last (number_of v a)) rest ≡ all
        → filter (λ a. nat_lt last (number_of v a)) (cond c (x ∷ rest) rest)
        ≡ cond (nat_lt last (number_of v x)) (x ∷ all) all
    by true e d f h = ap (λ l. cond (nat_lt last (number_of v x)) (x ∷ l) l) h
    by false e true f h =
        absurd (omega (arith, le, ltb-false end (number_of v x) e, ltb-true last (number_of v x) f))
    by false e false f h = h ∙ ap (λ y. cond y (x ∷ all) all) (sym f)

module _ (w : Watched) (past : Past) (b : Book) (d : DoneParts) (k : Known w past b)
    (out : b.stage ≡ Out d.job.segment) where
  abbrev s : VersionedParts
  s = d.job.segment.segment

  abbrev found_by : Verdict
  found_by = verdict_on w.roster (end_of w past).state d.job

  -- the version of the book's log
  abbrev log : LogVersion
  log = b.log_version

  -- the segment is the one more that was accepted
  one : IsOne b.end.number s k.fits.tiles.more
  one = subst (λ t. IsMore b.end.number (exposed b) t k.fits.tiles.more) out k.fits.tiles.rest

  among : IsAmong s b.segments
  among =
      subst (IsAmong s) (sym (k.fits.tiles.are ∙ ap (λ l. k.fits.tiles.audited ++ l) one.is))
      (on_right s k.fits.tiles.audited (s ∷ []) (inl refl))

  agrees : (a : Authenticator) → IsAmong a b.learned → number_of b.log_version a ≤ last_of s
      → IsAmong (pair_of b.log_version a) (marks_of s)
  agrees = subst (λ t. AgreesAt b.log_version t b.learned) out k.fits.agrees

  -- ---- evidence

  charge_same : (v : Verdict) → verdict_charge b s v ≡ replay_of w past s v
  charge_same (Sound t found) = refl
  charge_same (Fault fault number) =
      ap₂ (λ n ls. Some (replay_from b.base (whole b.base b.log_version n ls))) k.of.of_member.node k.audited
      ∙ ap₂ (λ o v. Some (replay_from o (whole o v w.member.node (audited w past)))) k.of.of_member.base
      k.of.of_member.version
    where
      whole : Option KnownBase → LogVersion → ℕ → List Logged → VersionedParts
      whole o v n ls = record {
        log_version = v;
        node = n;
        first = start_number o + 1;
        opening = start_hash o;
        entries = ls ++ s.entries;
        closing = s.closing;
      }

  evidence_same : (v : Verdict) → found_by ≡ v → evidence_filed b s v ≡ evidence w ((File d, Filed) ∷ past)
  evidence_same v is =
      first_same w past b k.of k.exposure (evidence_of b (verdict_charge b s v)) _
      (ap (λ n. option_map (λ (g : Charge). charged n g) (verdict_charge b s v)) k.of.of_member.node
      ∙ ap (option_map (λ (g : Charge). charged w.member.node g))
      (charge_same v ∙ ap (replay_of w past s) (sym is)))

  -- a replay shows no pair of its own
  shows_none : (v : Verdict) → exposing_pairs (evidence_filed b s v) ≡ exposing_pairs b.evidence
  shows_none v = by b.evidence v
    where
      none_charged : (o : Option KnownBase) (t : VersionedParts) → charged_pairs (replay_from o t) ≡ []
      none_charged None t = refl
      none_charged (Some base) t = refl

      by : (o : Option EvidenceParts) (v : Verdict)
          → exposing_pairs (first_evidence o (evidence_of b (verdict_charge b s v))) ≡ exposing_pairs o
      by (Some e) v = refl
      by None (Sound t found) = refl
      by None (Fault fault number) = none_charged b.base (books.audited_with b s)

  some_evidence : (o : Option EvidenceParts) (e : EvidenceParts) → is_some (first_evidence o (Some e)) ≡ true
  some_evidence None e = refl
  some_evidence (Some f) e = refl

  -- ---- what is shown

  fewer : HoldSame
      (showing_of b.base log b.evidence
      (filter (λ a. nat_lt (last_of s) (number_of log a)) b.learned) b.segments)
      (showing_of b.base log b.evidence b.learned b.segments)
  fewer p = (
    λ i. shows b.base log b.evidence b.learned b.segments p (to (shower b.base log b.evidence less b.segments p i)),
    λ i. shows b.base log b.evidence less b.segments p (from (shower b.base log b.evidence b.learned b.segments p i)),
  )
    where
      less : List Authenticator
      less = filter (λ a. nat_lt (last_of s) (number_of log a)) b.learned

      to : Shower b.base log b.evidence less b.segments p → Shower b.base log b.evidence b.learned b.segments p
      to (AtFirst same) = AtFirst same
      to (Exposing i) = Exposing i
      to (Learned a i same) =
          Learned a (filtered (λ c. nat_lt (last_of s) (number_of log c)) b.learned a i).0 same
      to (Segment t i j) = Segment t i j
      to (OfBase i) = OfBase i

      by : (a : Authenticator) (c : Bool) → nat_lt (last_of s) (number_of log a) ≡ c
          → IsAmong a b.learned → p ≡ pair_of log a → Shower b.base log b.evidence less b.segments p
      by a true e i same =
          Learned a (passing (λ c. nat_lt (last_of s) (number_of log c)) b.learned a i e) same
      by a false e i same =
          Segment s among (subst (λ q. IsAmong q (marks_of s)) (sym same)
          (agrees a i (omega (arith, ltb-false (last_of s) (number_of log a) e))))

      from : Shower b.base log b.evidence b.learned b.segments p → Shower b.base log b.evidence less b.segments p
      from (AtFirst same) = AtFirst same
      from (Exposing i) = Exposing i
      from (Learned a i same) = by a (nat_lt (last_of s) (number_of log a)) refl i same
      from (Segment t i j) = Segment t i j
      from (OfBase i) = OfBase i

  shown_same : (v : Verdict) → HoldSame (book_shown (having_filed b s v)) (shown w past)
  shown_same v =
      subst (λ ps. HoldSame (first_pair ∷ (ps ++ (map (pair_of log) (learned_above log s v b.learned)
      ++ (flat_map marks_of b.segments ++ base_pairs b.base)))) (shown w past)) (sym (shows_none v)) (by v)
    where
      by : (v : Verdict)
          → HoldSame (showing_of b.base log b.evidence (learned_above log s v b.learned) b.segments) (shown w past)
      by (Sound t found) =
          same_through
          (showing_of b.base log b.evidence (filter (λ a. nat_lt (last_of s) (number_of log a)) b.learned)
          b.segments)
          (showing_of b.base log b.evidence b.learned b.segments) (shown w past) fewer k.of.stands.pairs
      by (Fault fault number) = k.of.stands.pairs

  -- ---- what is kept

  low : (end_of w past).number ≤ last_of s
  low = subst (λ (e : End). e.number ≤ last_of s) k.of.stands.end (omega (arith, one.follows.some))

  -- what is kept after a verdict
  abbrev kept_by : Verdict → List Authenticator
  kept_by v =
      filter (λ a.
      nat_lt (moved_by (end_of w past) (last_of s) v).number (number_of w.member.log_version a))
      (noted_before w past)

  kept_is : (v : Verdict) → found_by ≡ v → kept w ((File d, Filed) ∷ past) ≡ kept_by v
  kept_is v is = ap (λ told. kept_by told) is

  -- the test that what stays passes, by the member's version
  abbrev stays : Authenticator → Bool
  stays a = nat_lt (last_of s) (number_of w.member.log_version a)

  kept_same : (v : Verdict) → found_by ≡ v
      → HoldSame (learned_above b.log_version s v b.learned) (kept w ((File d, Filed) ∷ past))
  kept_same v is =
      subst (λ u. HoldSame (learned_above u s v b.learned) (kept w ((File d, Filed) ∷ past)))
      (sym k.of.of_member.version)
      (subst (HoldSame (learned_above w.member.log_version s v b.learned)) (sym (kept_is v is)) (by v))
    where
      by : (v : Verdict) → HoldSame (learned_above w.member.log_version s v b.learned) (kept_by v)
      by (Sound t found) =
          subst (HoldSame (filter (λ a. stays a) b.learned))
          (still_above w.member.log_version (end_of w past).number (last_of s) (noted_before w past) low)
          (same_filter (λ a. stays a) b.learned (kept w past) k.of.stands.learned)
      by (Fault fault number) = k.of.stands.learned

  kept_numbers : (v : Verdict) → found_by ≡ v
      → NumbersDiffer w.member.log_version (kept w ((File d, Filed) ∷ past))
  kept_numbers v is = subst (NumbersDiffer w.member.log_version) (sym (kept_is v is)) (by v)
    where
      by : (v : Verdict) → NumbersDiffer w.member.log_version (kept_by v)
      by (Sound t found) =
          subst (NumbersDiffer w.member.log_version)
          (still_above w.member.log_version (end_of w past).number (last_of s) (noted_before w past) low)
          (differ_filter w.member.log_version (λ a. stays a) (kept w past) k.kept_differ)
      by (Fault fault number) = k.kept_differ

  -- ---- its parts

  sends : (t : State) (found : List Authenticator) → found_by ≡ Sound t found
      → SendsLieBelowIn log t (last_of s + 1)
  sends t found is =
      let r = is_sound w.roster (end_of w past).state (places_in s) t found is in
      let whole = k.fits.whole s among in
      let first : b.end.number + 1 ≡ s.first - 1 + 1 = omega (arith, one.follows.first) in
      let back : s.first ≡ s.first - 1 + 1 = omega (arith, whole.some) in
      let last : s.first - 1 + 1 + span s.entries ≡ last_of s + 1 = omega (arith, whole.count, whole.some) in
      let below : SendsLieBelowIn log (end_of w past).state (s.first - 1 + 1) =
      subst (SendsLieBelowIn log (end_of w past).state) first
      (subst (λ (e : End). SendsLieBelowIn log e.state (b.end.number + 1)) k.of.stands.end k.fits.sends) in
      let may : AllByRecursion (MaySkip log) (versioned_links s) =
      subst (λ v. AllByRecursion (MaySkip v) (versioned_links s)) (k.fits.version s among) whole.skips in
      subst (SendsLieBelowIn log t) last
      (subst (λ x. SendsLieBelowIn log x (s.first - 1 + 1 + span s.entries)) r.last
      (lie_below_in log w.roster (end_of w past).state (s.first - 1) s.opening s.entries r.states below may
      (subst (λ n. Honest w.roster (end_of w past).state (places_from n s.opening s.entries) r.states) back
      r.honest)))

  fits : (v : Verdict) → found_by ≡ v → FitsTogether (having_filed b s v)
  fits (Sound t found) is = record {
    begun = omega (arith, k.fits.begun, one.follows.some);
    started = k.fits.started;
    above = λ a i.
        ltb-true (last_of s) (number_of b.log_version a)
        (filtered (λ c. nat_lt (last_of s) (number_of b.log_version c)) b.learned a i).1;
    differ = differ_filter b.log_version (λ c. nat_lt (last_of s) (number_of b.log_version c)) b.learned
        k.fits.differ;
    whole = k.fits.whole;
    version = k.fits.version;
    tiles = record {
      audited = k.fits.tiles.audited ++ s ∷ [];
      more = [];
      are = k.fits.tiles.are ∙ (ap (λ l. k.fits.tiles.audited ++ l) one.is
          ∙ sym (append-nil (k.fits.tiles.audited ++ s ∷ [])));
      tile = tile_more (start_number b.base + 1) k.fits.tiles.audited b.end.number s k.fits.tiles.tile one.follows;
      rest = inl refl;
    };
    agrees = tt;
    sends = sends t found is;
  }
  fits (Fault fault number) is = record {
    begun = k.fits.begun;
    started = k.fits.started;
    above = k.fits.above;
    differ = k.fits.differ;
    whole = k.fits.whole;
    version = k.fits.version;
    tiles = record {
      audited = k.fits.tiles.audited;
      more = k.fits.tiles.more;
      are = k.fits.tiles.are;
      tile = k.fits.tiles.tile;
      rest = inr (record { exposed = some_evidence b.evidence _; segment = s; one = one });
    };
    agrees = tt;
    sends = k.fits.sends;
  }

  audited_same : (v : Verdict) → found_by ≡ v
      → book_audited (having_filed b s v) ≡ audited w ((File d, Filed) ∷ past)
  unfolding fits
  audited_same v is =
      audited_are (having_filed b s v) (fits v is).tiles
      ∙ (by v is ∙ ap (λ told. audited w past ++ sound_entries s.entries told) (sym is))
    where
      old : flat_map (λ (x : VersionedParts). x.entries) k.fits.tiles.audited ≡ audited w past
      old = sym (audited_are b k.fits.tiles) ∙ k.audited

      by : (v : Verdict) (is : found_by ≡ v)
          → flat_map (λ (x : VersionedParts). x.entries) (fits v is).tiles.audited
          ≡ audited w past ++ sound_entries s.entries v
      by (Sound t found) is =
          flat_map-append (λ (x : VersionedParts). x.entries) k.fits.tiles.audited (s ∷ [])
          ∙ ap₂ (λ (x y : List Logged). x ++ y) old (append-nil s.entries)
      by (Fault fault number) is = old ∙ sym (append-nil (audited w past))

  known_by : (v : Verdict) → found_by ≡ v → Exposure w ((File d, Filed) ∷ past)
      → Known w ((File d, Filed) ∷ past) (having_filed b s v)
  known_by v is x = record {
    of = record {
      of_member = record { node = k.of.of_member.node; version = k.of.of_member.version; base = k.of.of_member.base };
      stands = record {
        end = ap₂ (λ (e : End) (told : Verdict). moved_by e (last_of s) told) k.of.stands.end (sym is);
        stage = refl;
        begun = k.of.stands.begun;
        learned = kept_same v is;
        segments = k.of.stands.segments;
        challenges = k.of.stands.challenges;
        outbox = ap₂ (λ (xs ys : List Authenticator). xs ++ ys) k.of.stands.outbox (ap sound_found (sym is))
            ∙ sym (drop-append-le (forwards past) (all_found w past) (sound_found found_by) k.sent);
        evidence = evidence_same v is;
        pairs = shown_same v;
      };
    };
    fits = fits v is;
    kept_differ = kept_numbers v is;
    exposure = x;
    audited = audited_same v is;
    sent = omega (arith, k.sent, length-append (all_found w past) (sound_found found_by));
    roster = tt;
  }

  -- What is known after a job that was filed.
  pub filed_known : found_by ≡ d.verdict → Exposure w ((File d, Filed) ∷ past)
      → Known w ((File d, Filed) ∷ past) (after_file b d Filed)
  filed_known is x = known_by d.verdict is x
