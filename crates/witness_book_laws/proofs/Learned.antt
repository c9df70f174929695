-- The book after an authenticator that was learned.
-- Serves: all laws here.
use Rattle.std.proofs.Common.{◌==◌, eq-eqb, ◌≡◌, ◌≢◌, ◌⊎◌, inl, inr, ℕ, ◌+◌, ◌<◌, ◌≤◌, Bool, true, false}
use Rattle.std.proofs.Common.{cond, nat_lt}
use Rattle.std.proofs.Common.{List, [], ◌∷◌, ◌++◌, filter, length, append-nil, Option, Some, None, refl, sym}
use Rattle.std.proofs.Common.{ap, ap₂, subst, ◌∙◌, arith}
use Rattle.std.specs.Prelude.{is_some, option_map}
use Rattle.std.proofs.lemmas.Bool.{and_from, true≢false, ltb-true, ltb-false, lt-ltb}
use Rattle.authenticator.specs.declared.authenticator.Authenticator.{Authenticator}
use Rattle.authenticator.specs.declared.member.LogVersion.{LogVersion}
use Rattle.authenticator.specs.Signing.{is_same}
use Rattle.authenticator.proofs.Signed.{list_same}
use Rattle.secure_log.specs.LogEntries.Chain.{IsAmong}
use Rattle.witness_laws.specs.evidence_spec.Showing.{ShowingParts, authenticator_showing}
use Rattle.witness_laws.specs.evidence_spec.Evidence.{EvidenceParts}
use Rattle.witness_laws.specs.witness_spec.Replies.{Noted}
use Rattle.witness_laws.specs.witness_spec.Starting.{start_number, is_below}
use Rattle.witness_laws.specs.witness_spec.Watched.{Watched}
use Rattle.witness_laws.specs.witness_spec.Steps.{Learn, Past}
use Rattle.witness_laws.specs.witness_spec.Pairs.{Pair, number_of, pair_of, same_pair, is_shown}
use Rattle.witness_laws.specs.witness_spec.Pairs.{last_of, marks_of}
use Rattle.witness_laws.specs.witness_spec.Standing.{End, end_of, pairs_noted, shown, is_exposed}
use Rattle.witness_laws.specs.witness_spec.Standing.{unless_exposed}
use Rattle.witness_laws.specs.witness_spec.Standing.{noted_before, kept}
use Rattle.witness_laws.specs.witness_spec.Standing.{Stage, NoAudit, Wanted, Given, Out, audited, forwards}
use Rattle.witness_laws.specs.witness_spec.Exposing.{new_fork, evidence}
use Rattle.witness_laws.specs.witness_spec.Histories.{HoldSame}
use Rattle.witness_book_laws.specs.Books.{Book, exposed, book_shown}
use Rattle.witness_book_laws.specs.Going.{first_evidence, learned_unless, fork_evidence, evidence_noted}
use Rattle.witness_book_laws.specs.Going.{after_learn}
use Rattle.witness_book_laws.specs.Fitting.{FitsTogether, IsMore, AreTiles, AgreesAt}
use Rattle.witness_book_laws.specs.Fitting.{NumbersDiffer}
use Rattle.witness_laws.proofs.OfEvidence.Before.{one_shown}
use Rattle.witness_book_laws.proofs.Lists.{passed, same_more}
use Rattle.witness_laws.proofs.OfEvidence.Before.{split, on_right}
use Rattle.witness_book_laws.proofs.Kept.{all_by}
use Rattle.witness_book_laws.proofs.Kept.{differ_more, showing_of, Learned, Segment}
use Rattle.witness_book_laws.proofs.Kept.{shows, starts_shown, fork_shows, same_after, same_through, add_learned}
use Rattle.witness_book_laws.proofs.Kept.{add_exposing}
use Rattle.witness_book_laws.proofs.Segments.{mark_at, held, more_exposed}
use Rattle.witness_book_laws.proofs.Quiet.{Exposure, Hidden, Open, unsent, found_stays}
use Rattle.witness_book_laws.proofs.Known.{Known, first_same, fork_same}

-- ---- an authenticator that is new and makes no fork

-- it wasn't shown, and no other hash was at its number
pub record IsNew (b : Book) (a : Authenticator) : Type 0 where
  -- it isn't below the base
  pub above : is_below b.base (number_of b.log_version a) ≡ false
  -- it wasn't shown
  pub new : IsAmong (pair_of b.log_version a) (book_shown b) → ⊥
  -- a hash that was shown at its number is its own
  pub one : (x : List ℕ) → IsAmong (number_of b.log_version a, x) (book_shown b) → x ≡ a.hash

module _ (b : Book) (a : Authenticator) (fits : FitsTogether b) (is : IsNew b a) where
  -- its number
  abbrev number : ℕ
  number = number_of b.log_version a

  -- no pair was shown at its number
  none_there : (x : List ℕ) → IsAmong (number, x) (book_shown b) → ⊥
  none_there x i =
      is.new (subst (λ y. IsAmong (number, y) (book_shown b)) (is.one x i) i)

  -- so it lies above the end
  pub new_above : b.end.number < number
  new_above = by (nat_lt b.end.number number) refl (nat_lt (start_number b.base) number) refl
    where
      at_start : number ≤ start_number b.base → ⊥
      at_start low =
          let r = fits.started.marks number is.above low in
          none_there r.0
          (starts_shown b.base b.log_version b.evidence b.learned b.segments (number, r.0) r.1)

      low : number ≤ b.end.number → start_number b.base < number → ⊥
      low le some =
          let h = held b number fits.tiles some le in
          let w = fits.whole h.segment h.among in
          let p = mark_at h.segment number w (omega (arith, h.from)) h.to in
          none_there p.mark
          (shows b.base b.log_version b.evidence b.learned b.segments (number, p.mark)
          (Segment h.segment h.among p.there))

      by : (x : Bool) → nat_lt b.end.number number ≡ x → (y : Bool) → nat_lt (start_number b.base) number ≡ y
          → b.end.number < number
      by true e y f = ltb-true b.end.number number e
      by false e true f =
          absurd (low (omega (arith, ltb-false b.end.number number e)) (ltb-true (start_number b.base) number f))
      by false e false f = absurd (at_start (ltb-false (start_number b.base) number f))

  -- it agrees with the segment that is out
  new_agrees : (s : Stage) → s ≡ b.stage → AgreesAt b.log_version s b.learned
      → AgreesAt b.log_version s (b.learned ++ a ∷ [])
  new_agrees NoAudit e old = tt
  new_agrees (Wanted first last) e old = tt
  new_agrees (Given c) e old = tt
  new_agrees (Out c) e old = λ x i le. by x le (split x b.learned (a ∷ []) i)
    where
      there : IsAmong c.segment b.segments × (c.segment.first ≡ b.end.number + 1)
      there =
          by_rest fits.tiles
          (subst (λ t. IsMore b.end.number (exposed b) t fits.tiles.more) (sym e) fits.tiles.rest)
        where
          by_rest : (t : AreTiles b) → IsMore b.end.number (exposed b) (Out c) t.more
              → IsAmong c.segment b.segments × (c.segment.first ≡ b.end.number + 1)
          by_rest t r = (
            subst (IsAmong c.segment) (sym (t.are ∙ ap (λ l. t.audited ++ l) r.is))
                (on_right c.segment t.audited (c.segment ∷ []) (inl refl)),
            r.follows.first,
          )

      by : (x : Authenticator) → number_of b.log_version x ≤ last_of c.segment
          → IsAmong x b.learned ⊎ IsAmong x (a ∷ [])
          → IsAmong (pair_of b.log_version x) (marks_of c.segment)
      by x le (inl i) = old x i le
      by x le (inr (inr i)) = absurd i
      by x le (inr (inl same)) =
          let is_number : number_of b.log_version x ≡ number = ap (number_of b.log_version) same in
          let low : number ≤ last_of c.segment = omega (arith, le, is_number) in
          let p = mark_at c.segment number (fits.whole c.segment there.0)
          (omega (arith, there.1, new_above)) low in
          absurd (none_there p.mark
          (shows b.base b.log_version b.evidence b.learned b.segments (number, p.mark)
          (Segment c.segment there.0 p.there)))

-- ---- the parts after it

module _ (b : Book) (a : Authenticator) (fits : FitsTogether b) where
  -- where nothing but evidence is more
  pub fits_exposed : (l : List Authenticator) (e : Option EvidenceParts) → l ≡ b.learned
      → (exposed b ≡ true → is_some e ≡ true) → FitsTogether (record b { learned = l; evidence = e })
  fits_exposed l e same then = record {
    begun = fits.begun;
    started = fits.started;
    above = λ x i. fits.above x (subst (IsAmong x) same i);
    differ = subst (NumbersDiffer b.log_version) (sym same) fits.differ;
    whole = fits.whole;
    version = fits.version;
    tiles = record {
      audited = fits.tiles.audited;
      more = fits.tiles.more;
      are = fits.tiles.are;
      tile = fits.tiles.tile;
      rest = more_exposed b.end.number (exposed b) (is_some e) b.stage fits.tiles.more then fits.tiles.rest;
    };
    agrees = subst (AgreesAt b.log_version b.stage) (sym same) fits.agrees;
    sends = fits.sends;
  }

  -- where a new one is kept
  pub fits_learned : (l : List Authenticator) (e : Option EvidenceParts) → l ≡ b.learned ++ a ∷ []
      → e ≡ b.evidence → IsNew b a → FitsTogether (record b { learned = l; evidence = e })
  fits_learned l e same none is = record {
    begun = fits.begun;
    started = fits.started;
    above = λ x i. above x (split x b.learned (a ∷ []) (subst (IsAmong x) same i));
    differ = subst (NumbersDiffer b.log_version) (sym same)
        (differ_more b.log_version b.learned a fits.differ other);
    whole = fits.whole;
    version = fits.version;
    tiles = record {
      audited = fits.tiles.audited;
      more = fits.tiles.more;
      are = fits.tiles.are;
      tile = fits.tiles.tile;
      rest = subst (λ o. IsMore b.end.number (is_some o) b.stage fits.tiles.more) (sym none) fits.tiles.rest;
    };
    agrees = subst (AgreesAt b.log_version b.stage) (sym same)
        (new_agrees b a fits is b.stage refl fits.agrees);
    sends = fits.sends;
  }
    where
      above : (x : Authenticator) → IsAmong x b.learned ⊎ IsAmong x (a ∷ [])
          → b.end.number < number_of b.log_version x
      above x (inl i) = fits.above x i
      above x (inr (inl e)) =
          subst (λ y. b.end.number < number_of b.log_version y) (sym e) (new_above b a fits is)
      above x (inr (inr i)) = absurd i

      other : (c : Authenticator) → IsAmong c b.learned
          → number_of b.log_version c ≢ number_of b.log_version a
      other c i same =
          none_there b a fits is c.hash
          (subst (λ n. IsAmong (n, c.hash) (book_shown b)) same
          (shows b.base b.log_version b.evidence b.learned b.segments (pair_of b.log_version c) (Learned c i refl)))

-- ---- what is known after it

module _ (w : Watched) (past : Past) (b : Book) (a : Authenticator)
    (k : Known w past b) where
  -- its pair
  abbrev pair : Pair
  pair = pair_of b.log_version a

  -- what shows it
  abbrev showing_it : ShowingParts
  showing_it = authenticator_showing b.log_version a

  -- the evidence that a fork of an authenticator of a log of a version is
  abbrev fork_in : LogVersion → Option EvidenceParts
  fork_in v =
      option_map (λ g. record { node = w.member.node; charge = g })
      (new_fork w past (authenticator_showing v a) (pair_of v a ∷ []))

  -- the evidence after it
  noted_evidence : evidence_noted b a ≡ evidence w ((Learn a, Noted) ∷ past)
  noted_evidence =
      first_same w past b k.of k.exposure
      (fork_evidence b showing_it (pair ∷ []))
      _ (fork_same w past b k.of k.fits showing_it (pair ∷ []) ∙ ap fork_in k.of.of_member.version)

  abbrev l : List Authenticator
  l = learned_unless (evidence_noted b a) b.learned a

  abbrev after : Book
  after = record b { learned = l; evidence = evidence_noted b a }

  known_by : HoldSame l (kept w ((Learn a, Noted) ∷ past))
      → NumbersDiffer w.member.log_version (kept w ((Learn a, Noted) ∷ past))
      → HoldSame (book_shown after) (shown w ((Learn a, Noted) ∷ past))
      → FitsTogether after → Exposure w ((Learn a, Noted) ∷ past)
      → Known w ((Learn a, Noted) ∷ past) after
  known_by keeps differ showing fits x = record {
    of = record {
      of_member = record { node = k.of.of_member.node; version = k.of.of_member.version; base = k.of.of_member.base };
      stands = record {
        end = k.of.stands.end;
        stage = k.of.stands.stage;
        begun = k.of.stands.begun;
        learned = keeps;
        segments = k.of.stands.segments;
        challenges = k.of.stands.challenges;
        outbox = unsent w past (Learn a, Noted) b refl refl k.of;
        evidence = noted_evidence;
        pairs = showing;
      };
    };
    fits = fits;
    kept_differ = differ;
    exposure = x;
    audited = k.audited ∙ sym (append-nil (audited w past));
    sent = subst (λ xs. forwards past ≤ length xs) (sym (found_stays w past (Learn a, Noted) refl)) k.sent;
    roster = k.roster;
  }

  -- where there is evidence after it, nothing is kept of it
  kept_exposed : is_exposed w ((Learn a, Noted) ∷ past) ≡ true
      → kept w ((Learn a, Noted) ∷ past) ≡ kept w past
  kept_exposed is =
      ap (λ x. filter (λ c. nat_lt (end_of w past).number (number_of w.member.log_version c))
      (unless_exposed x (Some a) ++ noted_before w past)) is

  -- where the node isn't exposed after it, it is kept
  kept_hidden : is_exposed w ((Learn a, Noted) ∷ past) ≡ false
      → (end_of w past).number < number_of w.member.log_version a
      → kept w ((Learn a, Noted) ∷ past) ≡ a ∷ kept w past
  kept_hidden is above =
      ap (λ x. filter (λ c. nat_lt (end_of w past).number (number_of w.member.log_version c))
      (unless_exposed x (Some a) ++ noted_before w past)) is
      ∙ ap (λ x. cond x (a ∷ kept w past) (kept w past))
      (lt-ltb (end_of w past).number (number_of w.member.log_version a) above)

  keeps_old : l ≡ b.learned → is_exposed w ((Learn a, Noted) ∷ past) ≡ true
      → HoldSame l (kept w ((Learn a, Noted) ∷ past))
  keeps_old same is =
      subst (λ xs. HoldSame xs (kept w ((Learn a, Noted) ∷ past))) (sym same)
      (subst (HoldSame b.learned) (sym (kept_exposed is)) k.of.stands.learned)

  shown_by : (x : Bool) → is_exposed w past ≡ x
      → shown w ((Learn a, Noted) ∷ past) ≡ pairs_noted b.log_version x (Some a) ++ shown w past
  shown_by x is =
      ap (λ y. pairs_noted w.member.log_version y (Some a) ++ shown w past) is
      ∙ ap (λ v. pairs_noted v x (Some a) ++ shown w past) (sym k.of.of_member.version)

  -- it was exposed before
  was_exposed : (e : EvidenceParts) → b.evidence ≡ Some e → is_exposed w past ≡ true
      → Exposure w ((Learn a, Noted) ∷ past) → Known w ((Learn a, Noted) ∷ past) after
  was_exposed e some is x =
      known_by (keeps_old same (still x))
      (subst (NumbersDiffer w.member.log_version) (sym (kept_exposed (still x))) k.kept_differ)
      (subst (HoldSame (book_shown after)) (sym (shown_by true is))
      (subst (λ ps. HoldSame ps (shown w past))
      (sym (ap₂ (λ o xs. showing_of b.base b.log_version o xs b.segments) (now ∙ sym some) same)) k.of.stands.pairs))
      (fits_exposed b a k.fits l (evidence_noted b a) same (λ h. ap (λ o. is_some o) now)) x
    where
      now : evidence_noted b a ≡ Some e
      now = ap (λ o. first_evidence o (fork_evidence b showing_it (pair ∷ []))) some

      same : l ≡ b.learned
      same = ap (λ o. learned_unless o b.learned a) now

      still : Exposure w ((Learn a, Noted) ∷ past) → is_exposed w ((Learn a, Noted) ∷ past) ≡ true
      still (Open f more is) = is
      still (Hidden none is) =
          let no : ◌≡◌ {A = Option EvidenceParts} (Some e) None = sym now ∙ (noted_evidence ∙ none) in
          absurd (cc)

  -- it exposes the node
  exposes : (e : EvidenceParts) → b.evidence ≡ None → is_exposed w past ≡ false
      → evidence w ((Learn a, Noted) ∷ past) ≡ Some e → is_exposed w ((Learn a, Noted) ∷ past) ≡ true
      → Known w ((Learn a, Noted) ∷ past) after
  exposes e none is some now =
      known_by (keeps_old same now)
      (subst (NumbersDiffer w.member.log_version) (sym (kept_exposed now)) k.kept_differ)
      (subst (HoldSame (book_shown after)) (sym (shown_by false is))
      (subst (λ ps. HoldSame ps (pair ∷ shown w past))
      (sym (ap₂ (λ o xs. showing_of b.base b.log_version o xs b.segments) there same))
      (same_through (showing_of b.base b.log_version (Some e) b.learned b.segments)
      (pair ∷ showing_of b.base b.log_version None b.learned b.segments) (pair ∷ shown w past)
      (add_exposing b.base b.log_version e pair b.learned b.segments
      (fork_shows b showing_it (pair ∷ []) e fork))
      (same_after pair (showing_of b.base b.log_version None b.learned b.segments) (shown w past)
      (subst (λ o. HoldSame (showing_of b.base b.log_version o b.learned b.segments) (shown w past)) none
      k.of.stands.pairs)))))
      (fits_exposed b a k.fits l (evidence_noted b a) same (λ h. ap (λ o. is_some o) there))
      (Open e some now)
    where
      there : evidence_noted b a ≡ Some e
      there = noted_evidence ∙ some

      same : l ≡ b.learned
      same = ap (λ o. learned_unless o b.learned a) there

      fork : fork_evidence b showing_it (pair ∷ []) ≡ Some e
      fork =
          sym (ap (λ o. first_evidence o (fork_evidence b showing_it (pair ∷ []))) none)
          ∙ there

  -- it is kept
  stays_hidden : b.evidence ≡ None → is_exposed w past ≡ false
      → evidence w ((Learn a, Noted) ∷ past) ≡ None → is_exposed w ((Learn a, Noted) ∷ past) ≡ false
      → is_below w.base (number_of w.member.log_version a) ≡ false
      → is_shown (pair_of w.member.log_version a) (shown w past) ≡ false
      → Known w ((Learn a, Noted) ∷ past) after
  stays_hidden none is some now above unshown =
      known_by
      (subst (λ xs. HoldSame xs (kept w ((Learn a, Noted) ∷ past))) (sym same)
      (subst (HoldSame (b.learned ++ a ∷ [])) (sym its_kept)
      (same_more a b.learned (kept w past) k.of.stands.learned)))
      (subst (NumbersDiffer w.member.log_version) (sym its_kept) (
        all_by (λ c. number_of w.member.log_version a ≢ number_of w.member.log_version c) (kept w past)
            (λ c i. other c i),
        k.kept_differ,
      ))
      (subst (HoldSame (book_shown after)) (sym (shown_by false is))
      (subst (λ ps. HoldSame ps (pair ∷ shown w past))
      (sym (ap₂ (λ o xs. showing_of b.base b.log_version o xs b.segments) (there ∙ sym none) same))
      (same_through (showing_of b.base b.log_version b.evidence (b.learned ++ a ∷ []) b.segments)
      (pair ∷ book_shown b) (pair ∷ shown w past)
      (add_learned b.base b.log_version b.evidence b.learned b.segments a)
      (same_after pair (book_shown b) (shown w past) k.of.stands.pairs))))
      (fits_learned b a k.fits l (evidence_noted b a) same (there ∙ sym none) fresh)
      (Hidden some now)
    where
      there : evidence_noted b a ≡ None
      there = noted_evidence ∙ some

      same : l ≡ b.learned ++ a ∷ []
      same = ap (λ o. learned_unless o b.learned a) there

      later : (x : List ℕ) → IsAmong (number_of b.log_version a, x) (shown w past)
          → IsAmong (number_of b.log_version a, x) (shown w ((Learn a, Noted) ∷ past))
      later x i = subst (IsAmong (number_of b.log_version a, x)) (sym (shown_by false is)) (inr i)

      its : IsAmong pair (shown w ((Learn a, Noted) ∷ past))
      its = subst (IsAmong pair) (sym (shown_by false is)) (inl refl)

      fresh : IsNew b a
      fresh = record {
        above = ap₂ (λ o v. is_below o (number_of v a)) k.of.of_member.base k.of.of_member.version ∙ above;
        new = λ i.
            true≢false (sym (passed (λ q. same_pair pair q) (shown w past) pair
            ((k.of.stands.pairs pair).0 i)
            (and_from (number_of b.log_version a == number_of b.log_version a) (is_same a.hash a.hash)
            (eq-eqb (number_of b.log_version a) (number_of b.log_version a) refl)
            (list_same a.hash a.hash refl)))
            ∙ (ap (λ v. is_shown (pair_of v a) (shown w past)) k.of.of_member.version ∙ unshown));
        one = λ x i.
            one_shown w ((Learn a, Noted) ∷ past) now (number_of b.log_version a) x a.hash
            (later x ((k.of.stands.pairs (number_of b.log_version a, x)).0 i)) its;
      }

      its_kept : kept w ((Learn a, Noted) ∷ past) ≡ a ∷ kept w past
      its_kept =
          kept_hidden now (subst (λ v. (end_of w past).number < number_of v a) k.of.of_member.version
          (subst (λ (e : End). e.number < number_of b.log_version a) k.of.stands.end
          (new_above b a k.fits fresh)))

      other : (c : Authenticator) → IsAmong c (kept w past)
          → number_of w.member.log_version a ≢ number_of w.member.log_version c
      other c i same =
          none_there b a k.fits fresh c.hash
          (subst (λ n. IsAmong (n, c.hash) (book_shown b))
          (sym (subst (λ v. number_of v a ≡ number_of v c) (sym k.of.of_member.version) same))
          (shows b.base b.log_version b.evidence b.learned b.segments (pair_of b.log_version c)
          (Learned c ((k.of.stands.learned c).1 i) refl)))

  -- What is known after an authenticator that was noted.
  pub noted_known : (is_exposed w past ≡ false → is_below w.base (number_of w.member.log_version a) ≡ false)
      → (is_exposed w past ≡ false → is_shown (pair_of w.member.log_version a) (shown w past) ≡ false)
      → Exposure w ((Learn a, Noted) ∷ past) → Known w ((Learn a, Noted) ∷ past) (after_learn b a Noted)
  noted_known above unshown x = by k.exposure x
    where
      by : Exposure w past → Exposure w ((Learn a, Noted) ∷ past)
          → Known w ((Learn a, Noted) ∷ past) (after_learn b a Noted)
      by (Open e some is) y = was_exposed e (k.of.stands.evidence ∙ some) is y
      by (Hidden none is) (Open e some now) = exposes e (k.of.stands.evidence ∙ none) is some now
      by (Hidden none is) (Hidden gone now) =
          stays_hidden (k.of.stands.evidence ∙ none) is gone now (above is) (unshown is)
