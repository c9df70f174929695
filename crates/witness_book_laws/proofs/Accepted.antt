-- The book after a segment that was accepted.
-- Serves: all laws here.
use Rattle.std.proofs.Common.{◌≡◌, ◌⊎◌, inl, inr, ◌+◌, ◌≤◌, List, [], ◌∷◌, ◌++◌}
use Rattle.std.proofs.Common.{length, append-nil, Option, Some, None, refl, sym, ap, subst}
use Rattle.std.proofs.Common.{◌∙◌, arith}
use Rattle.secure_log.specs.Versioned.{VersionedParts, ClosedParts}
use Rattle.secure_log.specs.LogEntries.Chain.{IsAmong}
use Rattle.witness_laws.specs.evidence_spec.Showing.{versioned_showing}
use Rattle.witness_laws.specs.evidence_spec.Evidence.{EvidenceParts}
use Rattle.witness_laws.specs.witness_spec.Replies.{Accepted}
use Rattle.witness_laws.specs.witness_spec.Watched.{Watched, IsInRoster}
use Rattle.witness_laws.specs.witness_spec.Steps.{Answer, Past}
use Rattle.witness_laws.specs.witness_spec.Pairs.{Pair, pair_of, last_of, marks_of}
use Rattle.witness_laws.specs.witness_spec.Standing.{shown, all_accepted, open_after, Stage, Wanted, audited}
use Rattle.witness_laws.specs.witness_spec.Standing.{forwards}
use Rattle.witness_laws.specs.witness_spec.Exposing.{evidence}
use Rattle.witness_laws.specs.witness_spec.Histories.{HoldSame}
use Rattle.witness_book_laws.specs.Books.{Book, exposed, book_shown}
use Rattle.witness_book_laws.specs.Going.{first_evidence, fork_evidence, evidence_accepted, after_answer}
use Rattle.witness_book_laws.specs.Fitting.{IsWhole, IsMore, FitsTogether}
use Rattle.witness_laws.proofs.Checked.{IsGiven}
use Rattle.witness_laws.proofs.OfEvidence.Audits.{good_given, its_log_version}
use Rattle.witness_book_laws.proofs.Lists.{same_more}
use Rattle.witness_laws.proofs.OfEvidence.Before.{split, on_left}
use Rattle.witness_book_laws.proofs.Kept.{showing_of, fork_shows, same_past, same_through, add_segment}
use Rattle.witness_book_laws.proofs.Kept.{add_exposing}
use Rattle.witness_book_laws.proofs.Segments.{ends_whole, audited_are}
use Rattle.witness_book_laws.proofs.Quiet.{Exposure, unsent, found_stays}
use Rattle.witness_book_laws.proofs.Known.{Known, first_same, fork_same}

-- a segment that was checked is whole
pub given_whole : (w : Watched) (c : ClosedParts) → IsGiven w c → IsWhole c.segment
given_whole w c given = ends_whole c.segment given.closed.ends

-- such a segment is of a log of the member's version
pub given_version : (w : Watched) (c : ClosedParts) → IsInRoster w → IsGiven w c
    → c.segment.log_version ≡ w.member.log_version
given_version w c is given = its_log_version w c.segment is (good_given w c given)

-- a pair that is there need not be put before
absorb : (p : Pair) (xs : List Pair) → IsAmong p xs → HoldSame (p ∷ xs) xs
absorb p xs there q = (λ i. by i, λ i. inr i)
  where
    by : IsAmong q (p ∷ xs) → IsAmong q xs
    by (inl e) = subst (λ r. IsAmong r xs) (sym e) there
    by (inr i) = i

module _ (w : Watched) (past : Past) (b : Book) (c : ClosedParts)
    (k : Known w past b) where
  -- the evidence after it
  accepted_evidence : evidence_accepted b c.segment ≡ evidence w ((Answer c, Accepted) ∷ past)
  accepted_evidence =
      first_same w past b k.of k.exposure
      (fork_evidence b (versioned_showing c.segment) (marks_of c.segment))
      _ (fork_same w past b k.of k.fits (versioned_showing c.segment) (marks_of c.segment))

  abbrev after : Book
  after = after_answer b c Accepted

  -- ---- what is shown

  abbrev with_it : Option EvidenceParts → List Pair
  with_it e = showing_of b.base b.log_version e b.learned (b.segments ++ c.segment ∷ [])

  -- the pair of its closing
  abbrev closing_pair : Pair
  closing_pair = pair_of b.log_version c.segment.closing

  older : HoldSame (with_it b.evidence) (marks_of c.segment ++ shown w past)
  older =
      same_through (with_it b.evidence) (marks_of c.segment ++ book_shown b)
      (marks_of c.segment ++ shown w past)
      (add_segment b.base b.log_version b.evidence b.learned b.segments c.segment)
      (same_past (marks_of c.segment) (book_shown b) (shown w past) k.of.stands.pairs)

  -- where there is evidence now, it shows the segment's closing besides
  newer : (e : EvidenceParts) → b.evidence ≡ None → evidence_accepted b c.segment ≡ Some e → IsWhole c.segment
      → c.segment.log_version ≡ b.log_version
      → HoldSame (with_it (Some e)) (marks_of c.segment ++ shown w past)
  newer e none now whole version =
      same_through (with_it (Some e)) (closing_pair ∷ with_it None)
      (marks_of c.segment ++ shown w past)
      (add_exposing b.base b.log_version e closing_pair b.learned (b.segments ++ c.segment ∷ [])
      (fork_shows b (versioned_showing c.segment) (marks_of c.segment) e fork))
      (same_through (closing_pair ∷ with_it None) (with_it None)
      (marks_of c.segment ++ shown w past)
      (absorb closing_pair (with_it None)
      ((before closing_pair).1 (on_left closing_pair (marks_of c.segment) (shown w past) closes_it)))
      before)
    where
      closes_it : IsAmong closing_pair (marks_of c.segment)
      closes_it =
          subst (λ v. IsAmong (pair_of v c.segment.closing) (marks_of c.segment)) version
          whole.closes

      before : HoldSame (with_it None) (marks_of c.segment ++ shown w past)
      before = subst (λ o. HoldSame (with_it o) (marks_of c.segment ++ shown w past)) none older

      fork : fork_evidence b (versioned_showing c.segment) (marks_of c.segment) ≡ Some e
      fork =
          sym (ap (λ o. first_evidence o
          (fork_evidence b (versioned_showing c.segment) (marks_of c.segment)))
          none) ∙ now

  showing : IsWhole c.segment → c.segment.log_version ≡ b.log_version
      → HoldSame (with_it (evidence_accepted b c.segment)) (marks_of c.segment ++ shown w past)
  showing whole version = by b.evidence refl (evidence_accepted b c.segment) refl
    where
      by : (o : Option EvidenceParts) → b.evidence ≡ o → (n : Option EvidenceParts)
          → evidence_accepted b c.segment ≡ n
          → HoldSame (with_it (evidence_accepted b c.segment)) (marks_of c.segment ++ shown w past)
      by (Some e) was n now =
          subst (λ x. HoldSame (with_it x) (marks_of c.segment ++ shown w past))
          (was ∙ sym (ap (λ x. first_evidence x
          (fork_evidence b (versioned_showing c.segment) (marks_of c.segment))) was)) older
      by None was None now =
          subst (λ x. HoldSame (with_it x) (marks_of c.segment ++ shown w past)) (was ∙ sym now) older
      by None was (Some e) now =
          subst (λ x. HoldSame (with_it x) (marks_of c.segment ++ shown w past)) (sym now)
          (newer e was now whole version)

  -- ---- its parts

  -- before it nothing was accepted that isn't audited, and it follows on the end
  pub record IsWanted : Type 0 where
    -- all accepted segments are audited
    pub none : k.fits.tiles.more ≡ []
    -- its first number is the one after the end
    pub first : c.segment.first ≡ b.end.number + 1
    -- it isn't empty
    pub some : c.segment.first ≤ last_of c.segment

  wanted : (s : Stage) → s ≡ Wanted c.segment.first (last_of c.segment) → b.stage ≡ s → IsWanted
  wanted s is same =
      let r : IsMore b.end.number (exposed b)
      (Wanted c.segment.first (last_of c.segment)) k.fits.tiles.more =
      subst (λ t. IsMore b.end.number (exposed b) t k.fits.tiles.more) (same ∙ is) k.fits.tiles.rest in
      record { none = r.0; first = r.1; some = r.2 }

  fits : IsWhole c.segment → c.segment.log_version ≡ b.log_version → IsWanted → FitsTogether after
  fits whole version told = record {
    begun = k.fits.begun;
    started = k.fits.started;
    above = k.fits.above;
    differ = k.fits.differ;
    whole = λ s i. by s (split s b.segments (c.segment ∷ []) i);
    version = λ s i. of_log s (split s b.segments (c.segment ∷ []) i);
    tiles = record {
      audited = k.fits.tiles.audited;
      more = c.segment ∷ [];
      are = ap (λ l. l ++ c.segment ∷ []) (k.fits.tiles.are ∙ (ap (λ l. k.fits.tiles.audited ++ l) told.none
          ∙ append-nil k.fits.tiles.audited));
      tile = k.fits.tiles.tile;
      rest = record {
        is = refl;
        follows = record { first = told.first; some = omega (arith, told.first, told.some) };
      };
    };
    agrees = tt;
    sends = k.fits.sends;
  }
    where
      by : (s : VersionedParts) → IsAmong s b.segments ⊎ IsAmong s (c.segment ∷ []) → IsWhole s
      by s (inl i) = k.fits.whole s i
      by s (inr (inl e)) = subst IsWhole (sym e) whole
      by s (inr (inr i)) = absurd i

      of_log : (s : VersionedParts) → IsAmong s b.segments ⊎ IsAmong s (c.segment ∷ [])
          → s.log_version ≡ b.log_version
      of_log s (inl i) = k.fits.version s i
      of_log s (inr (inl e)) = ap (λ (x : VersionedParts). x.log_version) e ∙ version
      of_log s (inr (inr i)) = absurd i

  -- What is known after a segment that was accepted.
  pub accepted_known : IsInRoster w → IsGiven w c
      → b.stage ≡ Wanted c.segment.first (last_of c.segment)
      → Exposure w ((Answer c, Accepted) ∷ past)
      → Known w ((Answer c, Accepted) ∷ past) (after_answer b c Accepted)
  unfolding fits
  accepted_known member given is x =
      let whole = given_whole w c given in
      let version : c.segment.log_version ≡ b.log_version =
      given_version w c member given ∙ sym k.of.of_member.version in
      let f = fits whole version (wanted (Wanted c.segment.first (last_of c.segment)) refl is) in
      record {
        of = record {
          of_member = record {
            node = k.of.of_member.node;
            version = k.of.of_member.version;
            base = k.of.of_member.base;
          };
          stands = record {
            end = k.of.stands.end;
            stage = refl;
            begun = k.of.stands.begun;
            learned = k.of.stands.learned;
            segments = same_more c.segment b.segments (all_accepted past) k.of.stands.segments;
            challenges = ap (λ xs. open_after xs (Answer c) Accepted) k.of.stands.challenges;
            outbox = unsent w past (Answer c, Accepted) b refl refl k.of;
            evidence = accepted_evidence;
            pairs = showing whole version;
          };
        };
        fits = f;
        kept_differ = k.kept_differ;
        exposure = x;
        audited = audited_are after f.tiles ∙ (sym (audited_are b k.fits.tiles) ∙ (k.audited
            ∙ sym (append-nil (audited w past))));
        sent = subst (λ xs. forwards past ≤ length xs)
            (sym (found_stays w past (Answer c, Accepted) refl)) k.sent;
        roster = given.roster;
      }
