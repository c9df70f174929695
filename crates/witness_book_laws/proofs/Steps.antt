-- What is known of a book stays known after each step that gets the reply that is owed to it.
-- Serves: all laws here.
use Rattle.std.proofs.Common.{◌≡◌, ◌⊎◌, inl, inr, ℕ, ◌+◌, ◌-◌, ◌<◌, ◌≤◌, Bool, true, false, cond, ◌==◌, ◌&&◌}
use Rattle.std.proofs.Common.{nat_lt}
use Rattle.std.proofs.Common.{List, [], ◌∷◌, ◌++◌, length, length-drop, append-nil, Option, Some, None, fold}
use Rattle.std.proofs.Common.{refl, sym}
use Rattle.std.proofs.Common.{ap, ap₂, subst, ◌∙◌, arith, eqb-true}
use Rattle.std.specs.Prelude.{is_some}
use Rattle.std.specs.List.{AllByRecursion}
use Rattle.std.proofs.lemmas.Bool.{and_parts, true≢false, ltb-false}
use Rattle.std.proofs.lemmas.List.Sums.{sum_by_from}
use Rattle.std.proofs.lemmas.Option.{same_Some}
use Rattle.authenticator.specs.declared.authenticator.Authenticator.{Authenticator}
use Rattle.authenticator.specs.declared.member.LogVersion.{LogVersion}
use Rattle.authenticator.specs.declared.member.Member.{Member}
use Rattle.secure_log.specs.Versioned.{ClosedParts}
use Rattle.envelopes.specs.declared.envelope.Envelope.{Envelope}
use Rattle.envelopes.specs.declared.acknowledgement.Ack.{Ack}
use Rattle.witness_laws.specs.state_spec.State.{State}
use Rattle.replay_spec.specs.Placed.{places_in}
use Rattle.replay_spec.specs.Replay.{verdict_of}
use Rattle.secure_log.specs.LogEntries.Chain.{IsAmong}
use Rattle.witness_laws.specs.witness_spec.Refusals.{NotAsked, TooFar, BookFull, OutboxFull, LearnedFull}
use Rattle.witness_laws.specs.witness_spec.Refusals.{NothingToAudit, BelowBase}
use Rattle.witness_laws.specs.witness_spec.Events.{JobParts, DoneParts, Question}
use Rattle.witness_laws.specs.witness_spec.Replies.{Reply, Noted, Already, Opened, Accepted, Closed, Asked}
use Rattle.witness_laws.specs.witness_spec.Replies.{Job, Filed}
use Rattle.witness_laws.specs.witness_spec.Replies.{Returned}
use Rattle.witness_laws.specs.witness_spec.Replies.{Forwarded, Refused, Challenge}
use Rattle.witness_laws.specs.witness_spec.Starting.{start_number, is_below}
use Rattle.witness_laws.specs.witness_spec.Watched.{Watched, IsInRoster}
use Rattle.witness_laws.specs.witness_spec.Steps.{Step, Learn, SendChallenge, Answer, AckIn, Audit, Begin}
use Rattle.witness_laws.specs.witness_spec.Steps.{File, PutBack}
use Rattle.witness_laws.specs.witness_spec.Steps.{Forward, Ask, Past}
use Rattle.witness_laws.specs.witness_spec.Limits.{MAX_AUDITED, MAX_OUTBOX}
use Rattle.witness_laws.specs.witness_spec.Pairs.{number_of, pair_of, is_shown, last_of, marks_of}
use Rattle.witness_laws.specs.witness_spec.Done as did
use Rattle.witness_laws.specs.witness_spec.Done.{forwarded}
use Rattle.witness_laws.specs.witness_spec.Standing.{End, end_of, entries_filed, audited, shown, is_exposed}
use Rattle.witness_laws.specs.witness_spec.Standing.{Stage}
use Rattle.witness_laws.specs.witness_spec.Standing.{NoAudit, Wanted}
use Rattle.witness_laws.specs.witness_spec.Standing.{Given, Out, all_found, forwards, outbox}
use Rattle.witness_laws.specs.witness_spec.Owing.{has_no_room, answer_reply, last_in_reach, ask_up_to}
use Rattle.witness_laws.specs.witness_spec.Owing.{ask_reply}
use Rattle.witness_laws.specs.witness_spec.Owing.{back_reply}
use Rattle.witness_laws.specs.witness_spec.Owing.{forward_reply, Owes}
use Rattle.witness_book_laws.specs.Books.{Book, exposed, job_of, job_out_at, job_out}
use Rattle.witness_book_laws.specs.Replying.{reply_to_audit, reply_to_begin, BookOwes}
use Rattle.witness_book_laws.specs.Going.{after_learn, after_send_challenge, after_answer, after_ack}
use Rattle.witness_book_laws.specs.Going.{after_audit}
use Rattle.witness_book_laws.specs.Going.{after_begin, after_file, after_put_back, after_forward, book_after}
use Rattle.witness_book_laws.specs.Fitting.{NumbersDiffer, IsMore, IsFaulty, AgreesAt, FitsTogether}
use Rattle.witness_laws.proofs.Checked.{IsCheckedStep}
use Rattle.witness_laws.proofs.Reach.{in_reach}
use Rattle.witness_laws.proofs.OfEvidence.Before.{one_shown}
use Rattle.witness_laws.proofs.OfEvidence.Before.{on_right}
use Rattle.witness_book_laws.proofs.Kept.{shows, Learned, Segment}
use Rattle.witness_book_laws.proofs.Segments.{mark_at}
use Rattle.witness_book_laws.proofs.Quiet.{Exposure, DoesNothing, quiet, found_stays, having_challenged}
use Rattle.witness_book_laws.proofs.Quiet.{kept_stays}
use Rattle.witness_book_laws.proofs.Quiet.{having_acked, having_asked, having_begun, having_put_back}
use Rattle.witness_book_laws.proofs.Quiet.{having_forwarded}
use Rattle.witness_book_laws.proofs.Known.{Known, RosterAt, exposed_same, owes_known}
use Rattle.witness_book_laws.proofs.Learned.{noted_known}
use Rattle.witness_book_laws.proofs.Accepted.{accepted_known}
use Rattle.witness_book_laws.proofs.Filed.{filed_known}

-- a done value's verdict is the replay of its own state and segment, under the roster that its segment keeps
abbrev pub IsDoneStep : Step → Type 0
IsDoneStep (File d) =
    d.verdict ≡ verdict_of d.job.segment.roster d.job.state (places_in d.job.segment.segment)
IsDoneStep _ = Unit {0}

-- ---- the parts of a book whose audit, challenges and outbox change

fits_at : (b : Book) (s : Stage) (n : ℕ) (c : List Challenge) (o : List Authenticator) → (f : FitsTogether b)
    → IsMore b.end.number (exposed b) s f.tiles.more → AgreesAt b.log_version s b.learned
    → FitsTogether (record b { stage = s; begun = n; challenges = c; outbox = o })
fits_at b s n c o f rest agrees = record {
  begun = f.begun;
  started = f.started;
  above = f.above;
  differ = f.differ;
  whole = f.whole;
  version = f.version;
  tiles = record {
    audited = f.tiles.audited;
    more = f.tiles.more;
    are = f.tiles.are;
    tile = f.tiles.tile;
    rest = rest;
  };
  agrees = agrees;
  sends = f.sends;
}

-- those of a book whose challenges and outbox alone change
fits_with : (b : Book) (c : List Challenge) (o : List Authenticator) → FitsTogether b
    → FitsTogether (record b { challenges = c; outbox = o })
fits_with b c o f = fits_at b b.stage b.begun c o f f.tiles.rest f.agrees

-- ---- what a reply tells of the book

-- an audit that asks: there was none, the node isn't exposed, and the numbers follow on the end
pub record Asks (b : Book) (first last : ℕ) : Type 0 where
  -- there was no audit
  pub none : b.stage ≡ NoAudit
  -- the node isn't exposed
  pub hidden : exposed b ≡ false
  -- it begins after the end
  pub first_is : first ≡ b.end.number + 1
  -- the numbers are in order
  pub order : first ≤ last
  -- so many entries may be audited
  pub few : last ≤ start_number b.base + MAX_AUDITED
  -- what it finds has room
  pub room : length b.outbox + (last - b.end.number) ≤ MAX_OUTBOX

asked_same : (f l k n : ℕ) → Asked f l ≡ Asked k n → (f ≡ k) × (l ≡ n)
asked_same f l k n h = (cc, cc)

all_by : (v : LogVersion) (end : ℕ) (xs : List Authenticator)
    → ((a : Authenticator) → IsAmong a xs → end < number_of v a)
    → AllByRecursion (λ a. end < number_of v a) xs
all_by v end [] each = tt
all_by v end (x ∷ xs) each = (each x (inl refl), all_by v end xs (λ a i. each a (inr i)))

-- the last number that an audit of a book can ask for; 0 if there is none
abbrev reach : Book → ℕ
reach b = last_in_reach b.log_version b.end.number b.learned

-- what a reply that asks tells of the book
pub asks : (b : Book) (first last : ℕ) → FitsTogether b → Asked first last ≡ reply_to_audit b b.stage
    → Asks b first last
asks b first last fits told = by b.stage refl (told)
  where
    upto : (x y z : Bool) → (reach b == 0) ≡ x
        → nat_lt (start_number b.base + MAX_AUDITED) (reach b) ≡ y
        → nat_lt MAX_OUTBOX (length b.outbox + (reach b - b.end.number)) ≡ z
        → b.stage ≡ NoAudit → exposed b ≡ false
        → Asked first last ≡ cond x (Refused TooFar) (cond y (Refused BookFull) (cond z (Refused OutboxFull)
        (Asked (b.end.number + 1) (reach b))))
        → Asks b first last
    upto true y z e f g none hidden h = absurd (cc)
    upto false true z e f g none hidden h = absurd (cc)
    upto false false true e f g none hidden h = absurd (cc)
    upto false false false e f g none hidden h =
        let same = asked_same first last (b.end.number + 1) (reach b) h in
        let reached = in_reach b.log_version b.learned b.end.number b.learned (λ a i. i)
        (all_by b.log_version b.end.number b.learned fits.above) e in
        record {
          none = none;
          hidden = hidden;
          first_is = same.0;
          order = omega (arith, same.0, same.1, reached.0.order);
          few = omega (arith, same.1, ltb-false (start_number b.base + MAX_AUDITED) (reach b) f);
          room = omega (
            arith,
            same.1,
            ltb-false MAX_OUTBOX
                (length b.outbox + (reach b - b.end.number)) g,
          );
        }

    by_learned : (x : Bool) (l : List Authenticator) → b.learned ≡ l → exposed b ≡ x → b.stage ≡ NoAudit
        → Asked first last ≡ ask_reply b.log_version x (start_number b.base) b.end.number (length b.outbox) l
        → Asks b first last
    by_learned true l e is none h = absurd (cc)
    by_learned false [] e is none h = absurd (cc)
    by_learned false (a ∷ l) e is none h =
        upto (reach b == 0)
        (nat_lt (start_number b.base + MAX_AUDITED) (reach b))
        (nat_lt MAX_OUTBOX
        (length b.outbox + (reach b - b.end.number))) refl refl refl none is
        (h ∙ ap (λ xs. ask_up_to (start_number b.base) b.end.number (length b.outbox)
        (last_in_reach b.log_version b.end.number xs)) (sym e))

    by : (s : Stage) → b.stage ≡ s → Asked first last ≡ reply_to_audit b b.stage → Asks b first last
    by NoAudit is h =
        by_learned (exposed b) b.learned refl refl is (h ∙ ap (reply_to_audit b) is)
    by (Wanted f l) is h =
        let no : Asked first last ≡ reply_to_audit b (Wanted f l) = h ∙ ap (reply_to_audit b) is in
        absurd (cc)
    by (Given c) is h =
        let no : Asked first last ≡ reply_to_audit b (Given c) = h ∙ ap (reply_to_audit b) is in absurd (cc)
    by (Out c) is h =
        let no : Asked first last ≡ reply_to_audit b (Out c) = h ∙ ap (reply_to_audit b) is in absurd (cc)

-- a job that begins: it is of the segment that was given, and the node isn't exposed
pub record Begins (b : Book) (j : JobParts) : Type 0 where
  -- its segment was given
  pub given : b.stage ≡ Given j.segment
  -- the node isn't exposed
  pub hidden : exposed b ≡ false

-- what a reply that begins a job tells of the book
pub begins : (b : Book) (j : JobParts) → Job j ≡ reply_to_begin b b.stage → Begins b j
begins b j told = by b.stage refl
  where
    job_same : (k : JobParts) → Job j ≡ Job k → j ≡ k
    job_same k h = cc

    by_exposed : (c : ClosedParts) (x : Bool) → exposed b ≡ x → b.stage ≡ Given c
        → Job j ≡ cond x (Refused NothingToAudit) (Job (job_of b (b.begun + 1) c)) → Begins b j
    by_exposed c true is at h = absurd (cc)
    by_exposed c false is at h =
        record {
          given = at ∙ ap (λ (k : JobParts). Given k.segment) (sym (job_same (job_of b (b.begun + 1) c) h));
          hidden = is;
        }

    by : (s : Stage) → b.stage ≡ s → Begins b j
    by NoAudit is = let no : Job j ≡ reply_to_begin b NoAudit = told ∙ ap (reply_to_begin b) is in absurd (cc)
    by (Wanted f l) is =
        let no : Job j ≡ reply_to_begin b (Wanted f l) = told ∙ ap (reply_to_begin b) is in absurd (cc)
    by (Given c) is = by_exposed c (exposed b) refl is (told ∙ ap (reply_to_begin b) is)
    by (Out c) is = let no : Job j ≡ reply_to_begin b (Out c) = told ∙ ap (reply_to_begin b) is in absurd (cc)

-- the job that is out is of the segment that is, and begins from the end's state
pub record IsOutOf (b : Book) (j : JobParts) : Type 0 where
  -- its segment is out
  pub at : b.stage ≡ Out j.segment
  -- its state is the end's
  pub state : j.state ≡ b.end.state

-- what it tells of the book that a job is out
pub out_of : (b : Book) (j : JobParts) → job_out b ≡ Some j → IsOutOf b j
out_of b j h = by b.stage refl
  where
    by : (s : Stage) → b.stage ≡ s → IsOutOf b j
    by NoAudit is = let no : None ≡ Some j = ap (job_out_at b) (sym is) ∙ h in absurd (cc)
    by (Wanted f l) is = let no : None ≡ Some j = ap (job_out_at b) (sym is) ∙ h in absurd (cc)
    by (Given c) is = let no : None ≡ Some j = ap (job_out_at b) (sym is) ∙ h in absurd (cc)
    by (Out c) is =
        let same : job_of b b.begun c ≡ j = same_Some _ _ (ap (job_out_at b) (sym is) ∙ h) in
        record {
          at = is ∙ ap (λ (k : JobParts). Out k.segment) same;
          state = ap (λ (k : JobParts). k.state) (sym same);
        }

-- an answer that is accepted is what was asked for
pub was_wanted : (s : Stage) (c : ClosedParts) → Accepted ≡ answer_reply s c
    → s ≡ Wanted c.segment.first (last_of c.segment)
was_wanted NoAudit c h = absurd (cc)
was_wanted (Given d) c h = absurd (cc)
was_wanted (Out d) c h = absurd (cc)
was_wanted (Wanted f l) c h =
    by ((c.segment.first == f) && (last_of c.segment == l)) refl h
  where
    by : (x : Bool) → ((c.segment.first == f) && (last_of c.segment == l)) ≡ x
        → Accepted ≡ cond x Accepted (Refused NotAsked)
        → Wanted f l ≡ Wanted c.segment.first (last_of c.segment)
    by false e k = absurd (cc)
    by true e k =
        let both = and_parts (c.segment.first == f) (last_of c.segment == l) e in
        ap₂ (λ x y. Wanted x y) (sym (eqb-true c.segment.first f both.0))
        (sym (eqb-true (last_of c.segment) l both.1))

-- what comes back is the job that is out
pub returned_is : (x : Bool) (o : Option JobParts) (good wrong none : Reply) → (good ≡ wrong → ⊥)
    → (good ≡ none → ⊥)
    → good ≡ back_reply x o good wrong none → x ≡ true
returned_is x None good wrong none f g h = absurd (g h)
returned_is true (Some j) good wrong none f g h = refl
returned_is false (Some j) good wrong none f g h = absurd (f h)

-- ---- each step

module _ (w : Watched) (past : Past) (b : Book) (k : Known w past b) where
  -- a step that does nothing
  known_quiet : (p : Step × Reply) → DoesNothing past p → Exposure w (p ∷ past) → Known w (p ∷ past) b
  known_quiet p did x = record {
    of = quiet w past p b did k.exposure k.of;
    fits = k.fits;
    kept_differ = subst (NumbersDiffer w.member.log_version) (sym (kept_stays w past p did.notes did.files))
        k.kept_differ;
    exposure = x;
    audited =
        k.audited ∙ sym (ap (λ o. audited w past ++ entries_filed w.roster (end_of w past).state o) did.files
        ∙ append-nil (audited w past));
    sent = omega (arith, k.sent, sent, ap length (found_stays w past p did.files));
    roster = subst (RosterAt w.roster) (sym did.stage) k.roster;
  }
    where
      sent : forwards (p ∷ past) ≡ forwards past
      sent = ap (λ o. fold (λ n (q : Step × Reply). n + cond (is_some (forwarded q.0 q.1)) 1 0)
          (0 + cond (is_some o) 1 0) past) did.forwards

  -- a step that audits, finds and forwards nothing
  unaudited : audited w past ≡ audited w past ++ []
  unaudited = sym (append-nil (audited w past))

  unfound : (p : Step × Reply) → did.filed p.0 p.1 ≡ None → forwards past ≤ length (all_found w (p ∷ past))
  unfound p f = omega (arith, k.sent, ap length (found_stays w past p f))

  challenged : (e : Envelope) (r : Reply) → Exposure w ((SendChallenge e, r) ∷ past)
      → Known w ((SendChallenge e, r) ∷ past) (after_send_challenge b e r)
  challenged e Opened x = record {
    of = having_challenged w past e Opened b k.exposure k.of;
    fits = fits_with b _ _ k.fits;
    kept_differ = k.kept_differ;
    exposure = x;
    audited = k.audited ∙ unaudited;
    sent = unfound (SendChallenge e, Opened) refl;
    roster = k.roster;
  }
  challenged e r x =
      known_quiet (SendChallenge e, r) (record {
        notes = refl;
        accepts = refl;
        files = refl;
        begins = refl;
        forwards = refl;
        stage = refl;
        challenges = refl;
      }) x

  acked : (a : Ack) (r : Reply) → Exposure w ((AckIn a, r) ∷ past)
      → Known w ((AckIn a, r) ∷ past) (after_ack b a r)
  acked a Closed x = record {
    of = having_acked w past a Closed b k.exposure k.of;
    fits = fits_with b _ _ k.fits;
    kept_differ = k.kept_differ;
    exposure = x;
    audited = k.audited ∙ unaudited;
    sent = unfound (AckIn a, Closed) refl;
    roster = k.roster;
  }
  acked a r x =
      known_quiet (AckIn a, r) (record {
        notes = refl;
        accepts = refl;
        files = refl;
        begins = refl;
        forwards = refl;
        stage = refl;
        challenges = refl;
      }) x

  told : (q : Question) (r : Reply) → Exposure w ((Ask q, r) ∷ past) → Known w ((Ask q, r) ∷ past) b
  told q r x =
      known_quiet (Ask q, r) (record {
        notes = refl;
        accepts = refl;
        files = refl;
        begins = refl;
        forwards = refl;
        stage = refl;
        challenges = refl;
      }) x

  -- ---- what is forwarded

  some_left : (xs : List Authenticator) (a : Authenticator) → Forwarded a ≡ forward_reply xs → 0 < length xs
  some_left [] a h = absurd (cc)
  some_left (c ∷ xs) a h = omega arith

  forwarded_one : (r : Reply) → r ≡ forward_reply b.outbox → Exposure w ((Forward, r) ∷ past)
      → Known w ((Forward, r) ∷ past) (after_forward b r)
  forwarded_one (Forwarded a) h x = record {
    of = having_forwarded w past (Forwarded a) b k.exposure k.of;
    fits = fits_with b _ _ k.fits;
    kept_differ = k.kept_differ;
    exposure = x;
    audited = k.audited ∙ unaudited;
    sent = omega (
      arith,
      some_left (outbox w past) a (h ∙ ap forward_reply k.of.stands.outbox),
      length-drop (forwards past) (all_found w past),
      sum_by_from (λ (q : Step × Reply). cond (is_some (forwarded q.0 q.1)) 1 0) 1 past,
      ap length (found_stays w past (Forward, Forwarded a) refl),
    );
    roster = k.roster;
  }
  forwarded_one r h x =
      known_quiet (Forward, r) (record {
        notes = refl;
        accepts = refl;
        files = refl;
        begins = refl;
        forwards = refl;
        stage = refl;
        challenges = refl;
      }) x

  -- ---- audits and jobs

  asked : (r : Reply) → r ≡ reply_to_audit b b.stage → Exposure w ((Audit, r) ∷ past)
      → Known w ((Audit, r) ∷ past) (after_audit b r)
  asked (Asked first last) h x =
      let a = asks b first last k.fits h in
      record {
        of = having_asked w past (Asked first last) b k.exposure k.of;
        fits = fits_at b (Wanted first last) b.begun _ b.outbox k.fits
            (by a (subst (λ s. IsMore b.end.number (exposed b) s k.fits.tiles.more) a.none
            k.fits.tiles.rest)) tt;
        kept_differ = k.kept_differ;
        exposure = x;
        audited = k.audited ∙ unaudited;
        sent = unfound (Audit, Asked first last) refl;
        roster = tt;
      }
    where
      by : Asks b first last → (k.fits.tiles.more ≡ []) ⊎ IsFaulty b.end.number (exposed b) k.fits.tiles.more
          → (k.fits.tiles.more ≡ []) × (first ≡ b.end.number + 1) × (first ≤ last)
      by a (inl e) = (e, a.first_is, a.order)
      by a (inr f) = absurd (true≢false (sym f.exposed ∙ a.hidden))
  asked r h x =
      known_quiet (Audit, r) (record {
        notes = refl;
        accepts = refl;
        files = refl;
        begins = refl;
        forwards = refl;
        stage = refl;
        challenges = refl;
      }) x

  -- what is kept agrees with a segment that was accepted, where the node isn't exposed
  agreeing : (c : ClosedParts) → b.stage ≡ Given c → exposed b ≡ false
      → AgreesAt b.log_version (Out c) b.learned
  agreeing c is hidden a i le =
      let v = b.log_version in
      let one : IsMore b.end.number (exposed b) (Given c) k.fits.tiles.more =
      subst (λ s. IsMore b.end.number (exposed b) s k.fits.tiles.more) is k.fits.tiles.rest in
      let among : IsAmong c.segment b.segments =
      subst (IsAmong c.segment) (sym (k.fits.tiles.are ∙ ap (λ l. k.fits.tiles.audited ++ l) one.is))
      (on_right c.segment k.fits.tiles.audited (c.segment ∷ []) (inl refl)) in
      let p = mark_at c.segment (number_of v a) (k.fits.whole c.segment among)
      (omega (arith, one.follows.first, k.fits.above a i)) le in
      let its = (k.of.stands.pairs (pair_of v a)).0
      (shows b.base v b.evidence b.learned b.segments (pair_of v a) (Learned a i refl)) in
      let there = (k.of.stands.pairs (number_of v a, p.mark)).0
      (shows b.base v b.evidence b.learned b.segments (number_of v a, p.mark) (Segment c.segment among p.there)) in
      let same : p.mark ≡ a.hash =
      one_shown w past (sym (exposed_same w past b k.of k.exposure) ∙ hidden)
      (number_of v a) p.mark a.hash there its in
      subst (λ x. IsAmong (number_of v a, x) (marks_of c.segment)) same p.there

  begun_one : (r : Reply) → r ≡ reply_to_begin b b.stage → Exposure w ((Begin, r) ∷ past)
      → Known w ((Begin, r) ∷ past) (after_begin b r)
  begun_one (Job j) h x =
      let g = begins b j h in
      record {
        of = having_begun w past (Job j) b k.exposure k.of;
        fits = fits_at b (Out j.segment) (b.begun + 1) b.challenges b.outbox k.fits
            (subst (λ s. IsMore b.end.number (exposed b) s k.fits.tiles.more) g.given k.fits.tiles.rest)
            (agreeing j.segment g.given g.hidden);
        kept_differ = k.kept_differ;
        exposure = x;
        audited = k.audited ∙ unaudited;
        sent = unfound (Begin, Job j) refl;
        roster = subst (RosterAt w.roster) (sym k.of.stands.stage ∙ g.given) k.roster;
      }
  begun_one r h x =
      known_quiet (Begin, r) (record {
        notes = refl;
        accepts = refl;
        files = refl;
        begins = refl;
        forwards = refl;
        stage = refl;
        challenges = refl;
      }) x

  put_back : (j : JobParts) (r : Reply) → (r ≡ Returned → job_out b ≡ Some j)
      → Exposure w ((PutBack j, r) ∷ past) → Known w ((PutBack j, r) ∷ past) (after_put_back b j r)
  put_back j Returned h x =
      let o = out_of b j (h refl) in
      record {
        of = having_put_back w past j Returned b k.exposure k.of;
        fits = fits_at b (Given j.segment) b.begun b.challenges b.outbox k.fits
            (subst (λ s. IsMore b.end.number (exposed b) s k.fits.tiles.more) o.at k.fits.tiles.rest) tt;
        kept_differ = k.kept_differ;
        exposure = x;
        audited = k.audited ∙ unaudited;
        sent = unfound (PutBack j, Returned) refl;
        roster = subst (RosterAt w.roster) (sym k.of.stands.stage ∙ o.at) k.roster;
      }
  put_back j r h x =
      known_quiet (PutBack j, r) (record {
        notes = refl;
        accepts = refl;
        files = refl;
        begins = refl;
        forwards = refl;
        stage = refl;
        challenges = refl;
      }) x

  -- ---- what is handed in, and what is filed

  unshown : (a : Authenticator) (x v y z : Bool) → is_exposed w past ≡ x
      → is_below w.base (number_of w.member.log_version a) ≡ v
      → is_shown (pair_of w.member.log_version a) (shown w past) ≡ y
      → Noted ≡ cond x Noted (cond v (Refused BelowBase) (cond y Already (cond z (Refused LearnedFull) Noted)))
      → is_exposed w past ≡ false
      → (is_below w.base (number_of w.member.log_version a) ≡ false)
      × (is_shown (pair_of w.member.log_version a) (shown w past) ≡ false)
  unshown a true v y z is f e h hidden = absurd (true≢false (sym is ∙ hidden))
  unshown a false true y z is f e h hidden = absurd (cc)
  unshown a false false true z is f e h hidden = absurd (cc)
  unshown a false false false z is f e h hidden = (f, e)

  noted : (a : Authenticator) (r : Reply)
      → r ≡ cond (is_exposed w past) Noted
      (cond (is_below w.base (number_of w.member.log_version a)) (Refused BelowBase)
      (cond (is_shown (pair_of w.member.log_version a) (shown w past)) Already
      (cond (has_no_room w past a) (Refused LearnedFull) Noted)))
      → Exposure w ((Learn a, r) ∷ past) → Known w ((Learn a, r) ∷ past) (after_learn b a r)
  noted a Noted h x =
      noted_known w past b a k (λ hidden. (both hidden).0) (λ hidden. (both hidden).1) x
    where
      both : is_exposed w past ≡ false
          → (is_below w.base (number_of w.member.log_version a) ≡ false)
          × (is_shown (pair_of w.member.log_version a) (shown w past) ≡ false)
      both =
          unshown a (is_exposed w past) (is_below w.base (number_of w.member.log_version a))
          (is_shown (pair_of w.member.log_version a) (shown w past)) (has_no_room w past a) refl refl refl h
  noted a r h x =
      known_quiet (Learn a, r) (record {
        notes = refl;
        accepts = refl;
        files = refl;
        begins = refl;
        forwards = refl;
        stage = refl;
        challenges = refl;
      }) x

  accepted : (c : ClosedParts) (r : Reply) → r ≡ answer_reply b.stage c → IsInRoster w
      → IsCheckedStep w (Answer c) → Exposure w ((Answer c, r) ∷ past)
      → Known w ((Answer c, r) ∷ past) (after_answer b c r)
  accepted c Accepted h member given x =
      accepted_known w past b c k member given (was_wanted b.stage c h) x
  accepted c r h member given x =
      known_quiet (Answer c, r) (record {
        notes = refl;
        accepts = refl;
        files = refl;
        begins = refl;
        forwards = refl;
        stage = refl;
        challenges = refl;
      }) x

  filed : (d : DoneParts) (r : Reply) → (r ≡ Filed → job_out b ≡ Some d.job) → IsDoneStep (File d)
      → Exposure w ((File d, r) ∷ past) → Known w ((File d, r) ∷ past) (after_file b d r)
  filed d Filed h done x =
      let o = out_of b d.job (h refl) in
      let roster : d.job.segment.roster ≡ w.roster =
      subst (RosterAt w.roster) (sym k.of.stands.stage ∙ o.at) k.roster in
      let state : d.job.state ≡ (end_of w past).state =
      o.state ∙ ap (λ (e : End). e.state) k.of.stands.end in
      filed_known w past b d k o.at
      (sym (done
      ∙ ap₂ (λ (ns : List Member) (s : State). verdict_of ns s (places_in d.job.segment.segment)) roster
      state))
      x
  filed d r h done x =
      known_quiet (File d, r) (record {
        notes = refl;
        accepts = refl;
        files = refl;
        begins = refl;
        forwards = refl;
        stage = refl;
        challenges = refl;
      }) x

  -- ---- all steps

  filed_out : (d : DoneParts) (r : Reply) → BookOwes b (File d) r → r ≡ Filed → job_out b ≡ Some d.job
  filed_out d r o e =
      o.decides.0 (returned_is o.is_out (job_out b) Filed _ _ (λ h. absurd (cc)) (λ h. absurd (cc))
      (sym e ∙ o.told))

  returned_out : (j : JobParts) (r : Reply) → BookOwes b (PutBack j) r → r ≡ Returned → job_out b ≡ Some j
  returned_out j r o e =
      o.decides.0 (returned_is o.is_out (job_out b) Returned _ _ (λ h. absurd (cc)) (λ h. absurd (cc))
      (sym e ∙ o.told))

  -- What is known stays known after a step that gets the reply that is owed to it.
  pub known_on : (step : Step) (r : Reply) → IsInRoster w → Owes w past step r → IsCheckedStep w step
      → IsDoneStep step → Exposure w ((step, r) ∷ past) → Known w ((step, r) ∷ past) (book_after b step r)
  known_on step r member owed checked done x =
      by step owed ((owes_known w past b k step r).0 owed)
      checked done x
    where
      by : (step : Step) → Owes w past step r → BookOwes b step r → IsCheckedStep w step
          → IsDoneStep step
          → Exposure w ((step, r) ∷ past) → Known w ((step, r) ∷ past) (book_after b step r)
      by (Learn a) owed o checked done x = noted a r owed.told x
      by (SendChallenge e) owed o checked done x = challenged e r x
      by (Answer c) owed o checked done x = accepted c r o.told member checked x
      by (AckIn a) owed o checked done x = acked a r x
      by Audit owed o checked done x = asked r o.told x
      by Begin owed o checked done x = begun_one r o.told x
      by (File d) owed o checked done x = filed d r (filed_out d r o) done x
      by (PutBack j) owed o checked done x = put_back j r (returned_out j r o) x
      by Forward owed o checked done x = forwarded_one r o.told x
      by (Ask q) owed o checked done x = told q r x
