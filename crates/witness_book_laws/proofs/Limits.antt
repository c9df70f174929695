-- A book keeps its limits.
-- Serves: limits_are_kept.
use Rattle.std.proofs.Common.{◌≡◌, inl, inr, ℕ, ◌+◌, ◌-◌, ◌<◌, ◌≤◌, Bool, true, false, cond, not, ◌==◌, ◌&&◌}
use Rattle.std.proofs.Common.{nat_le, nat_lt, List, [], ◌∷◌, ◌++◌, filter, length, length-append, length-drop}
use Rattle.std.proofs.Common.{count_by, Option, Some, None, Ok, refl, sym, ap, subst, ◌∙◌, arith, eqb-true}
use Rattle.std.specs.Prelude.{is_some}
use Rattle.std.proofs.lemmas.Bool.{and_parts, true≢false, leb-false, lt-ltb}
use Rattle.std.proofs.lemmas.List.Sums.{sum_by_from, sum_by-append}
use Rattle.authenticator.specs.declared.authenticator.Authenticator.{Authenticator}
use Rattle.authenticator.specs.declared.member.Member.{Member}
use Rattle.authenticator.specs.Signing.{is_same}
use Rattle.authenticator.proofs.Signed.{list_same}
use Rattle.secure_log.specs.LogEntries.Chain.{Logged, hash_after, logged_link, span}
use Rattle.secure_log.specs.Versioned.{VersionedParts}
use Rattle.envelopes.specs.Envelope.{envelope_message}
use Rattle.envelopes.specs.Acknowledgement.{acked_message}
use Rattle.witness_laws.specs.state_spec.State.{State}
use Rattle.replay_spec.specs.Placed.{Placed, places_from, places_in}
use Rattle.replay_spec.specs.Stepping.{shown_by}
use Rattle.replay_spec.specs.Replay.{found, with_shown, Verdict, Sound, Fault, verdict_of}
use Rattle.replay_spec.proofs.Runs.{is_sound}
use Rattle.secure_log.specs.LogEntries.Chain.{IsAmong}
use Rattle.witness_laws.specs.evidence_spec.Showing.{authenticator_showing}
use Rattle.witness_laws.specs.evidence_spec.Evidence.{EvidenceParts}
use Rattle.witness_laws.specs.witness_spec.Events.{Event, IsEvent}
use Rattle.witness_laws.specs.witness_spec.Starting.{KnownBase, Beginning, start_number, is_below}
use Rattle.witness_laws.specs.witness_spec.Watched.{Watched, IsInRoster, IsWatchedFrom}
use Rattle.witness_laws.specs.witness_spec.Whose.{whose}
use Rattle.witness_laws.specs.witness_spec.Histories.{History, IsHistory, AreOwed, own_of}
use Rattle.witness_laws.proofs.OwnSteps.{own_owed}
use Rattle.witness_laws.proofs.Checked.{AreChecked, own_checked}
use Rattle.witness_laws.specs.witness_spec.Refusals.{ChallengesFull, LearnedFull, NoJob, WrongJob, BelowBase}
use Rattle.witness_laws.specs.witness_spec.Events.{JobParts, DoneParts}
use Rattle.witness_laws.specs.witness_spec.Replies.{Reply, Noted, Already, Opened, Accepted, Closed, Asked}
use Rattle.witness_laws.specs.witness_spec.Replies.{Job, Filed}
use Rattle.witness_laws.specs.witness_spec.Replies.{Returned}
use Rattle.witness_laws.specs.witness_spec.Replies.{Forwarded, Refused, FileRefused, PutBackRefused}
use Rattle.witness_laws.specs.witness_spec.Replies.{Challenge, SendOf}
use Rattle.witness_laws.specs.witness_spec.Replies.{AuditOf}
use Rattle.witness_laws.specs.witness_spec.Steps.{Step, Learn, SendChallenge, Answer, AckIn, Audit, Begin}
use Rattle.witness_laws.specs.witness_spec.Steps.{File, PutBack}
use Rattle.witness_laws.specs.witness_spec.Steps.{Forward, Ask, Past}
use Rattle.witness_laws.specs.witness_spec.Limits.{MAX_LEARNED, MAX_CHALLENGES, MAX_AUDITED, MAX_OUTBOX}
use Rattle.witness_laws.specs.witness_spec.Pairs.{Pair, number_of, last_of, pair_of, differ, is_shown}
use Rattle.witness_laws.specs.witness_spec.Pairs.{is_fork}
use Rattle.witness_laws.specs.witness_spec.Standing.{Stage, Given, Out, Wanted, is_answered, is_send_of}
use Rattle.witness_laws.specs.witness_spec.Standing.{sound_found}
use Rattle.witness_laws.specs.witness_spec.Owing.{is_send, is_open, back_reply}
use Rattle.witness_book_laws.proofs.Known.{owes_known}
use Rattle.witness_book_laws.proofs.Histories.{AreDone, own_done, done_event, known, exposed_or_not}
use Rattle.witness_book_laws.proofs.LookUps.{one_hash}
use Rattle.witness_book_laws.proofs.AnyBook.{any_goes_on}
use Rattle.witness_book_laws.specs.Books.{Book, book_starting, exposed, book_shown, job_out}
use Rattle.witness_book_laws.specs.Replying.{has_no_room, BookOwes}
use Rattle.witness_book_laws.specs.Going.{first_evidence, fork_evidence, evidence_noted, learned_unless}
use Rattle.witness_book_laws.specs.Going.{book_after, having_filed, book_after_steps}
use Rattle.witness_book_laws.specs.Fitting.{FitsTogether, IsOne, IsMore, IsBookOf}
use Rattle.witness_book_laws.specs.LookUps.{HasOneMark}
use Rattle.witness_book_laws.specs.Keeping.{audit_last, KeepsLimits}
use Rattle.witness_book_laws.proofs.Lists.{passer}
use Rattle.witness_laws.proofs.OfEvidence.Before.{on_right}
use Rattle.witness_laws.proofs.OfEvidence.Marks.{few_spans}
use Rattle.witness_book_laws.proofs.Kept.{showing_of, add_learned}
use Rattle.witness_book_laws.proofs.Steps.{IsDoneStep, asks, begins, out_of, was_wanted, returned_is}

-- ---- counts

-- one more, or one that doesn't count
count_first : {A : Type 0} (p : A → Bool) (x : A) (xs : List A)
    → count_by p (x ∷ xs) ≡ cond (p x) 1 0 + count_by p xs
count_first p x xs = omega (arith, sum_by_from (λ y. cond (p y) 1 0) (0 + cond (p x) 1 0) xs)

-- a filter leaves no more of them
count_filter : {A : Type 0} (p test : A → Bool) (xs : List A) → count_by p (filter test xs) ≤ count_by p xs
count_filter p test [] = omega arith
count_filter {A} p test (x ∷ xs) = by (test x) (count_filter p test xs)
  where
    by : (c : Bool) → count_by p (filter test xs) ≤ count_by p xs
        → count_by p (cond c (x ∷ filter test xs) (filter test xs)) ≤ count_by p (x ∷ xs)
    by true rest = omega (arith, rest, count_first p x (filter test xs), count_first p x xs)
    by false rest = omega (arith, rest, count_first p x xs)

fewer : {A : Type 0} (test : A → Bool) (xs : List A) → length (filter test xs) ≤ length xs
fewer test [] = omega arith
fewer {A} test (x ∷ xs) = by (test x) (fewer test xs)
  where
    by : (c : Bool) → length (filter test xs) ≤ length xs
        → length (cond c (x ∷ filter test xs) (filter test xs)) ≤ length (x ∷ xs)
    by true rest = omega (arith, rest)
    by false rest = omega (arith, rest)

-- ---- what a replay finds

one_more : (o : Option Authenticator) (rest : List Authenticator)
    → length (with_shown o rest) ≤ length rest + 1
one_more None rest = omega arith
one_more (Some a) rest = omega arith

found_few : (s : State) (ps : List Placed) (ts : List State) → length (found s ps ts) ≤ length ps
found_few s [] ts = omega arith
found_few s (p ∷ ps) [] = omega arith
found_few s (p ∷ ps) (t ∷ ts) =
    omega (arith, one_more (shown_by s p.entry) (found t ps ts), found_few t ps ts)

-- entries have one place each
pub as_many_placed : (first : ℕ) (opening : List ℕ) (ls : List Logged)
    → length (places_from first opening ls) ≡ length ls
as_many_placed first opening [] = refl
as_many_placed first opening (l ∷ ls) =
    let number = first + l.skipped in
    omega (arith, as_many_placed (number + 1) (hash_after opening (logged_link number l)) ls)

-- it finds one authenticator for each entry at most
pub found_bound : (ms : List Member) (s : State) (g : VersionedParts) (v : Verdict)
    → verdict_of ms s (places_in g) ≡ v → length (sound_found v) ≤ length g.entries
found_bound ms s g (Fault fault number) is = omega arith
found_bound ms s g (Sound t shown) is =
    let r = is_sound ms s (places_in g) t shown is in
    omega (
      arith,
      found_few s (places_in g) r.states,
      ap length r.all,
      as_many_placed g.first g.opening g.entries,
    )

-- ---- each step

module _ (b : Book) (lim : KeepsLimits b) where
  -- ---- what is learned

  hidden_of : (o : Option EvidenceParts) (f : Option EvidenceParts) → first_evidence o f ≡ None → o ≡ None
  hidden_of None f h = refl
  hidden_of (Some e) f h = absurd (cc)

  room_of : (x v y z : Bool) → x ≡ false
      → Noted ≡ cond x Noted (cond v (Refused BelowBase) (cond y Already (cond z (Refused LearnedFull) Noted)))
      → z ≡ false
  room_of true v y z e h = absurd (true≢false e)
  room_of false true y z e h = absurd (cc)
  room_of false false true z e h = absurd (cc)
  room_of false false false true e h = absurd (cc)
  room_of false false false false e h = refl

  few_of : (x y z : Bool) → x ≡ false → y ≡ true → (not x && (y && z)) ≡ false → z ≡ false
  few_of true y z e f h = absurd (true≢false e)
  few_of false false z e f h = absurd (true≢false (sym f))
  few_of false true z e f h = h

  module _ (a : Authenticator) (fits : FitsTogether (book_after b (Learn a) Noted))
      (one : HasOneMark (book_after b (Learn a) Noted))
      (told : Noted ≡ cond (exposed b) Noted (cond (is_below b.base (number_of b.log_version a))
      (Refused BelowBase) (cond (is_shown (pair_of b.log_version a) (book_shown b)) Already
      (cond (has_no_room b a) (Refused LearnedFull) Noted)))) where
    abbrev now : Option EvidenceParts
    now = evidence_noted b a

    -- its number, and its pair
    abbrev number : ℕ
    number = number_of b.log_version a

    abbrev pair : Pair
    pair = pair_of b.log_version a

    -- the fork that it makes
    abbrev its_fork : Option EvidenceParts
    its_fork = fork_evidence b (authenticator_showing b.log_version a) (pair ∷ [])

    no_fork : now ≡ None → is_fork pair (book_shown b) ≡ false
    no_fork none = by (is_fork pair (book_shown b)) refl
      where
        was : b.evidence ≡ None
        was = hidden_of b.evidence its_fork none

        there : (q : Pair) → IsAmong q (pair ∷ book_shown b)
            → IsAmong q (book_shown (book_after b (Learn a) Noted))
        there q i =
            subst (λ e. IsAmong q (showing_of b.base b.log_version e (learned_unless e b.learned a) b.segments))
            (sym none)
            (subst (λ e. IsAmong q (showing_of b.base b.log_version e (b.learned ++ a ∷ []) b.segments)) was
            ((add_learned b.base b.log_version b.evidence b.learned b.segments a q).1 i))

        by : (x : Bool) → is_fork pair (book_shown b) ≡ x → x ≡ false
        by false e = refl
        by true e =
            let r = passer (λ q. differ pair q) (book_shown b) e in
            let both = and_parts (number == r.one.0) (not (is_same a.hash r.one.1)) r.passes in
            let same : a.hash ≡ r.one.1 =
            one (ap (λ o. is_some o) none) number a.hash r.one.1 (there pair (inl refl))
            (subst (λ n. IsAmong (n, r.one.1) (book_shown (book_after b (Learn a) Noted)))
            (sym (eqb-true number r.one.0 both.0)) (there r.one (inr r.among))) in
            absurd (true≢false (sym both.1 ∙ ap not (list_same a.hash r.one.1 same)))

    learned_few : (o : Option EvidenceParts) → now ≡ o → length (learned_unless now b.learned a) ≤ MAX_LEARNED
    learned_few (Some e) is =
        omega (arith, lim.learned, ap (λ o. length (learned_unless o b.learned a)) is)
    learned_few None is =
        let was : b.evidence ≡ None =
        hidden_of b.evidence its_fork is in
        let room = room_of (exposed b) (is_below b.base number) (is_shown pair (book_shown b))
        (has_no_room b a) (ap (λ o. is_some o) was) told in
        let above = fits.above a (subst (λ o. IsAmong a (learned_unless o b.learned a)) (sym is)
        (on_right a b.learned (a ∷ []) (inl refl))) in
        let few = few_of (is_fork pair (book_shown b)) (nat_lt b.end.number number)
        (nat_le MAX_LEARNED (length b.learned)) (no_fork is) (lt-ltb b.end.number number above) room in
        omega (
          arith,
          ap (λ o. length (learned_unless o b.learned a)) is,
          length-append b.learned (a ∷ []),
          leb-false MAX_LEARNED (length b.learned) few,
        )

    noted_limits : KeepsLimits (book_after b (Learn a) Noted)
    noted_limits = record {
      learned = learned_few now refl;
      challenges = lim.challenges;
      end = lim.end;
      last = lim.last;
      outbox = lim.outbox;
    }

  -- ---- challenges

  sends_few : (x y : Bool) → nat_le MAX_CHALLENGES (count_by is_send b.challenges) ≡ y
      → Opened ≡ cond x Already (cond y (Refused ChallengesFull) Opened)
      → count_by is_send b.challenges < MAX_CHALLENGES
  sends_few true y e h = absurd (cc)
  sends_few false true e h = absurd (cc)
  sends_few false false e h =
      omega (arith, leb-false MAX_CHALLENGES (count_by is_send b.challenges) e)

  -- ---- the audit

  at_stage : (s t : Stage) → b.stage ≡ s → audit_last b.end.number s ≡ audit_last b.end.number t
      → (audit_last b.end.number t ≤ start_number b.base + MAX_AUDITED)
      × (length b.outbox + (audit_last b.end.number t - b.end.number) ≤ MAX_OUTBOX)
  at_stage s t is same =
      let e : audit_last b.end.number b.stage ≡ audit_last b.end.number t =
      ap (audit_last b.end.number) is ∙ same in (
        subst (λ n. n ≤ start_number b.base + MAX_AUDITED) e lim.last,
        subst (λ n. length b.outbox + (n - b.end.number) ≤ MAX_OUTBOX) e lim.outbox,
      )

  -- what is filed leaves room
  filed_limits : (s : VersionedParts) (v : Verdict)
      → (length b.outbox + (last_of s - b.end.number) ≤ MAX_OUTBOX)
      → last_of s ≤ start_number b.base + MAX_AUDITED → s.first ≡ b.end.number + 1
      → last_of s + 1 ≡ s.first + span s.entries → length (sound_found v) ≤ length s.entries
      → KeepsLimits (having_filed b s v)
  filed_limits s v room last first count few = by v few
    where
      by : (v : Verdict) → length (sound_found v) ≤ length s.entries → KeepsLimits (having_filed b s v)
      by (Sound t shown) few = record {
        learned = omega (
          arith,
          lim.learned,
          fewer (λ a. nat_lt (last_of s) (number_of b.log_version a)) b.learned,
        );
        challenges = lim.challenges;
        end = last;
        last = last;
        outbox = omega (arith, room, first, count, few, few_spans s.entries, length-append b.outbox shown);
      }
      by (Fault fault number) few = record {
        learned = lim.learned;
        challenges = lim.challenges;
        end = lim.end;
        last = lim.end;
        outbox = omega (arith, room, length-append b.outbox []);
      }

  -- ---- all steps

  -- a job that comes back with a step
  job_out_of : (j : JobParts) (step : Step) (good wrong none r : Reply) (o : BookOwes b step r)
      → (good ≡ wrong → ⊥) → (good ≡ none → ⊥)
      → r ≡ back_reply o.is_out (job_out b) good wrong none → r ≡ good
      → (o.is_out ≡ true → job_out b ≡ Some j) → job_out b ≡ Some j
  job_out_of j step good wrong none r o f g told is out =
      out (returned_is o.is_out (job_out b) good wrong none f g (sym is ∙ told))

  -- a step that gets the reply of the book keeps the limits
  pub limits_on : (step : Step) (r : Reply) → FitsTogether b → BookOwes b step r
      → ((d : DoneParts) → step ≡ File d → b.stage ≡ Out d.job.segment
      → length (sound_found d.verdict) ≤ length d.job.segment.segment.entries)
      → FitsTogether (book_after b step r) → HasOneMark (book_after b step r)
      → KeepsLimits (book_after b step r)
  limits_on (Learn a) Noted fits o few next one = noted_limits a next one o.told
  limits_on (Learn a) r fits o few next one = lim
  limits_on (SendChallenge e) Opened fits o few next one =
      let less = sends_few (is_open (envelope_message e) b.challenges)
      (nat_le MAX_CHALLENGES (count_by is_send b.challenges)) refl o.told in
      record {
        learned = lim.learned;
        challenges = omega (
          arith,
          less,
          sum_by-append (λ (x : Challenge). cond (is_send x) 1 0) b.challenges (SendOf e ∷ []),
        );
        end = lim.end;
        last = lim.last;
        outbox = lim.outbox;
      }
  limits_on (SendChallenge e) r fits o few next one = lim
  limits_on (Answer c) Accepted fits o few next one =
      let w = was_wanted b.stage c o.told in
      let at = at_stage (Wanted c.segment.first (last_of c.segment)) (Given c) w refl in
      record {
        learned = lim.learned;
        challenges = omega (
          arith,
          lim.challenges,
          count_filter is_send (λ x. not (is_answered c.segment x)) b.challenges,
        );
        end = lim.end;
        last = at.0;
        outbox = at.1;
      }
  limits_on (Answer c) r fits o few next one = lim
  limits_on (AckIn a) Closed fits o few next one = record {
    learned = lim.learned;
    challenges = omega (
      arith,
      lim.challenges,
      count_filter is_send (λ x. not (is_send_of (acked_message a) x)) b.challenges,
    );
    end = lim.end;
    last = lim.last;
    outbox = lim.outbox;
  }
  limits_on (AckIn a) r fits o few next one = lim
  limits_on Audit (Asked first last) fits o few next one =
      let a = asks b first last fits o.told in
      record {
        learned = lim.learned;
        challenges = omega (
          arith,
          lim.challenges,
          sum_by-append (λ (x : Challenge). cond (is_send x) 1 0) b.challenges (AuditOf first last ∷ []),
        );
        end = lim.end;
        last = a.few;
        outbox = a.room;
      }
  limits_on Audit r fits o few next one = lim
  limits_on Begin (Job j) fits o few next one =
      let at = at_stage (Given j.segment) (Out j.segment) (begins b j o.told).given refl in
      record {
        learned = lim.learned;
        challenges = lim.challenges;
        end = lim.end;
        last = at.0;
        outbox = at.1;
      }
  limits_on Begin r fits o few next one = lim
  limits_on (File d) Filed fits o few next one =
      let out = out_of b d.job (job_out_of d.job (File d) Filed (FileRefused WrongJob d) (FileRefused NoJob d)
      Filed o (λ h. absurd (cc)) (λ h. absurd (cc)) o.told refl o.decides.0) in
      let at = at_stage (Out d.job.segment) (Out d.job.segment) out.at refl in
      let is_one : IsOne b.end.number d.job.segment.segment fits.tiles.more =
      subst (λ s. IsMore b.end.number (exposed b) s fits.tiles.more) out.at fits.tiles.rest in
      let among : IsAmong d.job.segment.segment b.segments =
      subst (IsAmong d.job.segment.segment)
      (sym (fits.tiles.are ∙ ap (λ l. fits.tiles.audited ++ l) is_one.is))
      (on_right d.job.segment.segment fits.tiles.audited (d.job.segment.segment ∷ []) (inl refl)) in
      filed_limits d.job.segment.segment d.verdict at.1 at.0 is_one.follows.first
      (fits.whole d.job.segment.segment among).count (few d refl out.at)
  limits_on (File d) r fits o few next one = lim
  limits_on (PutBack j) Returned fits o few next one =
      let out = out_of b j (job_out_of j (PutBack j) Returned (PutBackRefused WrongJob j)
      (PutBackRefused NoJob j) Returned o (λ h. absurd (cc)) (λ h. absurd (cc)) o.told refl o.decides.0) in
      let at = at_stage (Out j.segment) (Given j.segment) out.at refl in
      record {
        learned = lim.learned;
        challenges = lim.challenges;
        end = lim.end;
        last = at.0;
        outbox = at.1;
      }
  limits_on (PutBack j) r fits o few next one = lim
  limits_on Forward (Forwarded a) fits o few next one = record {
    learned = lim.learned;
    challenges = lim.challenges;
    end = lim.end;
    last = lim.last;
    outbox = omega (arith, lim.outbox, length-drop 1 b.outbox);
  }
  limits_on Forward r fits o few next one = lim
  limits_on (Ask q) r fits o few next one = lim

-- ---- over own steps

-- what a done value found is bounded by its entries
pub few_found : (step : Step) → IsDoneStep step → (d : DoneParts) → step ≡ File d
    → length (sound_found d.verdict) ≤ length d.job.segment.segment.entries
few_found step done d is =
    found_bound d.job.segment.roster d.job.state d.job.segment.segment d.verdict
    (sym (subst IsDoneStep is done))

-- at first it keeps them
pub first_limits : (m : Member) (base : Option KnownBase) → KeepsLimits (book_starting m base)
first_limits m base = record {
  learned = omega arith;
  challenges = omega arith;
  end = omega arith;
  last = omega arith;
  outbox = omega arith;
}

known_limits : (w : Watched) (past : Past) → IsInRoster w
    → AreOwed w past → AreChecked w past → AreDone past → KeepsLimits (book_after_steps w past)
known_limits w [] is owed checked done = first_limits w.member w.base
known_limits w (p ∷ past) is owed checked done =
    let k = known w past is owed.1 checked.1 done.1 in
    let n = known w (p ∷ past) is owed checked done in
    limits_on (book_after_steps w past) (known_limits w past is owed.1 checked.1 done.1) p.0 p.1 k.fits
    ((owes_known w past (book_after_steps w past) k p.0 p.1).0 owed.0)
    (λ d same at. few_found p.0 done.0 d same) n.fits
    (one_hash w (p ∷ past) (book_after_steps w (p ∷ past)) n.of n.exposure)

-- a member's book after its own steps of a history keeps its limits
pub own_limits : (g : Beginning) (w : Watched) (history : History) → IsInRoster w → IsWatchedFrom g w
    → IsHistory g history → KeepsLimits (book_after_steps w (own_of w history))
own_limits g w history is from h =
    known_limits w (own_of w history) is (own_owed g w is from history h) (own_checked g w is from history h)
    (own_done g w from history h)

-- so does any book that fits together and keeps them, with each further step
pub any_limits : (g : Beginning) (w : Watched) (history : History) (b : Book) (event : Event) (step : Step)
    (reply : Reply) → IsInRoster w → IsWatchedFrom g w → IsHistory g history → FitsTogether b
    → IsBookOf w (own_of w history) b → KeepsLimits b → IsEvent event
    → whose w.roster event ≡ Ok (record { member = w.member; step = step }) → BookOwes b step reply
    → KeepsLimits (book_after b step reply)
any_limits g w history b event step reply is from h fits of lim e its owes =
    let goes = any_goes_on g w history b is from h fits of event step reply e its owes in
    limits_on b lim step reply fits owes
    (λ d same at. few_found step
    (done_event (record { member = w.member; step = step }) w.roster event its e) d same) goes.fits
    (one_hash w (own_of w ((event, reply) ∷ history)) (book_after b step reply) goes.of
    (exposed_or_not g w ((event, reply) ∷ history) is from goes.is))
