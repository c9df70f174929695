-- A book's state knows few messages.
-- Serves: books_are_ready.
use Rattle.std.proofs.Common.{◌≡◌, ℕ, ◌+◌, ◌-◌, ◌≤◌, Bool, true, false, cond, List, [], ◌∷◌, length, count_by}
use Rattle.std.proofs.Common.{◌++◌, Option, Some, None, inl, refl, sym, ap, subst, ◌∙◌, arith, nat_cmp}
use Rattle.std.specs.FinMap as finite
use Rattle.std.proofs.lemmas.List.Sums.{sum_by-cons}
use Rattle.authenticator.specs.declared.authenticator.Authenticator.{Authenticator}
use Rattle.authenticator.specs.declared.member.Kind.{Kind}
use Rattle.authenticator.specs.declared.member.Kind.TheVariants as kinds
use Rattle.authenticator.specs.declared.member.Member.{Member}
use Rattle.secure_log.specs.Versioned.{VersionedParts}
use Rattle.secure_log.specs.LogEntries.Chain.{IsAmong, span}
use Rattle.witness_laws.specs.state_spec.State.{State, received_cmp, SentMessage}
use Rattle.replay_spec.specs.Opening.{opening_by}
use Rattle.replay_spec.specs.Placed.{Placed, places_in}
use Rattle.replay_spec.specs.Steps.{Takes}
use Rattle.replay_spec.specs.Stepping.{is_send}
use Rattle.replay_spec.specs.LogLaws.LoggedMessages.{is_recv}
use Rattle.replay_spec.specs.Replay.{Honest, last_state, Verdict, Sound, Fault, verdict_of}
use Rattle.replay_spec.proofs.Runs.{is_sound}
use Rattle.replay_spec.proofs.OfLogLaws.Counts.{counted_by}
use Rattle.witness_laws.specs.witness_spec.Refusals.{NoJob, WrongJob}
use Rattle.witness_laws.specs.witness_spec.Events.{JobParts}
use Rattle.witness_laws.specs.witness_spec.Replies.{Reply, Noted, Opened, Accepted, Closed, Asked, Job, Filed}
use Rattle.witness_laws.specs.witness_spec.Replies.{Returned, Forwarded, FileRefused}
use Rattle.witness_laws.specs.witness_spec.Starting.{KnownBase, IsBaseAt, start_number}
use Rattle.witness_laws.specs.witness_spec.Watched.{Watched, IsInRoster}
use Rattle.witness_laws.specs.witness_spec.Steps.{Step, Learn, SendChallenge, Answer, AckIn, Audit, Begin}
use Rattle.witness_laws.specs.witness_spec.Steps.{File, PutBack}
use Rattle.witness_laws.specs.witness_spec.Steps.{Forward, Ask}
use Rattle.witness_laws.specs.witness_spec.Pairs.{last_of}
use Rattle.witness_laws.specs.witness_spec.Standing.{End}
use Rattle.witness_book_laws.specs.Books.{Book, book_starting, exposed, job_out}
use Rattle.witness_book_laws.specs.Replying.{BookOwes}
use Rattle.witness_book_laws.specs.Going.{book_after, having_filed}
use Rattle.witness_book_laws.specs.Fitting.{FitsTogether, IsOne, IsMore}
use Rattle.witness_book_laws.specs.Ready.{KnowsFew, known_at_start}
use Rattle.witness_laws.proofs.OfEvidence.Before.{on_right}
use Rattle.witness_laws.proofs.OfEvidence.Marks.{few_spans}
use Rattle.witness_book_laws.proofs.Limits.{as_many_placed}
use Rattle.witness_book_laws.proofs.Steps.{IsDoneStep, IsOutOf, out_of, returned_is}

-- ---- what a replay takes in

one_at_most : (b : Bool) → cond b 1 0 ≤ 1
one_at_most true = omega arith
one_at_most false = omega arith

-- no more pass than there are
count_most : {A : Type 0} (p : A → Bool) (xs : List A) → count_by p xs ≤ length xs
count_most p [] = omega arith
count_most p (x ∷ xs) =
    let sum = sum_by-cons (λ y. cond (p y) 1 0) x xs in
    let one = one_at_most (p x) in
    let rest = count_most p xs in
    omega (arith, sum, one, rest)

-- at most so many messages of either kind are more after others
record TakesIn (s : State) (count : ℕ) (t : State) : Type 0 where
  -- messages received
  received : finite.len t.received ≤ finite.len s.received + count
  -- messages sent
  sends : finite.len t.sends ≤ finite.len s.sends + count

-- an entry brings one at most, whatever its place
takes_one : (ms : List Member) (s t : State) (p : Placed) → Takes ms s p t → TakesIn s 1 t
takes_one ms s t p takes =
    let counts = counted_by ms s t p takes in
    let received = counts.received in
    let sends = counts.sends in
    let recvs = count_most is_recv (p.entry ∷ []) in
    let sent = count_most is_send (p.entry ∷ []) in
    record { received = omega (arith, received, recvs); sends = omega (arith, sends, sent) }

-- honest entries bring one each at most
takes_each : (ms : List Member) (s : State) (ps : List Placed) (ts : List State) → Honest ms s ps ts
    → TakesIn s (length ps) (last_state s ts)
takes_each ms s [] [] h = record { received = omega arith; sends = omega arith }
takes_each ms s [] (t ∷ ts) h = absurd h
takes_each ms s (p ∷ ps) [] h = absurd h
takes_each ms s (p ∷ ps) (t ∷ ts) h =
    let one = takes_one ms s t p h.0 in
    let rest = takes_each ms t ps ts h.1 in
    record {
      received = omega (arith, one.received, rest.received);
      sends = omega (arith, one.sends, rest.sends);
    }

-- a replay that is sound takes in one for each entry at most
takes_in : (ms : List Member) (s : State) (g : VersionedParts) (t : State) (shown : List Authenticator)
    → verdict_of ms s (places_in g) ≡ Sound t shown → TakesIn s (length g.entries) t
takes_in ms s g t shown is =
    let r = is_sound ms s (places_in g) t shown is in
    let each = takes_each ms s (places_in g) r.states r.honest in
    subst (λ n. TakesIn s n t) (as_many_placed g.first g.opening g.entries)
    (subst (TakesIn s (length (places_in g))) r.last each)

-- ---- each step

module _ (b : Book) (few : KnowsFew b) where
  -- a book with the same base and end
  same_end : (c : Book) → c.end ≡ b.end → c.base ≡ b.base → KnowsFew c
  same_end c same base = record {
    received = subst (λ o. finite.len c.end.state.received ≤ known_at_start o + (c.end.number - start_number o))
        (sym base)
        (subst (λ (e : End). finite.len e.state.received
        ≤ known_at_start b.base + (e.number - start_number b.base)) (sym same) few.received);
    sends = subst (λ o. finite.len c.end.state.sends ≤ known_at_start o + (c.end.number - start_number o))
        (sym base)
        (subst (λ (e : End). finite.len e.state.sends
        ≤ known_at_start b.base + (e.number - start_number b.base)) (sym same) few.sends);
  }

  -- the end's number is greater by the numbers that the entries of the segment that was filed take up
  filed_few : (ms : List Member) (s : State) (g : VersionedParts) (v : Verdict) → s ≡ b.end.state
      → verdict_of ms s (places_in g) ≡ v → last_of g ≡ b.end.number + span g.entries
      → start_number b.base ≤ b.end.number → KnowsFew (having_filed b g v)
  filed_few ms s g (Fault fault number) state is last begun =
      same_end (having_filed b g (Fault fault number)) refl refl
  filed_few ms s g (Sound t shown) state is last begun =
      let more : TakesIn b.end.state (length g.entries) t =
      subst (λ u. TakesIn u (length g.entries) t) state (takes_in ms s g t shown is) in
      let received = more.received in
      let sends = more.sends in
      let before = few.received in
      let sent = few.sends in
      let count = few_spans g.entries in
      record {
        received = omega (arith, received, before, last, count, begun);
        sends = omega (arith, sends, sent, last, count, begun);
      }

  -- the segment that is out ends so many numbers above the end
  last_out : (j : JobParts) → FitsTogether b → IsOutOf b j
      → last_of j.segment.segment ≡ b.end.number + span j.segment.segment.entries
  last_out j fits out =
      let one : IsOne b.end.number j.segment.segment fits.tiles.more =
      subst (λ s. IsMore b.end.number (exposed b) s fits.tiles.more) out.at fits.tiles.rest in
      let among : IsAmong j.segment.segment b.segments =
      subst (IsAmong j.segment.segment)
      (sym (fits.tiles.are ∙ ap (λ l. fits.tiles.audited ++ l) one.is))
      (on_right j.segment.segment fits.tiles.audited (j.segment.segment ∷ []) (inl refl)) in
      let first = one.follows.first in
      let count = (fits.whole j.segment.segment among).count in
      omega (arith, first, count)

  -- a step that gets the reply of the book leaves it so that its state knows few messages
  pub few_on : (step : Step) (r : Reply) → FitsTogether b → BookOwes b step r → IsDoneStep step
      → KnowsFew (book_after b step r)
  few_on (Learn a) Noted fits o done = same_end (book_after b (Learn a) Noted) refl refl
  few_on (Learn a) r fits o done = few
  few_on (SendChallenge e) Opened fits o done = same_end (book_after b (SendChallenge e) Opened) refl refl
  few_on (SendChallenge e) r fits o done = few
  few_on (Answer c) Accepted fits o done = same_end (book_after b (Answer c) Accepted) refl refl
  few_on (Answer c) r fits o done = few
  few_on (AckIn a) Closed fits o done = same_end (book_after b (AckIn a) Closed) refl refl
  few_on (AckIn a) r fits o done = few
  few_on Audit (Asked first last) fits o done = same_end (book_after b Audit (Asked first last)) refl refl
  few_on Audit r fits o done = few
  few_on Begin (Job j) fits o done = same_end (book_after b Begin (Job j)) refl refl
  few_on Begin r fits o done = few
  few_on (File d) Filed fits o done =
      let there : job_out b ≡ Some d.job =
      o.decides.0 (returned_is o.is_out (job_out b) Filed (FileRefused WrongJob d) (FileRefused NoJob d)
      (λ h. absurd (cc)) (λ h. absurd (cc)) o.told) in
      let out = out_of b d.job there in
      filed_few d.job.segment.roster d.job.state d.job.segment.segment d.verdict out.state (sym done)
      (last_out d.job fits out) fits.begun
  few_on (File d) r fits o done = few
  few_on (PutBack j) Returned fits o done = same_end (book_after b (PutBack j) Returned) refl refl
  few_on (PutBack j) r fits o done = few
  few_on Forward (Forwarded a) fits o done = same_end (book_after b Forward (Forwarded a)) refl refl
  few_on Forward r fits o done = few
  few_on (Ask q) r fits o done = few

-- ---- at first

few_by : (k : Kind) (node : ℕ)
    → (finite.len (opening_by k node).received ≤ 0) × (finite.len (opening_by k node).sends ≤ 0)
few_by kinds.Server node =
    let received = finite.len-empty received_cmp (Unit {0}) in
    let sends = finite.len-empty nat_cmp SentMessage in
    (omega (arith, received), omega (arith, sends))
few_by kinds.Client node =
    let received = finite.len-empty received_cmp (Unit {0}) in
    let sends = finite.len-empty nat_cmp SentMessage in
    (omega (arith, received), omega (arith, sends))

-- at first no more than may be known there
pub few_first : (w : Watched) → IsInRoster w → KnowsFew (book_starting w.member w.base)
few_first w is = by w.base is.base
  where
    by : (base : Option KnownBase) → IsBaseAt w.roster w.member base → KnowsFew (book_starting w.member base)
    by None known =
        let few = few_by w.member.kind w.member.node in
        record { received = omega (arith, few.0); sends = omega (arith, few.1) }
    by (Some b) known = record {
      received = omega (arith, known.good.state.few_received);
      sends = omega (arith, known.good.state.few_sends);
    }
