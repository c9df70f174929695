-- A history of signed values in which a segment with a fault is filed.
-- Serves: faults.
use Rattle.std.proofs.Common.{◌≡◌, inl, inr, ℕ, true, true≢false, cond, List, [], ◌∷◌, ◌++◌, Ok, Err}
use Rattle.std.proofs.Common.{length, refl, ap, ap₂, subst, arith}
use Rattle.std.proofs.lemmas.Bool.{or_right}
use Rattle.sha2.proofs.Facts256.{length-sha256}
use Rattle.authenticator.specs.Signed.{signed_digest}
use Rattle.secure_log.specs.LogEntries.Chain.{hash_after, zeros}
use Rattle.state_spec.specs.State.{State, opening_client}
use Rattle.replay_spec.specs.Placed.{places_in}
use Rattle.replay_spec.specs.Steps.{MayShowTime}
use Rattle.replay_spec.specs.Stepping.{ClockBack, step}
use Rattle.replay_spec.specs.Replay.{Fault, Honest, verdict_of}
use Rattle.witness_spec.specs.Refusals.{BadSignature}
use Rattle.witness_spec.specs.Events.{IsEvent, IsClosedUnder}
use Rattle.witness_spec.specs.Events as events
use Rattle.witness_spec.specs.Events.{ItsIndication}
use Rattle.witness_spec.specs.Replies.{Noted, Asked, Accepted, Job, Filed, Told, Exposed, Trusted}
use Rattle.witness_spec.specs.Steps.{Audit, Answer, Begin, File, Ask, Past}
use Rattle.witness_spec.specs.Whose.{whose}
use Rattle.witness_spec.specs.Pairs.{has_fork}
use Rattle.witness_spec.specs.Standing.{indication, shown}
use Rattle.witness_spec.specs.Histories.{own, own_step}
use Rattle.witness_spec.specs.Laws.{HasFaultyFile}
use Rattle.witness_examples.specs.Reaching.{watched_in}
use Rattle.witness_examples.specs.Signed.Audited.{client, client_key, alone}
use Rattle.witness_examples.specs.Signed.Faulty.{back_hash, back_end, back_segment, back_closed, back_job}
use Rattle.witness_examples.specs.Signed.Faulty.{back_done, back_learned, back_asked, back_answered}
use Rattle.witness_examples.specs.Signed.Faulty.{back_begun}
use Rattle.witness_examples.specs.Signed.Faulty.{back_filed, back_events, back_steps, learned_back}
use Rattle.witness_examples.specs.Signed.Faulty.{asked_back}
use Rattle.witness_examples.specs.Signed.Faulty.{answered_back, begun_back, filed_back}
use Rattle.witness_examples.proofs.OfSigned.Signing.{leaf_signs}
use Rattle.witness_examples.proofs.OfSigned.Auditing.{learned_whose, roster_is, signed_event}

module _ (secret : List ℕ) where
  -- ---- what is signed

  back_length : length back_hash ≡ 32
  unfolding hash_after
  back_length = length-sha256 _

  -- the signed authenticator can be handed in
  pub back_is : IsEvent (events.Learn (back_end secret) (client_key secret))
  back_is = signed_event secret 0 2 back_hash (omega arith) (omega arith) back_length

  zeros_length : length zeros ≡ 32
  unfolding zeros
  zeros_length = refl

  -- its log, closed by that, may be handed in
  pub back_closed_is : IsClosedUnder (back_closed secret)
  back_closed_is = record {
    fits = record {
      text = (
        omega arith,
        (
          (omega arith, refl),
          (
            zeros_length,
            (
              (
                omega arith,
                omega arith,
                (
                  (omega arith, refl, (omega arith, omega arith)),
                  ((omega arith, refl, (omega arith, omega arith)), tt),
                ),
              ),
              back_is.0,
            ),
          ),
        ),
      );
      skips = (refl, (refl, tt));
      begins = tt;
    };
    whole = refl;
    closed = record {
      version = refl;
      ends = record {
        first = omega arith;
        skips = (refl, (refl, tt));
        node = refl;
        last = refl;
        hash = refl;
      };
      signed = leaf_signs secret 0 (signed_digest 5 2 back_hash) (omega arith);
    };
  }

  -- a replay of it finds that the clock goes back
  pub back_replayed : Fault ClockBack 2
      ≡ verdict_of (alone secret) (opening_client 5) (places_in (back_segment secret))
  unfolding step
  back_replayed = refl

  -- no list of states makes it honest
  pub none_honest : (states : List State)
      → Honest (alone secret) (opening_client 5) (places_in (back_segment secret)) states → ⊥
  none_honest [] h = h
  none_honest (t ∷ []) h = h.1
  none_honest (t ∷ u ∷ us) h =
      let stands = subst (λ (s : State). MayShowTime s.machine (record { seconds = 0; microseconds = 0 }))
      h.0.after h.1.0.stands in
      absurd (true≢false stands.late)

  -- ---- whose it is

  -- the closed segment is the client's step
  pub back_whose : whose (alone secret) (events.Answer (back_closed secret))
      ≡ Ok (record { member = client secret; step = Answer (back_closed secret) })
  back_whose =
      ap (λ b. cond b (Ok (record { member = client secret; step = Answer (back_closed secret) }))
      (Err BadSignature)) (roster_is secret)

  -- ---- the history

  -- the client's own steps after each event
  pub own_learned_back : own (alone secret) 5 (back_learned secret) ≡ learned_back secret
  own_learned_back = ap (λ w. own_step 5 w Noted ++ []) (learned_whose secret 0 2 back_hash)

  -- with the audit's question after it
  pub own_asked_back : own (alone secret) 5 (back_asked secret) ≡ asked_back secret
  own_asked_back = ap (λ (x : Past). (Audit, Asked 1 2) ∷ x) own_learned_back

  -- with the answer after that
  pub own_answered_back : own (alone secret) 5 (back_answered secret) ≡ answered_back secret
  own_answered_back = ap₂ (λ w (x : Past). own_step 5 w Accepted ++ x) back_whose own_asked_back

  -- with the job that begins
  pub own_begun_back : own (alone secret) 5 (back_begun secret) ≡ begun_back secret
  own_begun_back = ap (λ (x : Past). (Begin, Job (back_job secret)) ∷ x) own_answered_back

  -- with the job's result
  pub own_filed_back : own (alone secret) 5 (back_filed secret) ≡ filed_back secret
  own_filed_back = ap (λ (x : Past). (File (back_done secret), Filed) ∷ x) own_begun_back

  -- the last event, which asks for the indication, is a step of the client too
  pub own_all_back : own (alone secret) 5 (back_events secret) ≡ back_steps secret
  own_all_back = ap (λ (x : Past). (Ask ItsIndication, Told Exposed) ∷ x) own_filed_back

  -- the File is of a segment that no list of states makes honest
  pub is_faulty : HasFaultyFile (watched_in (alone secret) (client secret)) (back_steps secret)
  is_faulty = inr (inl (record { job = back_job secret; filed = refl; none = none_honest }))

  -- so it is Exposed
  pub is_exposed : indication (watched_in (alone secret) (client secret)) (back_steps secret) ≡ Exposed
  unfolding step
  is_exposed =
      ap (λ b. cond b Exposed Trusted)
      (or_right (has_fork (shown (watched_in (alone secret) (client secret)) (back_steps secret))) true refl)
