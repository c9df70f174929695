-- A base of a client's log is good, and the history of signed values that begins there is a history.
-- Serves: bases.
use Rattle.std.proofs.Common.{◌≡◌, ℕ, cond, List, [], ◌∷◌, ◌++◌, Ok, Err, length, refl, ap, ap₂, subst, sym}
use Rattle.std.proofs.Common.{◌∙◌, inl, inr, is_some, arith}
use Rattle.std.specs.FinMap as finite
use Rattle.std.specs.Ordering.{nat_cmp}
use Rattle.std.proofs.lemmas.Bool.{true≢false}
use Rattle.sha2.proofs.Facts256.{length-sha256}
use Rattle.authenticator.specs.Signed.{signed_digest}
use Rattle.replay_spec.specs.Opening.{opening_of}
use Rattle.replay_spec.specs.HonestLogs.{IsHonestLog}
use Rattle.replay_spec.specs.Placed.{places_in}
use Rattle.replay_spec.specs.Replay.{Sound, verdict_of}
use Rattle.replay_spec.specs.Stepping.{step}
use Rattle.secure_log.specs.LogEntries.Chain.{hash_after, zeros}
use Rattle.state_spec.specs.State.{SentMessage, received_cmp}
use Rattle.state_spec.specs.StateText.{state_digest}
use Rattle.authenticator.specs.declared.member.LogVersion.TheVariants.{One}
use Rattle.witness_spec.specs.evidence_spec.Base.{IsGoodBase}
use Rattle.witness_spec.specs.evidence_spec.Proving.{IsLogOf}
use Rattle.witness_spec.specs.evidence_spec.Showing.{Shows}
use Rattle.witness_spec.specs.Events.{Event, IsClosedUnder, IsEvent, ItsIndication}
use Rattle.witness_spec.specs.Events as events
use Rattle.witness_spec.specs.Refusals.{BadSignature}
use Rattle.witness_spec.specs.Replies.{Accepted, Asked, Filed, Job, Noted, Reply, Told, Trusted}
use Rattle.witness_spec.specs.Starting.{IsKnownBase}
use Rattle.witness_spec.specs.Steps.{Answer, Ask, Audit, Begin, File, Past, Step}
use Rattle.witness_spec.specs.Whose.{whose}
use Rattle.witness_spec.specs.Owing.{Owes}
use Rattle.witness_spec.specs.Histories.{History, IsOwed, OwesTo, own, own_step}
use Rattle.witness_spec.specs.Premises.{Unforged}
use Rattle.witness_examples.specs.Signed.Audited.{alone, client, client_key, state_read}
use Rattle.witness_examples.specs.Signed.Based.{base_parts, check_hash, checked_log, first_hash, from_base, known_base}
use Rattle.witness_examples.specs.Signed.Based.{later_hash, later_end, later_segment, later_closed, later_job}
use Rattle.witness_examples.specs.Signed.Based.{later_done, later_learned, later_asked, later_answered}
use Rattle.witness_examples.specs.Signed.Based.{later_begun, later_filed, later_events, learned_later}
use Rattle.witness_examples.specs.Signed.Based.{asked_later, answered_later, begun_later, filed_later}
use Rattle.witness_examples.specs.Signed.Based.{later_steps, shown_part, state_later, watched_later}
use Rattle.witness_examples.proofs.OfSigned.Auditing.{learned_whose, roster_is, signed_event}
use Rattle.witness_examples.proofs.OfSigned.BaseStates.{state_text}
use Rattle.witness_examples.proofs.OfSigned.Signing.{leaf_signs}

-- ---- lengths

first_length : length first_hash ≡ 32
unfolding hash_after
first_length = length-sha256 _

check_length : length check_hash ≡ 32
unfolding hash_after
check_length = length-sha256 _

later_length : length later_hash ≡ 32
unfolding hash_after
later_length = length-sha256 _

digest_length : length (state_digest state_read) ≡ 32
unfolding state_digest
digest_length = length-sha256 _

-- ---- the base

module _ (secret : List ℕ) where
  -- the authenticator of the end can be handed in
  pub learned_is : IsEvent (events.Learn (later_end secret) (client_key secret))
  learned_is = signed_event secret 0 3 later_hash (omega arith) (omega arith) later_length

  -- It shows nothing before the first entry.
  none_at_zero : (mark : List ℕ) → Shows (shown_part secret) 0 mark → mark ≡ zeros
  none_at_zero mark (inl e) = absurd (omega (arith, ap (λ (p : ℕ × List ℕ). p.0) e))
  none_at_zero mark (inr (inl e)) = absurd (omega (arith, ap (λ (p : ℕ × List ℕ). p.0) e))
  none_at_zero mark (inr (inr (inl e))) = absurd (omega (arith, ap (λ (p : ℕ × List ℕ). p.0) e))
  none_at_zero mark (inr (inr (inr none))) = absurd none

  -- The base is good.
  good : IsGoodBase (alone secret) (base_parts secret) (client secret) state_read
  good = record {
    is_member = refl;
    closed = record {
      first = omega arith;
      skips = (refl, (refl, tt));
      node = refl;
      last = refl;
      hash = refl;
      signed = leaf_signs secret 0 (signed_digest 5 3 later_hash) (omega arith);
    };
    state = record {
      zero = none_at_zero;
      check = record { skipped = 0; link = inl refl };
      text = state_text;
      node = refl;
      few_received = omega (arith, finite.len-empty received_cmp (Unit {0}));
      few_sends = omega (arith, finite.len-empty nat_cmp SentMessage);
      sends = λ w there.
          absurd (true≢false (sym there ∙ ap is_some (finite.get-empty {X = SentMessage} nat_cmp w)));
    };
    of_member = record { log_version = refl; kind = refl };
  }

  -- It has a text.
  pub known : IsKnownBase (alone secret) (client secret) (known_base secret)
  known = record {
    text = (
      omega arith,
      refl,
      (
        (
          omega arith,
          (
            omega arith,
            (
              first_length,
              (
                (
                  omega arith,
                  omega arith,
                  (((omega arith, refl), length-sha256 _), (((omega arith, refl), length-sha256 _), tt)),
                ),
                learned_is.0,
              ),
            ),
          ),
        ),
        ((omega arith, refl), (omega arith, omega arith)),
      ),
    );
    good = good;
  }

  -- ---- what may be handed in

  -- the rest of the log, closed
  pub closed_is : IsClosedUnder (later_closed secret)
  closed_is = record {
    fits = record {
      text = (
        omega arith,
        (
          (omega arith, refl),
          (
            check_length,
            (
              (omega arith, omega arith, ((omega arith, refl, (omega arith, omega arith)), tt)),
              learned_is.0,
            ),
          ),
        ),
      );
      skips = (refl, tt);
      begins = tt;
    };
    whole = refl;
    closed = record {
      version = refl;
      ends = record { first = omega arith; skips = (refl, tt); node = refl; last = refl; hash = refl };
      signed = leaf_signs secret 0 (signed_digest 5 3 later_hash) (omega arith);
    };
  }

  -- a replay of it from the base's state finds the state after the second reading
  pub replayed : Sound state_later [] ≡ verdict_of (alone secret) state_read (places_in (later_segment secret))
  unfolding step
  replayed = refl

  -- ---- whose it is

  -- the closed segment is the client's step
  pub answered_whose : whose (alone secret) (events.Answer (later_closed secret))
      ≡ Ok (record { member = client secret; step = Answer (later_closed secret) })
  answered_whose =
      ap (λ b. cond b (Ok (record { member = client secret; step = Answer (later_closed secret) }))
      (Err BadSignature)) (roster_is secret)

  -- the client's own steps after each event
  pub own_learned : own (alone secret) 5 (later_learned secret) ≡ learned_later secret
  own_learned = ap (λ w. own_step 5 w Noted ++ []) (learned_whose secret 0 3 later_hash)

  -- with the audit's question after it
  pub own_asked : own (alone secret) 5 (later_asked secret) ≡ asked_later secret
  own_asked = ap (λ (x : Past). (Audit, Asked 3 3) ∷ x) own_learned

  -- with the answer after that
  pub own_answered : own (alone secret) 5 (later_answered secret) ≡ answered_later secret
  own_answered = ap₂ (λ w (x : Past). own_step 5 w Accepted ++ x) answered_whose own_asked

  -- with the job that begins
  pub own_begun : own (alone secret) 5 (later_begun secret) ≡ begun_later secret
  own_begun = ap (λ (x : Past). (Begin, Job (later_job secret)) ∷ x) own_answered

  -- with the job's result
  pub own_filed : own (alone secret) 5 (later_filed secret) ≡ filed_later secret
  own_filed = ap (λ (x : Past). (File (later_done secret), Filed) ∷ x) own_begun

  -- the last event, which asks for the indication, is a step of the client too
  pub own_all : own (alone secret) 5 (later_events secret) ≡ later_steps secret
  own_all = ap (λ (x : Past). (Ask ItsIndication, Told Trusted) ∷ x) own_filed

  -- the log is honest
  unfoldable pub log_honest : IsHonestLog (alone secret) (opening_of (client secret)) checked_log state_later
  log_honest = record {
    states = state_read ∷ state_read ∷ state_later ∷ [];
    honest = (
      record { stands = record { turn = tt; valid = omega arith; late = refl }; after = refl },
      (
        record { stands = record { free = tt; same = refl }; after = refl },
        (record { stands = record { turn = tt; valid = omega arith; late = refl }; after = refl }, tt),
      ),
    );
    last = refl;
  }

  -- a reply that is owed after own steps is owed after the history that has them
  pub owed : (history : History) (past : Past) (e : Event) (step : Step) (reply : Reply)
      → own (alone secret) 5 history ≡ past
      → whose (alone secret) e ≡ Ok (record { member = client secret; step = step })
      → Owes (watched_later secret) past step reply → IsOwed (from_base secret) history e reply
  owed history past e step reply same its h =
      subst (OwesTo (from_base secret) history e reply) (sym its)
      (subst (λ x. Owes (watched_later secret) x step reply) (sym same) h)

  -- every signature of the base and among its steps is of the log's last place
  pub unforged : Unforged (watched_later secret) checked_log (later_steps secret)
  unforged = (
    (λ of signed. inr (inr (inr (inl refl)))),
    ((λ of signed. inr (inr (inr (inl refl)))), ((λ of signed. inr (inr (inr (inl refl)))), tt)),
  )

-- The log's entries have texts, bodies of bytes, and numbers.
pub log_fits : IsLogOf One checked_log
log_fits = record {
  each = (
    (omega arith, refl, (omega arith, omega arith)),
    ((omega arith, refl, digest_length), ((omega arith, refl, (omega arith, omega arith)), tt)),
  );
  bytes = (tt, (tt, (tt, tt)));
  numbers = ((refl, (refl, (refl, tt))), omega arith);
}
