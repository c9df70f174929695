-- A history of a server that answered is a history, and its log is honest.
-- Serves: answers.
use Rattle.std.proofs.Common.{◌≡◌, inl, inr, ℕ, zero, suc, ◌<◌, ◌≤◌, true, cond, ◌==◌, ◌&&◌, List}
use Rattle.std.proofs.Common.{[], ◌∷◌, ◌++◌, Some, Ok, Err, length, get_or, replicate}
use Rattle.std.proofs.Common.{refl, ap, ap₂, subst, ltb, arith}
use Rattle.std.specs.Prelude.{is_some}
use Rattle.std.specs.FinMap as finite
use Rattle.std.specs.List.{list_all}
use Rattle.std.proofs.lemmas.Bool.{and_from, and_parts, ltb-true}
use Rattle.std.proofs.lemmas.List.{length-replicate}
use Rattle.sha2.proofs.Facts256.{length-sha256}
use Rattle.lamport.specs.declared.key.TheConstants.{TEXT_SIZE}
use Rattle.xdr.specs.Item.{Fits, IsBytes, number_spelling}
use Rattle.xdr.specs.Reading.{number_at, fixed_at, opaque_at, tested_at}
use Rattle.merkle_keys.specs.Signing.{signature_item, signature_value}
use Rattle.merkle_keys.specs.Tree.{root, path_end, parent_hash, inner_hash}
use Rattle.merkle_keys.proofs.SignatureTexts.{parts_fit}
use Rattle.authenticator.specs.declared.member.LogVersion.TheVariants.{One}
use Rattle.authenticator.specs.Signing.{is_same}
use Rattle.authenticator.specs.Signed.{IsSignedBy, signed_digest}
use Rattle.authenticator.proofs.Signed.{list_same}
use Rattle.secure_log.specs.LogEntries.Chain.{zeros, hash_after, without_gaps, logged_link}
use Rattle.secure_log.specs.declared.log_entries.entry.Entry.TheVariants.{Recv, Clock}
use Rattle.secure_log.specs.Versioned.{segment_marks}
use Rattle.state_spec.specs.server_spec.Replies.{reply_owed}
use Rattle.state_spec.specs.State.{State, received_cmp, opening_server}
use Rattle.replay_spec.specs.Opening.{opening_of}
use Rattle.replay_spec.specs.Placed.{Placed, logged_places}
use Rattle.replay_spec.specs.Steps.{received_message}
use Rattle.replay_spec.specs.Placed.{places_in}
use Rattle.replay_spec.specs.Replay.{Honest, found, Sound, verdict_of}
use Rattle.replay_spec.specs.HonestLogs.{IsHonestLog}
use Rattle.replay_spec.specs.Laws.{SoundExactlyIf}
use Rattle.replay_spec.specs.LogLaws.Laws.{HonestServersStay}
use Rattle.replay_spec.specs.LogLaws.HonestServers.{MayHear, heard_entries, next_logged}
use Rattle.witness_spec.specs.evidence_spec.Proving.{IsLogOf}
use Rattle.witness_spec.specs.Refusals.{BadSignature}
use Rattle.witness_spec.specs.Events.{IsEvent, IsClosedUnder, ItsIndication}
use Rattle.witness_spec.specs.Events as events
use Rattle.witness_spec.specs.Replies.{Noted, Asked, Accepted, Job, Filed, Forwarded, Told, Trusted, Exposed}
use Rattle.witness_spec.specs.Watched.{Watched}
use Rattle.witness_spec.specs.Steps.{Learn, Audit, Answer, Begin, File, Forward, Ask, Past}
use Rattle.witness_spec.specs.Whose.{is_key_of, same_roster, whose}
use Rattle.witness_spec.specs.Standing.{open_challenges, without_evidence}
use Rattle.witness_spec.specs.Owing.{Owes}
use Rattle.witness_spec.specs.Histories.{own, own_step}
use Rattle.witness_spec.specs.Premises.{Unforged}
use Rattle.witness_examples.specs.Reaching.{watched_in}
use Rattle.witness_examples.specs.Signed.Served.{call, reply, call_time, world_before, zero_text}
use Rattle.witness_examples.specs.Signed.Served.{call_signature, caller_root, caller, caller_shown, server}
use Rattle.witness_examples.specs.Signed.Served.{server_key, server_and_caller, served, served_hash}
use Rattle.witness_examples.specs.Signed.Served.{state_after}
use Rattle.witness_examples.specs.Signed.Served.{served_end, served_segment, served_closed, served_job}
use Rattle.witness_examples.specs.Signed.Served.{served_done, served_learned, served_asked, served_answered}
use Rattle.witness_examples.specs.Signed.Served.{served_begun, served_filed, served_events, learned_served}
use Rattle.witness_examples.specs.Signed.Served.{asked_served, answered_served, begun_served, filed_served}
use Rattle.witness_examples.specs.Signed.Served.{served_steps}
use Rattle.witness_examples.proofs.Telling.{told}
use Rattle.witness_examples.proofs.OfLimits.Audits.{OnLog, Quiet, hidden, goes_on, then_forward}
use Rattle.witness_examples.proofs.OfSigned.Signing.{leaf_signs}
use Rattle.witness_examples.proofs.OfSigned.Auditing.{signed_event}

-- ---- the call and its reply

-- the reply owed to the call
pub reply_is : reply_owed world_before call_time call ≡ Some reply
unfolding reply_owed number_at fixed_at opaque_at tested_at number_spelling
reply_is = refl

call_length : length call ≡ 40
call_length = refl

reply_length : length reply ≡ 24
reply_length = refl

-- ---- what the client signed

-- the client signed the call
pub caller_signs : IsSignedBy caller caller_shown
caller_signs = record { low = omega arith; leaf = omega arith; levels = refl; leads = refl }

-- its root has 32 bytes
pub caller_root_length : length caller_root ≡ 32
unfolding path_end parent_hash inner_hash
caller_root_length = length-sha256 _

zeros_length : length zeros ≡ 32
unfolding zeros
zeros_length = refl

text_length : length zero_text ≡ TEXT_SIZE
unfolding zero_text
text_length = length-replicate {A = ℕ} TEXT_SIZE 0

-- its path, a hash of zeros
abbrev path : List (List ℕ)
path = replicate 32 0 ∷ []

signature_fits : Fits signature_item (signature_value call_signature)
signature_fits =
    parts_fit 0 zero_text zero_text path (omega arith) text_length text_length (omega arith) each
  where
    each : (i : ℕ) → i < length path → length (get_or path i []) ≡ 32
    each zero h = refl
    each (suc i) h = absurd (omega (arith, h))

-- ---- the log has texts

-- numbers that are each tested to be a byte
are_bytes : (xs : List ℕ) → list_all (λ x. ltb x 256) xs ≡ true → IsBytes xs
are_bytes [] h i = omega arith
are_bytes (x ∷ xs) h zero = ltb-true x 256 (and_parts _ _ h).0
are_bytes (x ∷ xs) h (suc i) = are_bytes xs (and_parts _ _ h).1 i

-- it is a log of version 1: each entry has a text, and no number is skipped
pub served_log : IsLogOf One (without_gaps served)
served_log = record {
  each = (
    (
      omega arith,
      refl,
      (
        omega arith,
        (
          (omega arith, refl),
          (zeros_length, ((omega (arith, call_length), omega (arith, call_length)), signature_fits)),
        ),
      ),
    ),
    (
      (omega arith, refl, (omega arith, omega arith)),
      (
        (omega arith, refl, (omega arith, (omega (arith, reply_length), omega (arith, reply_length)))),
        tt,
      ),
    ),
  );
  bytes = (are_bytes call refl, (tt, (are_bytes reply refl, tt)));
  numbers = ((refl, (refl, (refl, tt))), omega arith);
}

-- ---- its hashes

-- the hash after the call
abbrev heard_hash : List ℕ
heard_hash = hash_after zeros (logged_link 1 (next_logged (Recv 6 1 zeros call call_signature)))

-- the hash at each number
abbrev pub hash_at : ℕ → List ℕ
hash_at n =
    cond (n == 0) zeros
    (cond (n == 1) heard_hash
    (cond (n == 2) (hash_after heard_hash (logged_link 2 (next_logged (Clock 1 0)))) served_hash))

module _ (secret : List ℕ) where
  abbrev pub roster : Watched
  roster = watched_in (server_and_caller secret) (server secret)

  -- ---- the log is honest

  may_hear : MayHear (server_and_caller secret) (opening_server 5) world_before 6 1 zeros call call_signature
      call_time
  may_hear = record {
    idle = refl;
    other = λ e. absurd (omega (arith, e));
    signed = caller_signs;
    fresh = ap is_some (finite.get-empty received_cmp (received_message 5 6 1 zeros call));
    valid = omega arith;
    late = refl;
  }

  -- from the state that a server begins with
  pub served_honest : HonestServersStay
      → IsHonestLog (server_and_caller secret) (opening_of (server secret)) (without_gaps served) state_after
  served_honest stays =
      subst (λ o. IsHonestLog (server_and_caller secret) (opening_server 5)
      (heard_entries 0 6 1 zeros call call_signature call_time o) state_after) reply_is
      (stays (server_and_caller secret) (opening_server 5) (opening_server 5) [] world_before 6 1 zeros call
      call_signature call_time 0 (record { states = []; honest = tt; last = refl }) may_hear)

  -- its entries' places
  abbrev places : List Placed
  places = logged_places 0 zeros (without_gaps served)

  shows : (ts : List State) → Honest (server_and_caller secret) (opening_server 5) places ts
      → found (opening_server 5) places ts ≡ caller_shown ∷ []
  shows [] h = absurd h
  shows (t ∷ []) h = absurd h.1
  shows (t ∷ u ∷ []) h = absurd h.1.1
  shows (t ∷ u ∷ v ∷ ts) h = refl

  -- a replay of it finds the state after the reply, and the client's authenticator
  pub served_sound : SoundExactlyIf → HonestServersStay
      → verdict_of (server_and_caller secret) (opening_server 5) (places_in (served_segment secret))
      ≡ Sound state_after (caller_shown ∷ [])
  served_sound sound stays =
      let h = served_honest stays in
      (sound (server_and_caller secret) (opening_server 5) state_after places
      (caller_shown ∷ [])).1 (h.states, h.honest, h.last, shows h.states h.honest)

  -- ---- what may be handed in

  hash_length : length served_hash ≡ 32
  unfolding hash_after
  hash_length = length-sha256 _

  -- the signed authenticator
  pub learned_is : IsEvent (events.Learn (served_end secret) (server_key secret))
  learned_is = signed_event secret 0 3 served_hash (omega arith) (omega arith) hash_length

  -- the log, closed by that
  pub closed_is : IsClosedUnder (served_closed secret)
  closed_is = record {
    fits = record {
      text = (
        omega arith,
        (
          (omega arith, refl),
          (
            zeros_length,
            (
              (omega arith, omega arith, served_log.each),
              learned_is.0,
            ),
          ),
        ),
      );
      skips = (refl, (refl, (refl, tt)));
      begins = tt;
    };
    whole = refl;
    closed = record {
      version = refl;
      ends = record {
        first = omega arith;
        skips = (refl, (refl, (refl, tt)));
        node = refl;
        last = refl;
        hash = refl;
      };
      signed = leaf_signs secret 0 (signed_digest 5 3 served_hash) (omega arith);
    };
  }

  -- ---- the steps

  opened : Quiet roster [] (λ n. zeros) 0 0 (opening_server 5) []
  opened = record {
    owed = tt;
    at_end = refl;
    sound = refl;
    on_log = (omega arith, refl, tt);
    low = tt;
    free = refl;
    count = refl;
    rest = λ later. refl;
  }

  opening_same : (n : ℕ) → n ≤ 0 → hash_at n ≡ zeros
  opening_same zero low = refl
  opening_same (suc n) low = absurd (omega (arith, low))

  on_log : OnLog hash_at 3 (segment_marks (served_segment secret))
  on_log =
      (omega arith, refl, (omega arith, refl, (omega arith, refl, (omega arith, refl, tt))))

  closes : served_hash ≡ hash_at 3
  closes = refl

  -- after the audit
  pub after_audit : SoundExactlyIf → HonestServersStay
      → Quiet roster (filed_served secret) hash_at 3 1 state_after (caller_shown ∷ [])
  after_audit sound stays =
      goes_on roster [] (λ n. zeros) 0 0 (opening_server 5) [] opened (served_job secret) hash_at state_after
      (caller_shown ∷ []) (record {
        job = refl;
        first = refl;
        last = refl;
        above = omega arith;
        near = omega arith;
        few = omega arith;
        fits = omega arith;
        pairs = on_log;
        closing = closes;
        same = opening_same;
        verdict = served_sound sound stays;
      })

  -- the server is Trusted then
  pub is_trusted : SoundExactlyIf → HonestServersStay
      → Owes roster (filed_served secret) (Ask ItsIndication) (Told Trusted)
  is_trusted sound stays =
      told roster (filed_served secret) (Ask ItsIndication) (Told Trusted) (λ x. x)
      (ap (λ b. Told (cond b Exposed (without_evidence (open_challenges (filed_served secret)))))
      (hidden roster (filed_served secret) hash_at 3 1 state_after (caller_shown ∷ [])
      (after_audit sound stays)))

  -- and what its log shows of the client's is forwarded
  pub is_forwarded : SoundExactlyIf → HonestServersStay
      → Owes roster (filed_served secret) Forward (Forwarded caller_shown)
  is_forwarded sound stays =
      (then_forward roster (filed_served secret) hash_at 3 1 state_after (caller_shown ∷ [])
      (after_audit sound stays)).next

  -- ---- whose they are

  key_is : is_key_of (server secret) (server_key secret) ≡ true
  key_is =
      and_from (is_same (root secret 1) (root secret 1)) (1 == 1)
      (list_same (root secret 1) (root secret 1) refl)
      refl

  -- the authenticator is the server's step
  pub learned_whose : whose (server_and_caller secret) (events.Learn (served_end secret) (server_key secret))
      ≡ Ok (record { member = server secret; step = Learn (served_end secret) })
  learned_whose =
      ap (λ b. cond b (Ok (record { member = server secret; step = Learn (served_end secret) }))
      (Err BadSignature)) key_is

  roster_is : same_roster (server_and_caller secret) (server_and_caller secret) ≡ true
  roster_is =
      ap₂ (λ a b. (a && true) && ((b && true) && true)) (list_same (root secret 1) (root secret 1) refl)
      (list_same caller_root caller_root refl)

  -- the closed segment is the server's step
  pub answered_whose : whose (server_and_caller secret) (events.Answer (served_closed secret))
      ≡ Ok (record { member = server secret; step = Answer (served_closed secret) })
  answered_whose =
      ap (λ b. cond b (Ok (record { member = server secret; step = Answer (served_closed secret) }))
      (Err BadSignature)) roster_is

  -- the server's own steps after each event
  pub own_learned : own (server_and_caller secret) 5 (served_learned secret) ≡ learned_served secret
  own_learned = ap (λ w. own_step 5 w Noted ++ []) learned_whose

  -- with the audit's question after it
  pub own_asked : own (server_and_caller secret) 5 (served_asked secret) ≡ asked_served secret
  own_asked = ap (λ (x : Past). (Audit, Asked 1 3) ∷ x) own_learned

  -- with the answer after that
  pub own_answered : own (server_and_caller secret) 5 (served_answered secret) ≡ answered_served secret
  own_answered = ap₂ (λ w (x : Past). own_step 5 w Accepted ++ x) answered_whose own_asked

  -- with the job that begins
  pub own_begun : own (server_and_caller secret) 5 (served_begun secret) ≡ begun_served secret
  own_begun = ap (λ (x : Past). (Begin, Job (served_job secret)) ∷ x) own_answered

  -- with the job's result
  pub own_filed : own (server_and_caller secret) 5 (served_filed secret) ≡ filed_served secret
  own_filed = ap (λ (x : Past). (File (served_done secret), Filed) ∷ x) own_begun

  -- the last event, which asks for the indication, is a step of the server too
  pub own_all : own (server_and_caller secret) 5 (served_events secret) ≡ served_steps secret
  own_all = ap (λ (x : Past). (Ask ItsIndication, Told Trusted) ∷ x) own_filed

  -- every signature among its steps is of the log's last place
  pub unforged : Unforged roster (without_gaps served) (served_steps secret)
  unforged = (
    (λ of signed. inr (inr (inr (inl refl)))),
    ((λ of signed. inr (inr (inr (inl refl)))), tt),
  )
