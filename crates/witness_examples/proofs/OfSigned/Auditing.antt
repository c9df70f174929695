-- A history of signed values is a history, and meets what the law on honest nodes supposes.
-- Serves: audits.
use Rattle.std.proofs.Common.{◌≡◌, ◌⊎◌, inl, inr, ℕ, ◌+◌, ◌-◌, ◌<◌, ◌^◌, true, cond, ◌==◌, ◌&&◌, List, [], ◌∷◌}
use Rattle.std.proofs.Common.{◌++◌, Ok, Err}
use Rattle.std.proofs.Common.{length, refl, sym, ap, ap₂, subst, arith}
use Rattle.std.specs.List.{AllByRecursion}
use Rattle.std.proofs.lemmas.Bool.{and_from}
use Rattle.sha2.proofs.Facts256.{length-sha256}
use Rattle.merkle_keys.specs.Tree.{root}
use Rattle.authenticator.specs.declared.member.LogVersion.TheVariants.{One}
use Rattle.authenticator.specs.Signed.{signed_digest}
use Rattle.authenticator.proofs.Signed.{list_same}
use Rattle.secure_log.specs.LogEntries.Chain.{Logged, hash_after, logged_links, span, zeros, without_gaps, IsAmong}
use Rattle.secure_log.specs.LogEntries.Words.{MaySkip}
use Rattle.secure_log.specs.Part.{GivesPart, open_entries, open_links}
use Rattle.secure_log.specs.declared.open.OpenSegment.{OpenSegment}
use Rattle.replay_spec.specs.Opening.{opening_of}
use Rattle.state_spec.specs.State.{State}
use Rattle.state_spec.specs.State.{opening_client}
use Rattle.replay_spec.specs.Stepping.{step}
use Rattle.replay_spec.specs.Placed.{places_in}
use Rattle.replay_spec.specs.Replay.{Sound, verdict_of}
use Rattle.replay_spec.specs.HonestLogs.{IsHonestLog}
use Rattle.witness_spec.specs.evidence_spec.Proving.{texts_of}
use Rattle.witness_spec.proofs.evidence_spec.OneReading.{reading_texts}
use Rattle.authenticator.specs.Signing.{is_same}
use Rattle.witness_spec.specs.Refusals.{BadSignature}
use Rattle.witness_spec.specs.Events.{Event, ItsIndication, IsEvent, IsClosedUnder}
use Rattle.witness_spec.specs.Events as events
use Rattle.witness_spec.specs.Starting.{from_the_first}
use Rattle.witness_spec.specs.Replies.{Reply, Noted, Asked, Accepted, Job, Filed, Told, Trusted}
use Rattle.witness_spec.specs.Steps.{Step, Learn, Audit, Answer, Begin, File, Ask, Past}
use Rattle.witness_spec.specs.Whose.{is_key_of, same_roster, whose}
use Rattle.witness_spec.specs.Owing.{Owes}
use Rattle.witness_spec.specs.Histories.{History, OwesTo, IsOwed, own, own_step}
use Rattle.witness_spec.specs.Premises.{NoCollisionWith, Unforged}
use Rattle.witness_examples.specs.Reaching.{watched_in}
use Rattle.witness_examples.specs.Signed.Audited.{readings, its_log, read_hash, state_read}
use Rattle.witness_examples.specs.Signed.Audited.{client, client_key, alone, signed, signed_end}
use Rattle.witness_examples.specs.Signed.Audited.{signed_segment}
use Rattle.witness_examples.specs.Signed.Audited.{signed_closed, learned_event, asked_event, answered_event}
use Rattle.witness_examples.specs.Signed.Audited.{begun_event, filed_event, audited_events, audited_steps}
use Rattle.witness_examples.specs.Signed.Audited.{learned_step, answered_step, asked_step, begun_step}
use Rattle.witness_examples.specs.Signed.Audited.{filed_step}
use Rattle.witness_examples.specs.Signed.Audited.{signed_job, signed_done}
use Rattle.witness_examples.proofs.OfSigned.Signing.{leaf_signs, signature_fits}

module _ (secret : List ℕ) where
  -- ---- what is signed

  -- an authenticator that the client signed may be handed in
  pub signed_event : (leaf number : ℕ) (hash : List ℕ) → leaf < 2 → number < 2 ^ 32 → length hash ≡ 32
      → IsEvent (events.Learn (signed secret leaf number hash) (client_key secret))
  signed_event leaf number hash low small long = (
    (
      omega arith,
      (
        (omega (arith, small), grind arith),
        (long, signature_fits secret leaf (signed_digest 5 number hash) low),
      ),
    ),
    leaf_signs secret leaf (signed_digest 5 number hash) low,
  )

  read_length : length read_hash ≡ 32
  unfolding hash_after
  read_length = length-sha256 _

  -- the signed authenticator can be handed in
  pub learned_is : IsEvent (events.Learn (signed_end secret) (client_key secret))
  learned_is = signed_event 0 1 read_hash (omega arith) (omega arith) read_length

  zeros_length : length zeros ≡ 32
  unfolding zeros
  zeros_length = refl

  -- its log, closed by that, may be handed in
  pub closed_is : IsClosedUnder (signed_closed secret)
  closed_is = record {
    fits = record {
      text = (
        omega arith,
        (
          (omega arith, refl),
          (
            zeros_length,
            (
              (omega arith, omega arith, ((omega arith, refl, (omega arith, omega arith)), tt)),
              learned_is.0,
            ),
          ),
        ),
      );
      skips = (refl, tt);
      begins = tt;
    };
    whole = refl;
    closed = record {
      version = refl;
      ends = record {
        first = omega arith;
        skips = (refl, tt);
        node = refl;
        last = refl;
        hash = refl;
      };
      signed = leaf_signs secret 0 (signed_digest 5 1 read_hash) (omega arith);
    };
  }

  -- a replay of it finds the state after the reading
  pub replayed : Sound state_read []
      ≡ verdict_of (alone secret) (opening_client 5) (places_in (signed_segment secret))
  unfolding step
  replayed = refl

  -- ---- whose it is

  key_is : is_key_of (client secret) (client_key secret) ≡ true
  key_is =
      and_from (is_same (root secret 1) (root secret 1)) (1 == 1)
      (list_same (root secret 1) (root secret 1) refl)
      refl

  -- an authenticator of the client is its step
  pub learned_whose : (leaf number : ℕ) (hash : List ℕ)
      → whose (alone secret) (events.Learn (signed secret leaf number hash) (client_key secret))
      ≡ Ok (record { member = client secret; step = Learn (signed secret leaf number hash) })
  learned_whose leaf number hash =
      ap (λ b. cond b (Ok (record { member = client secret; step = Learn (signed secret leaf number hash) }))
      (Err BadSignature)) key_is

  -- a roster is the same as itself
  pub roster_is : same_roster (alone secret) (alone secret) ≡ true
  roster_is =
      ap (λ b. (b && true) && true) (list_same (root secret 1) (root secret 1) refl)

  -- the closed segment is the client's step
  pub answered_whose : whose (alone secret) (events.Answer (signed_closed secret))
      ≡ Ok (record { member = client secret; step = Answer (signed_closed secret) })
  answered_whose =
      ap (λ b. cond b (Ok (record { member = client secret; step = Answer (signed_closed secret) }))
      (Err BadSignature)) roster_is

  -- ---- the history

  -- the client's own steps after each event
  pub own_learned : own (alone secret) 5 (learned_event secret) ≡ learned_step secret
  own_learned = ap (λ w. own_step 5 w Noted ++ []) (learned_whose 0 1 read_hash)

  -- with the audit's question after it
  pub own_asked : own (alone secret) 5 (asked_event secret) ≡ asked_step secret
  own_asked = ap (λ (x : Past). (Audit, Asked 1 1) ∷ x) own_learned

  -- with the answer after that
  pub own_answered : own (alone secret) 5 (answered_event secret) ≡ answered_step secret
  own_answered = ap₂ (λ w (x : Past). own_step 5 w Accepted ++ x) answered_whose own_asked

  -- with the job that begins
  pub own_begun : own (alone secret) 5 (begun_event secret) ≡ begun_step secret
  own_begun = ap (λ (x : Past). (Begin, Job (signed_job secret)) ∷ x) own_answered

  -- with the job's result
  pub own_filed : own (alone secret) 5 (filed_event secret) ≡ filed_step secret
  own_filed = ap (λ (x : Past). (File (signed_done secret), Filed) ∷ x) own_begun

  -- the last event, which asks for the indication, is a step of the client too
  pub own_all : own (alone secret) 5 (audited_events secret) ≡ audited_steps secret
  own_all = ap (λ (x : Past). (Ask ItsIndication, Told Trusted) ∷ x) own_filed

  -- a reply that is owed after own steps is owed after the history that has them
  pub owed : (history : History) (past : Past) (e : Event) (step : Step) (reply : Reply)
      → own (alone secret) 5 history ≡ past
      → whose (alone secret) e ≡ Ok (record { member = client secret; step = step })
      → Owes (watched_in (alone secret) (client secret)) past step reply
      → IsOwed (from_the_first (alone secret)) history e reply
  owed history past e step reply same its h =
      subst (OwesTo (from_the_first (alone secret)) history e reply) (sym its)
      (subst (λ x. Owes (watched_in (alone secret) (client secret)) x step reply) (sym same) h)

  -- ---- what the law on honest nodes supposes

  -- the client's log, one reading of a clock, is honest
  pub reading_honest : IsHonestLog (alone secret) (opening_of (client secret)) (without_gaps readings)
      state_read
  reading_honest = record {
    states = state_read ∷ [];
    honest = (record { stands = record { turn = tt; valid = omega arith; late = refl }; after = refl }, tt);
    last = refl;
  }

  -- every signature among its steps is of the log's last place
  pub unforged : Unforged (watched_in (alone secret) (client secret)) (without_gaps readings)
      (audited_steps secret)
  unforged = ((λ of signed. inr (inl refl)), ((λ of signed. inr (inl refl)), tt))

-- what is in two lists of texts is in one of them
in_parts : (t : List ℕ) (xs ys : List (List ℕ)) → IsAmong t (xs ++ ys) → IsAmong t xs ⊎ IsAmong t ys
in_parts t [] ys i = inr i
in_parts t (x ∷ xs) ys (inl e) = inl (inl e)
in_parts t (x ∷ xs) ys (inr i) = elim (in_parts t xs ys i) [ inl a ↦ inl (inr a) | inr b ↦ inr b ]

-- texts twice are the texts
pub in_both : (t : List ℕ) (texts : List (List ℕ)) → IsAmong t (texts ++ (texts ++ [])) → IsAmong t texts
in_both t texts i =
    elim (in_parts t texts (texts ++ []) i) [
      | inl a ↦ a
      | inr b ↦ elim (in_parts t texts [] b) [ inl a ↦ a | inr none ↦ absurd none ]
    ]

-- no two texts of the log and of what was answered have one digest
pub unlike : (secret : List ℕ) (states : List State)
    → NoCollisionWith (watched_in (alone secret) (client secret)) (without_gaps readings) states
    (audited_steps secret)
unlike secret states s t i j e =
    let texts = texts_of (without_gaps readings) in
    reading_texts s t (in_both s texts i) (in_both t texts j) e

-- The part with all entries of its log is the log's.
pub whole_part : (s : OpenSegment) → s.log_version ≡ One → s.node ≡ 5 → s.first ≡ 1 → s.opening ≡ zeros
    → open_entries s ≡ without_gaps readings → GivesPart its_log 1 1 (Ok s)
whole_part s version node first opening entries = (
  record { some = omega arith; order = omega arith; after = refl; there = refl },
  omega (arith, ap length entries),
  record {
    version = version;
    node = node;
    number = first;
    part = record {
      before = [];
      rest = [];
      whole = ap (λ (ls : List Logged). ls ++ []) (sym entries);
      place = refl;
      count = ap (λ (ls : List Logged). 0 + span ls) entries;
    };
    opening = opening;
  },
)

-- and skips nothing
pub none_skipped : (s : OpenSegment) → s.log_version ≡ One → open_entries s ≡ without_gaps readings
    → AllByRecursion (MaySkip s.log_version) (open_links s)
none_skipped s version entries =
    subst (λ v. AllByRecursion (MaySkip v) (open_links s)) (sym version)
    (subst (λ ls. AllByRecursion (MaySkip One) (logged_links (s.first - 1) ls)) (sym entries) (refl, tt))
