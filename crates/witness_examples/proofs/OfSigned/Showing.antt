-- Histories of signed values: a fork, and a message with its acknowledgement.
-- Serves: messages.
use Rattle.std.proofs.Common.{◌≡◌, ℕ, true, cond, ◌==◌, List, [], ◌∷◌, ◌++◌, Ok, Err, length}
use Rattle.std.proofs.Common.{refl, sym, ap, ap₂, subst, arith}
use Rattle.std.proofs.lemmas.Bool.{and_from}
use Rattle.sha2.proofs.Facts256.{length-sha256}
use Rattle.authenticator.specs.Signed.{signed_digest}
use Rattle.authenticator.specs.declared.member.Member.{Member}
use Rattle.authenticator.proofs.Signed.{list_same}
use Rattle.secure_log.specs.LogEntries.Signatures.{signature_digest}
use Rattle.authenticator.specs.Signing.{is_same}
use Rattle.witness_spec.specs.Refusals.{BadSignature}
use Rattle.witness_spec.specs.Events.{Event, IsEvent}
use Rattle.witness_spec.specs.Events as events
use Rattle.witness_spec.specs.Replies.{Reply, Noted, Opened, Closed}
use Rattle.witness_spec.specs.Starting.{Beginning}
use Rattle.witness_spec.specs.Watched.{watched}
use Rattle.witness_spec.specs.Steps.{Step, SendChallenge, AckIn, Past}
use Rattle.witness_spec.specs.Whose.{is_key_of, whose}
use Rattle.witness_spec.specs.Owing.{Owes}
use Rattle.witness_spec.specs.Histories.{History, OwesTo, IsOwed, own, own_step, own_of}
use Rattle.witness_examples.specs.Signed.Audited.{client, client_key, alone}
use Rattle.witness_examples.specs.Signed.Shown.{ones, twos, one_event, one_step, forked_events, forked_steps}
use Rattle.witness_examples.specs.Signed.Shown.{both, sender, message, acknowledged, sent_hash}
use Rattle.witness_examples.specs.Signed.Shown.{sent_signature}
use Rattle.witness_examples.specs.Signed.Shown.{received_hash, challenged_event, challenged_step}
use Rattle.witness_examples.specs.Signed.Shown.{acknowledged_events, acknowledged_steps}
use Rattle.witness_examples.proofs.OfSigned.Signing.{leaf_signs, signature_fits}
use Rattle.witness_examples.proofs.OfSigned.Auditing.{learned_whose}

-- a member's key is its own
key_is : (m : Member) → m.height ≡ 1 → is_key_of m (record { root = m.root; height = 1 }) ≡ true
key_is m h =
    and_from (is_same m.root m.root) (m.height == 1) (list_same m.root m.root refl) (ap (λ n. n == 1) h)

module _ (secret : List ℕ) where
  -- the client's own steps after each event
  pub own_one : own (alone secret) 5 (one_event secret) ≡ one_step secret
  own_one = ap (λ w. own_step 5 w Noted ++ []) (learned_whose secret 0 1 ones)

  -- with the other hash at the same number after it
  pub own_forked : own (alone secret) 5 (forked_events secret) ≡ forked_steps secret
  own_forked = ap₂ (λ w (x : Past). own_step 5 w Noted ++ x) (learned_whose secret 1 1 twos) own_one

module _ (secret other : List ℕ) where
  -- the message may be handed in
  pub message_is : IsEvent (events.SendChallenge (message other) (client_key other))
  message_is = (
    (
      omega arith,
      (
        omega arith,
        (
          (omega arith, refl),
          (
            refl,
            (
              (omega arith, omega arith),
              signature_fits other 0 (signed_digest 6 1 sent_hash) (omega arith),
            ),
          ),
        ),
      ),
    ),
    leaf_signs other 0 (signed_digest 6 1 sent_hash) (omega arith),
  )

  digest_length : length (signature_digest (sent_signature other)) ≡ 32
  unfolding signature_digest
  digest_length = length-sha256 _

  -- and so may the acknowledgement
  pub acknowledged_is : IsEvent (events.AckIn (acknowledged secret other) (client_key secret))
  acknowledged_is = (
    (
      omega arith,
      (
        (omega arith, refl),
        (
          refl,
          (
            omega arith,
            (
              (omega arith, refl),
              (
                refl,
                (
                  length-sha256 (7 ∷ []),
                  (
                    digest_length,
                    signature_fits secret 0 (signed_digest 5 1 (received_hash other))
                        (omega arith),
                  ),
                ),
              ),
            ),
          ),
        ),
      ),
    ),
    leaf_signs secret 0 (signed_digest 5 1 (received_hash other)) (omega arith),
  )

  -- both are the client's steps
  pub message_whose : whose (both secret other) (events.SendChallenge (message other) (client_key other))
      ≡ Ok (record { member = client secret; step = SendChallenge (message other) })
  message_whose =
      ap (λ b. cond b (Ok (record { member = client secret; step = SendChallenge (message other) }))
      (Err BadSignature)) (key_is (sender other) refl)

  -- the acknowledgement, too, is the client's step
  pub acknowledged_whose : whose (both secret other)
      (events.AckIn (acknowledged secret other) (client_key secret))
      ≡ Ok (record { member = client secret; step = AckIn (acknowledged secret other) })
  acknowledged_whose =
      ap (λ b. cond b (Ok (record { member = client secret; step = AckIn (acknowledged secret other) }))
      (Err BadSignature)) (key_is (client secret) refl)

  -- so these are its own steps
  pub own_challenged : own (both secret other) 5 (challenged_event other) ≡ challenged_step other
  own_challenged = ap (λ w. own_step 5 w Opened ++ []) message_whose

  -- with the acknowledgement after the challenge
  pub own_acknowledged : own (both secret other) 5 (acknowledged_events secret other)
      ≡ acknowledged_steps secret other
  own_acknowledged = ap₂ (λ w (x : Past). own_step 5 w Closed ++ x) acknowledged_whose own_challenged

-- a reply that is owed after a member's own steps is owed after the history that has them
pub owed_to : (g : Beginning) (m : Member) (history : History) (past : Past) (e : Event) (step : Step)
    (reply : Reply)
    → own_of (watched g m) history ≡ past → whose g.roster e ≡ Ok (record { member = m; step = step })
    → Owes (watched g m) past step reply → IsOwed g history e reply
owed_to g m history past e step reply same its h =
    subst (OwesTo g history e reply) (sym its) (subst (λ x. Owes (watched g m) x step reply) (sym same) h)
