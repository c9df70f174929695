-- The worked run: its audited log, what was shown, and its texts.
-- Serves: premises_are_possible.
use Rattle.std.proofs.Common.{◌≡◌, ◌≢◌, inl, inr, ℕ, ◌≤◌, List, [], ◌∷◌, ◌++◌, length, refl, sym, ap}
use Rattle.std.proofs.Common.{subst, ◌∙◌, append-nil, arith}
use Rattle.std.proofs.lemmas.Bool.{true≢false}
use Rattle.std.specs.List.{flat_map}
use Rattle.sha2.proofs.Facts256.{length-sha256}
use Rattle.xdr.specs.Item.{Fits}
use Rattle.secure_log.specs.LogEntries.Chain.{IsAmong, Logged, NoCollision, chain_text, chain_texts, hash_after}
use Rattle.secure_log.specs.LogEntries.Chain.{logged_links, without_gaps, zeros}
use Rattle.secure_log.specs.LogEntries.Entry.{content}
use Rattle.secure_log.specs.LogEntries.Messages.{message_hash, receipt_hash}
use Rattle.secure_log.specs.LogEntries.Signatures.{signature_digest}
use Rattle.secure_log.proofs.OfLogEntries.FewerTexts.{Within, both, fewer, left}
use Rattle.envelopes.specs.Envelope.{envelope_item, envelope_shows, envelope_value}
use Rattle.envelopes.specs.Acknowledgement.{ack_item, ack_shows, ack_value}
use Rattle.replay_spec.specs.Laws.{SoundExactlyIf}
use Rattle.replay_spec.specs.LogLaws.Laws.{HonestServersStay}
use Rattle.evidence_spec.specs.Proving.{entry_texts, texts_of}
use Rattle.witness_spec.specs.Replies.{Exposed}
use Rattle.witness_spec.specs.Starting.{from_the_first}
use Rattle.witness_spec.specs.Standing.{End, audited, end_of, indication, sound_entries}
use Rattle.witness_spec.specs.Histories.{IsHistory}
use Rattle.witness_spec.specs.Premises.{texts_in}
use Rattle.witness_laws.specs.Audits.{IsShown}
use Rattle.witness_laws.proofs.Exposing.{exposed_is}
use Rattle.witness_laws.proofs.OfEvidence.Before.{accepted_shown}
use Rattle.witness_examples.specs.Signed.Served.{call, served, served_events, served_segment, served_steps}
use Rattle.witness_examples.specs.Signed.Served.{caller_shown, filed_served, server_and_caller, state_after}
use Rattle.witness_examples.proofs.OfLimits.Audits.{hidden}
use Rattle.witness_examples.proofs.OfSigned.Serving.{after_audit, hash_at, own_all, served_sound}
use Rattle.witness_examples.proofs.OfSigned.ServedTexts.{unlike}
use Rattle.witness_examples.proofs.OfSigned.Signing.{signature_fits}
use Rattle.assured_replies.specs.Laws.{AnswersFor, audited_texts, message_texts, receipt_texts}
use Rattle.assured_replies.specs.Example.{its_ack, its_reply, watched_server}

zeros_length : length zeros ≡ 32
unfolding zeros
zeros_length = refl

module _ (secret : List ℕ) where
  -- the pairs of the reply and of the acknowledgement were shown with the segment
  pub reply_shown_by : IsShown (watched_server secret) (served_steps secret) (envelope_shows (its_reply secret))
  unfolding message_hash hash_after chain_text content
  reply_shown_by =
      accepted_shown (watched_server secret) (served_steps secret) (served_segment secret) _ (inl refl)
      (inr (inr (inr (inl refl))))

  pub ack_shown_by : IsShown (watched_server secret) (served_steps secret) (ack_shows (its_ack secret))
  unfolding receipt_hash hash_after chain_text content
  ack_shown_by =
      accepted_shown (watched_server secret) (served_steps secret) (served_segment secret) _ (inl refl)
      (inr (inl refl))

  -- both have texts
  reply_length : length (its_reply secret).prev ≡ 32
  unfolding hash_after
  reply_length = length-sha256 _

  pub reply_fits : Fits envelope_item (envelope_value (its_reply secret))
  reply_fits = (
    omega arith,
    (
      omega arith,
      ((omega arith, refl), (reply_length, ((omega arith, omega arith), signature_fits secret 0 _ (omega arith)))),
    ),
  )

  signed_length : length (its_ack secret).signature_hash ≡ 32
  unfolding signature_digest
  signed_length = length-sha256 _

  pub ack_fits : Fits ack_item (ack_value (its_ack secret))
  ack_fits = (
    omega arith,
    (
      (omega arith, refl),
      (
        zeros_length,
        (
          omega arith,
          (
            (omega arith, refl),
            (zeros_length, (length-sha256 call, (signed_length, signature_fits secret 1 _ (omega arith)))),
          ),
        ),
      ),
    ),
  )

  module _ (sound : SoundExactlyIf) (stays : HonestServersStay) where
    -- the whole log was audited
    audited_is : audited (watched_server secret) (served_steps secret) ≡ without_gaps served
    audited_is =
        append-nil (audited (watched_server secret) (filed_served secret))
        ∙ ap (sound_entries (without_gaps served)) (served_sound secret sound stays)

    ends : 3 ≤ (end_of (watched_server secret) (served_steps secret)).number
    ends = omega (arith, ap (λ (x : End). x.number) (after_audit secret sound stays).at_end)

    not_exposed : indication (watched_server secret) (served_steps secret) ≢ Exposed
    not_exposed e =
        true≢false (sym (exposed_is (watched_server secret) (served_steps secret) e)
        ∙ hidden (watched_server secret) (filed_served secret) hash_at 3 1 state_after (caller_shown ∷ [])
        (after_audit secret sound stays))

    -- ---- texts

    abbrev logged : List (List ℕ)
    logged = texts_of (without_gaps served)

    audited_within : Within (audited_texts (watched_server secret) (served_steps secret)) logged
    audited_within t i =
        subst (λ ls. IsAmong t (chain_texts zeros (logged_links 0 ls)
        ++ flat_map (λ (l : Logged). entry_texts l.entry) ls)) audited_is i

    reply_within : Within (message_texts (its_reply secret)) logged
    unfolding hash_after chain_text content
    reply_within t (inl e) = inr (inr (inl e))
    reply_within t (inr (inl e)) = inr (inr (inr (inr (inr (inr (inr (inl e)))))))
    reply_within t (inr (inr (inl e))) = inr (inr (inr (inr (inr (inr (inr (inr (inl e))))))))
    reply_within t (inr (inr (inr i))) = absurd i

    receipt_within : Within (receipt_texts (its_ack secret)) logged
    unfolding chain_text content
    receipt_within t (inl e) = inl e
    receipt_within t (inr (inl e)) = inr (inr (inr (inl e)))
    receipt_within t (inr (inr i)) = absurd i

    call_within : Within (call ∷ []) logged
    call_within t (inl e) = inr (inr (inr (inr (inl e))))
    call_within t (inr i) = absurd i

    pub unlike_all : NoCollision (audited_texts (watched_server secret) (served_steps secret)
        ++ (message_texts (its_reply secret) ++ (receipt_texts (its_ack secret) ++ call ∷ [])))
    unlike_all =
        let few = audited_texts (watched_server secret) (served_steps secret) in
        let sent = message_texts (its_reply secret) in
        let received = receipt_texts (its_ack secret) in
        fewer (few ++ (sent ++ (received ++ call ∷ []))) logged
        (both few (sent ++ (received ++ call ∷ [])) logged audited_within
        (both sent (received ++ call ∷ []) logged reply_within
        (both received (call ∷ []) logged receipt_within call_within)))
        (fewer logged (logged ++ ([] ++ flat_map (λ p. texts_in p.0) (served_steps secret)))
        (left logged ([] ++ flat_map (λ p. texts_in p.0) (served_steps secret))) (unlike secret []))

    -- ---- what is answered for

    pub answers_for : IsHistory (from_the_first (server_and_caller secret)) (served_events secret)
        → AnswersFor (from_the_first (server_and_caller secret)) (watched_server secret) (served_events secret) 3
    answers_for h = record {
      roster = record { is_member = refl; base = tt };
      watched = record { roster = refl; base = refl };
      happened = h;
      server = refl;
      idle = tt;
      not_exposed = subst (λ x. indication (watched_server secret) x ≢ Exposed) (sym (own_all secret)) not_exposed;
      above = omega arith;
      filed = subst (λ x. 3 ≤ (end_of (watched_server secret) x).number) (sym (own_all secret)) ends;
    }
