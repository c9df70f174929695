-- Books that stand after histories of signed values.
-- Serves: books_stand_after_histories.
use Rattle.std.proofs.Common.{None}
use Rattle.std.proofs.Common.{◌≡◌, inl, inr, ℕ, List, [], ◌∷◌, ◌++◌, refl, sym, ap, ap₂, subst}
use Rattle.authenticator.specs.declared.member.Member.{Member}
use Rattle.authenticator.proofs.Signed.{list_same}
use Rattle.secure_log.specs.LogEntries.Chain.{zeros}
use Rattle.replay_spec.specs.Stepping.{step}
use Rattle.secure_log.specs.LogEntries.Chain.{IsAmong}
use Rattle.witness_spec.specs.Starting.{from_the_first}
use Rattle.witness_spec.specs.Replies.{Opened, Closed, SendOf}
use Rattle.witness_spec.specs.Steps.{Past}
use Rattle.witness_spec.specs.Histories.{History, own, own_step, HoldSame, StandsFor, Stands}
use Rattle.witness_spec.specs.Contract.{starting_book, starting_books}
use Rattle.witness_examples.specs.Reaching.{watched_in}
use Rattle.witness_examples.specs.Signed.Audited.{alone, client, read_hash, audited_events, audited_steps}
use Rattle.witness_examples.specs.Signed.Shown.{both, sender, message, sent_hash, forked_events, forked_steps}
use Rattle.witness_examples.specs.Signed.Shown.{challenged_event, challenged_step, acknowledged_events}
use Rattle.witness_examples.specs.Signed.Shown.{acknowledged_steps}
use Rattle.witness_examples.specs.Signed.Books.{audited_book, forked_book, challenged_books}
use Rattle.witness_examples.proofs.OfSigned.Auditing.{own_all}
use Rattle.witness_examples.proofs.OfSigned.Showing.{message_whose, acknowledged_whose, own_forked}
use Rattle.witness_examples.proofs.OfSigned.Showing.{own_challenged, own_acknowledged}

-- ---- lists that hold the same

same_held : {A : Type 0} (xs : List A) → HoldSame xs xs
same_held xs x = (λ i. i, λ i. i)

-- two values, and the same two twice
doubled : {A : Type 0} (a b : A) → HoldSame (a ∷ b ∷ []) (a ∷ b ∷ b ∷ a ∷ [])
doubled a b x = (
  λ i. elim i [ inl e ↦ inl e | inr j ↦ elim j [ inl e ↦ inr (inl e) | inr none ↦ absurd none ] ],
  λ i. elim i [
    | inl e ↦ inl e
    | inr j ↦ elim j [
      | inl e ↦ inr (inl e)
      | inr k ↦ elim k [
        | inl e ↦ inr (inl e)
        | inr l ↦ elim l [ inl e ↦ inl e | inr none ↦ absurd none ]
      ]
    ]
  ],
)

-- three values, and the same three in the other order
turned_one : {A : Type 0} (a b c x : A) → IsAmong x (a ∷ b ∷ c ∷ []) → IsAmong x (c ∷ b ∷ a ∷ [])
turned_one a b c x (inl e) = inr (inr (inl e))
turned_one a b c x (inr (inl e)) = inr (inl e)
turned_one a b c x (inr (inr (inl e))) = inl e
turned_one a b c x (inr (inr (inr none))) = absurd none

turned : {A : Type 0} (a b c : A) → HoldSame (a ∷ b ∷ c ∷ []) (c ∷ b ∷ a ∷ [])
turned a b c x = (turned_one a b c x, turned_one c b a x)

-- ---- the books

module _ (secret : List ℕ) where
  audited_stands : StandsFor (watched_in (alone secret) (client secret)) (audited_steps secret)
      (audited_book secret)
  unfolding step
  audited_stands = record {
    end = refl;
    stage = refl;
    begun = refl;
    pairs = doubled (0, zeros) (1, read_hash);
    learned = same_held [];
    challenges = refl;
    outbox = refl;
    segments = λ x. (λ i. i, λ i. i);
    evidence = rw (list_same zeros zeros refl, list_same read_hash read_hash refl) refl;
  }

  -- after the audit
  pub audited_stand : Stands (from_the_first (alone secret)) (audited_book secret ∷ []) (audited_events secret)
  audited_stand = (
    subst (λ x. StandsFor (watched_in (alone secret) (client secret)) x (audited_book secret))
        (sym (own_all secret))
        audited_stands,
    tt,
  )

  forked_stands : StandsFor (watched_in (alone secret) (client secret)) (forked_steps secret)
      (forked_book secret)
  forked_stands = record {
    end = refl;
    stage = refl;
    begun = refl;
    pairs = turned _ _ _;
    learned = λ x. (λ i. i, λ i. i);
    challenges = refl;
    outbox = refl;
    segments = same_held [];
    evidence = refl;
  }

  -- after the fork
  pub forked_stand : Stands (from_the_first (alone secret)) (forked_book secret ∷ []) (forked_events secret)
  forked_stand = (
    subst (λ x. StandsFor (watched_in (alone secret) (client secret)) x (forked_book secret))
        (sym (own_forked secret))
        forked_stands,
    tt,
  )

module _ (secret other : List ℕ) where
  -- none of the sender's own steps is among them
  none_challenged : own (both secret other) 6 (challenged_event other) ≡ []
  none_challenged = ap (λ w. own_step 6 w Opened ++ []) (message_whose secret other)

  none_acknowledged : own (both secret other) 6 (acknowledged_events secret other) ≡ []
  none_acknowledged =
      ap₂ (λ w (x : Past). own_step 6 w Closed ++ x) (acknowledged_whose secret other) none_challenged

  opening_stands : (m : Member) → StandsFor (watched_in (both secret other) m) [] (starting_book m None)
  opening_stands m = record {
    end = refl;
    stage = refl;
    begun = refl;
    pairs = λ x. (λ i. i, λ i. i);
    learned = same_held [];
    challenges = refl;
    outbox = refl;
    segments = same_held [];
    evidence = refl;
  }

  -- the sender's book, where it has no own steps
  senders : (history : History) → own (both secret other) 6 history ≡ []
      → StandsFor (watched_in (both secret other) (sender other)) (own (both secret other) 6 history)
      (starting_book (sender other) None)
  senders history none =
      subst (λ x. StandsFor (watched_in (both secret other) (sender other)) x (starting_book (sender other) None))
      (sym none)
      (opening_stands (sender other))

  -- after the challenge
  pub challenged_stand : Stands (from_the_first (both secret other)) (challenged_books secret other)
      (challenged_event other)
  challenged_stand =
      let stands : StandsFor (watched_in (both secret other) (client secret)) (challenged_step other)
      (record (starting_book (client secret) None) { challenges = SendOf (message other) ∷ [] }) = record {
        end = refl;
        stage = refl;
        begun = refl;
        pairs = λ x. (λ i. i, λ i. i);
        learned = same_held [];
        challenges = refl;
        outbox = refl;
        segments = same_held [];
        evidence = refl;
      } in (
        subst (λ x. StandsFor (watched_in (both secret other) (client secret)) x
            (record (starting_book (client secret) None) { challenges = SendOf (message other) ∷ [] }))
            (sym (own_challenged secret other)) stands,
        (senders (challenged_event other) none_challenged, tt),
      )

  acknowledged_stands : StandsFor (watched_in (both secret other) (client secret))
      (acknowledged_steps secret other)
      (starting_book (client secret) None)
  acknowledged_stands = record {
    end = refl;
    stage = refl;
    begun = refl;
    pairs = λ x. (λ i. i, λ i. i);
    learned = same_held [];
    challenges = rw (list_same sent_hash sent_hash refl) refl;
    outbox = refl;
    segments = same_held [];
    evidence = refl;
  }

  -- after the acknowledgement
  pub acknowledged_stand : Stands (from_the_first (both secret other))
      (starting_books (from_the_first (both secret other)))
      (acknowledged_events secret other)
  acknowledged_stand = (
    subst (λ x. StandsFor (watched_in (both secret other) (client secret)) x (starting_book (client secret) None))
        (sym (own_acknowledged secret other)) acknowledged_stands,
    (senders (acknowledged_events secret other) none_acknowledged, tt),
  )
