-- The books after histories of signed values, word by word.
use Rattle.std.specs.Prelude.{List, ℕ, [], ◌∷◌, Some, None}
use Rattle.state_spec.specs.State.{opening_client}
use Rattle.witness_spec.specs.evidence_spec.Showing.{authenticator_showing}
use Rattle.witness_spec.specs.evidence_spec.Evidence.{Fork}
use Rattle.witness_spec.specs.Replies.{SendOf}
use Rattle.witness_spec.specs.Pairs.{first_pair}
use Rattle.witness_spec.specs.Standing.{NoAudit}
use Rattle.witness_spec.specs.Histories.{BookParts}
use Rattle.witness_spec.specs.Contract.{starting_book}
use Rattle.witness_examples.specs.Signed.Audited.{client, read_hash, state_read, signed, signed_segment}
use Rattle.witness_examples.specs.Signed.Shown.{ones, twos, message, sender}
use Rattle.authenticator.specs.declared.member.LogVersion.TheVariants.{One}

-- after the audit of one reading: the end is 1, and one segment is accepted
abbrev pub audited_book : (secret : List ℕ) → BookParts
audited_book secret = record {
  end = record { number = 1; state = state_read };
  stage = NoAudit;
  begun = 1;
  pairs = first_pair ∷ (1, read_hash) ∷ [];
  learned = [];
  challenges = [];
  outbox = [];
  segments = signed_segment secret ∷ [];
  evidence = None;
}

-- after two hashes at number 1: the first authenticator is kept, and both are the evidence
abbrev pub forked_book : (secret : List ℕ) → BookParts
forked_book secret = record {
  end = record { number = 0; state = opening_client 5 };
  stage = NoAudit;
  begun = 0;
  pairs = first_pair ∷ (1, ones) ∷ (1, twos) ∷ [];
  learned = signed secret 0 1 ones ∷ [];
  challenges = [];
  outbox = [];
  segments = [];
  evidence = Some (record {
    node = 5;
    charge = Fork (record {
      log_version = One;
      at = 1;
      a = authenticator_showing One (signed secret 0 1 ones);
      b = Some (authenticator_showing One (signed secret 1 1 twos));
    });
  });
}

-- after a challenge, the client's and its sender's
abbrev pub challenged_books : (secret other : List ℕ) → List BookParts
challenged_books secret other =
    record (starting_book (client secret) None) { challenges = SendOf (message other) ∷ [] }
    ∷ starting_book (sender other) None ∷ []
