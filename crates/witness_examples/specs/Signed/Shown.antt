-- Histories of signed values: a client that signs two hashes at one number, and one that is challenged with a
-- message and acknowledges it.
use Rattle.std.specs.Prelude.{ℕ, List, [], ◌∷◌, replicate}
use Rattle.sha2.specs.Sha256.{sha256}
use Rattle.merkle_keys.specs.Signing.{SignatureParts, signature_of}
use Rattle.authenticator.specs.Signed.{signed_digest}
use Rattle.authenticator.specs.declared.member.Kind.TheVariants.{Client}
use Rattle.authenticator.specs.declared.member.LogVersion.TheVariants.{One}
use Rattle.authenticator.specs.declared.member.Member.{Member}
use Rattle.merkle_keys.specs.Tree.{root}
use Rattle.secure_log.specs.LogEntries.Messages.{message_hash, receipt_hash}
use Rattle.secure_log.specs.LogEntries.Signatures.{signature_digest}
use Rattle.envelopes.specs.declared.envelope.Envelope.{Envelope}
use Rattle.envelopes.specs.declared.acknowledgement.Ack.{Ack}
use Rattle.witness_spec.specs.Events as events
use Rattle.witness_spec.specs.Replies.{Noted, Opened, Closed}
use Rattle.witness_spec.specs.Steps.{Learn, SendChallenge, AckIn, Past}
use Rattle.witness_spec.specs.Histories.{History}
use Rattle.witness_examples.specs.Signed.Audited.{client, client_key, signed}

-- ---- two hashes at number 1

-- a stand-in for a hash: 32 bytes of 1
abbrev pub ones : List ℕ
ones = replicate 32 1

-- another one: 32 bytes of 2
abbrev pub twos : List ℕ
twos = replicate 32 2

-- one hash at number 1, signed by a leaf of its own
abbrev pub one_event : (secret : List ℕ) → History
one_event secret = (events.Learn (signed secret 0 1 ones) (client_key secret), Noted) ∷ []

-- a second hash at the same number, signed by the other leaf
abbrev pub forked_events : (secret : List ℕ) → History
forked_events secret =
    (events.Learn (signed secret 1 1 twos) (client_key secret), Noted) ∷ one_event secret

-- the first, as a step of the client
abbrev pub one_step : (secret : List ℕ) → Past
one_step secret = (Learn (signed secret 0 1 ones), Noted) ∷ []

-- both, as steps of the client
abbrev pub forked_steps : (secret : List ℕ) → Past
forked_steps secret = (Learn (signed secret 1 1 twos), Noted) ∷ one_step secret

-- ---- a message and its acknowledgement

-- another client, whose secret is another
abbrev pub sender : (secret : List ℕ) → Member
sender secret = record { node = 6; kind = Client; root = root secret 1; height = 1; log_version = One }

-- the roster of both clients
abbrev pub both : (secret other : List ℕ) → List Member
both secret other = client secret ∷ sender other ∷ []

-- the hash of its message to the client
abbrev pub sent_hash : List ℕ
sent_hash = message_hash 5 1 ones (sha256 (7 ∷ []))

-- its signature of that hash
abbrev pub sent_signature : (other : List ℕ) → SignatureParts
sent_signature other = signature_of other 1 0 (signed_digest 6 1 sent_hash)

-- the envelope of the message
abbrev pub message : (other : List ℕ) → Envelope
message other = record {
  from = 6;
  to = 5;
  seq = 1;
  prev = ones;
  body = 7 ∷ [];
  signature = sent_signature other;
}

-- the hash of its receipt
abbrev pub received_hash : (other : List ℕ) → List ℕ
received_hash other =
    receipt_hash 6 1 ones (sha256 (7 ∷ [])) (signature_digest (sent_signature other)) 1 twos

-- the client's acknowledgement of it
abbrev pub acknowledged : (secret other : List ℕ) → Ack
acknowledged secret other = record {
  by = 5;
  number = 1;
  prev = twos;
  from = 6;
  seq = 1;
  sender_prev = ones;
  body_hash = sha256 (7 ∷ []);
  signature_hash = signature_digest (sent_signature other);
  signature = signature_of secret 1 0 (signed_digest 5 1 (received_hash other));
}

-- the client is challenged with it
abbrev pub challenged_event : (other : List ℕ) → History
challenged_event other = (events.SendChallenge (message other) (client_key other), Opened) ∷ []

-- and acknowledges it
abbrev pub acknowledged_events : (secret other : List ℕ) → History
acknowledged_events secret other =
    (events.AckIn (acknowledged secret other) (client_key secret), Closed) ∷ challenged_event other

-- the challenge, as a step of the client
abbrev pub challenged_step : (other : List ℕ) → Past
challenged_step other = (SendChallenge (message other), Opened) ∷ []

-- the challenge and the acknowledgement, as steps of the client
abbrev pub acknowledged_steps : (secret other : List ℕ) → Past
acknowledged_steps secret other = (AckIn (acknowledged secret other), Closed) ∷ challenged_step other
