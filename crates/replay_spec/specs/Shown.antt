-- What an entry of a node's log shows of another node's log: authenticators.
use Rattle.std.specs.Prelude.{ℕ, List}
use Rattle.sha2.specs.Sha256.{sha256}
use Rattle.merkle_keys.specs.Signing.{SignatureParts}
use Rattle.secure_log.specs.authenticator.declared.authenticator.Authenticator.{Authenticator}
use Rattle.secure_log.specs.LogEntries.Messages.{message_hash, receipt_hash}
use Rattle.state_spec.specs.State.{SentMessage}

-- What a RECV in the log of `node` shows of its sender's log: the hash at the sender's SEND, made from the
-- message's word there, the hash before it, its receiver and the digest of its body.
abbrev pub sender_shown : (node from seq : ℕ) (prev body : List ℕ) → SignatureParts → Authenticator
sender_shown node from seq prev body signature = record {
  node = from;
  word = seq;
  hash = message_hash node seq prev (sha256 body);
  signature = signature;
}

-- What an ACK in the log of `node` shows of the log of its message's receiver: the hash at the receiver's
-- RECV, made from its word there, the hash before it, and the message: its sender and word, the hash
-- before it in the sender's log, the digest of its body, and `mine`, the digest of the sender's signature
-- there.
abbrev pub receiver_shown : (node seq : ℕ) → SentMessage → (mine : List ℕ) (number : ℕ) (prev : List ℕ)
    → SignatureParts → Authenticator
receiver_shown node seq message mine number prev signature = record {
  node = message.to;
  word = number;
  hash = receipt_hash node seq message.prev message.body_hash mine number prev;
  signature = signature;
}
