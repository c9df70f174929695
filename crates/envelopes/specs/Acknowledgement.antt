-- Acknowledgements: that a node logged a message, signed where it did.
use Rattle.std.specs.Prelude.{true}
use Rattle.xdr.specs.Item.{Item, Value, word, fixed, pair}
use Rattle.xdr.specs.Texts.Text.{Text}
use Rattle.secure_log.specs.merkle_keys.Signing.{signature_item, signature_value}
use Rattle.secure_log.specs.authenticator.Numbers.{number_item}
use Rattle.secure_log.specs.authenticator.declared.authenticator.Authenticator.{Authenticator}
use Rattle.secure_log.specs.LogEntries.Messages.{message_hash, receipt_hash}
use Rattle.envelopes.specs.declared.acknowledgement.Ack.{Ack}
use Rattle.envelopes.specs.declared.acknowledgement.AckRef.{AckRef}
use Rattle.envelopes.specs.declared.message.Message.{Message}

-- What an acknowledgement says of the message, in a text (RFC 4506): its sender, its word in the sender's
-- log, the hash before it there, and the digests of its body and of its signature's text.
abbrev pub acked_item : Item
acked_item = pair word (pair number_item (pair (fixed 32) (pair (fixed 32) (pair (fixed 32) signature_item))))

-- An acknowledgement in a text (RFC 4506): who has the message, the word of its RECV there, the hash before
-- that, what it says of the message, and the signature of the RECV.
abbrev pub ack_item : Item
ack_item = pair word (pair number_item (pair (fixed 32) acked_item))

-- what the text says of the message
abbrev pub acked_value : Ack → Value acked_item
acked_value a =
    (a.from, (a.seq, (a.sender_prev, (a.body_hash, (a.signature_hash, signature_value a.signature)))))

-- what the text says
abbrev pub ack_value : Ack → Value ack_item
ack_value a = (a.by, (a.number, (a.prev, acked_value a)))

-- its text, after which nothing may follow
abbrev pub ack_text : Text
ack_text = record { item = ack_item; test = λ _. true }

-- The message that was received: its sender, its word there, and the hash of the sender's log after its
-- SEND to this node.
abbrev pub acked_message : Ack → Message
acked_message a =
    record { from = a.from; seq = a.seq; hash = message_hash a.by a.seq a.sender_prev a.body_hash }

-- The authenticator of the receiver that an acknowledgement shows: that its log has the RECV at this word.
abbrev pub ack_shows : Ack → Authenticator
ack_shows a = record {
  node = a.by;
  word = a.number;
  hash = receipt_hash a.from a.seq a.sender_prev a.body_hash a.signature_hash a.number a.prev;
  signature = a.signature;
}

-- the acknowledgement of which this is a view
abbrev pub ack_in : AckRef → Ack
ack_in a = record {
  by = a.by;
  number = a.number;
  prev = a.prev;
  from = a.from;
  seq = a.seq;
  sender_prev = a.sender_prev;
  body_hash = a.body_hash;
  signature_hash = a.signature_hash;
  signature = a.signature.now;
}
