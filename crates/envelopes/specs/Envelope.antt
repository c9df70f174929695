-- Envelopes: messages between nodes, each signed where its sender logged it.
use Rattle.std.specs.Prelude.{true}
use Rattle.sha2.specs.Sha256.{sha256}
use Rattle.xdr.specs.Item.{Item, Value, word, fixed, opaque, pair}
use Rattle.xdr.specs.Texts.Text.{Text}
use Rattle.secure_log.specs.merkle_keys.Signing.{signature_item, signature_value}
use Rattle.secure_log.specs.authenticator.Numbers.{number_item}
use Rattle.secure_log.specs.authenticator.declared.authenticator.Authenticator.{Authenticator}
use Rattle.secure_log.specs.declared.log_entries.entry.TheConstants.{MAX_BODY}
use Rattle.secure_log.specs.LogEntries.Messages.{message_hash}
use Rattle.envelopes.specs.declared.envelope.Envelope.{Envelope}
use Rattle.envelopes.specs.declared.envelope.EnvelopeRef.{EnvelopeRef}
use Rattle.envelopes.specs.declared.message.Message.{Message}

-- An envelope in a text (RFC 4506): its sender, its receiver, its word in the sender's log, the hash before
-- that, the body, and the sender's signature.
abbrev pub envelope_item : Item
envelope_item =
    pair word (pair word (pair number_item (pair (fixed 32) (pair (opaque MAX_BODY) signature_item))))

-- what the text says
abbrev pub envelope_value : Envelope → Value envelope_item
envelope_value e = (e.from, (e.to, (e.seq, (e.prev, (e.body, signature_value e.signature)))))

-- its text, after which nothing may follow
abbrev pub envelope_text : Text
envelope_text = record { item = envelope_item; test = λ _. true }

-- The message in it: its sender, its word there, and the hash of the sender's log after its SEND.
abbrev pub envelope_message : Envelope → Message
envelope_message e =
    record { from = e.from; seq = e.seq; hash = message_hash e.to e.seq e.prev (sha256 e.body) }

-- The authenticator of its sender that an envelope shows: that its log has the SEND at this word.
abbrev pub envelope_shows : Envelope → Authenticator
envelope_shows e = record {
  node = e.from;
  word = e.seq;
  hash = message_hash e.to e.seq e.prev (sha256 e.body);
  signature = e.signature;
}

-- the envelope of which this is a view
abbrev pub envelope_in : EnvelopeRef → Envelope
envelope_in e = record {
  from = e.from;
  to = e.to;
  seq = e.seq;
  prev = e.prev;
  body = e.body.now;
  signature = e.signature.now;
}
