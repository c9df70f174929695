-- Messages within their bounds: those that a text can hold.
use Rattle.std.specs.Prelude.{ℕ}
use Rattle.xdr.specs.Item.{Fits}
use Rattle.state_spec.specs.State.{ReceivedMessage, SentMessage}
use Rattle.state_spec.specs.StateItems.{received_item, received_value, sent_item, sent_value}

-- sender and number are a word and a hyper, and the hash has 32 bytes
abbrev pub ReceivedFits : ReceivedMessage → Type 0
ReceivedFits m = Fits received_item (received_value m)

-- so are a number and a receiver, and both digests have 32 bytes
abbrev pub SentFits : ℕ × SentMessage → Type 0
SentFits e = Fits sent_item (sent_value e)
