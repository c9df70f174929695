-- What is kept of a call to tell its acknowledgement and its reply by.
use Rattle.std.specs.Prelude.{◌≡◌, ℕ, List, take, Option, Some, None}
use Rattle.envelopes.specs.Checking.{IsAckText, IsTextOf}
use Rattle.envelopes.specs.declared.acknowledgement.Ack.{Ack}
use Rattle.envelopes.specs.declared.envelope.Envelope.{Envelope}
use Rattle.remote.specs.Replies.{IsOwed}
use Rattle.remote.specs.declared.sent.Sent.{Sent}
use Rattle.remote.specs.declared.fault.AcceptFault.{AcceptFault}
use Rattle.remote.specs.declared.fault.AcceptFault.TheVariants.{NotAcknowledged, Unanswered, NoMemory}

-- The transaction id of a call, its first four bytes, where a reply is owed to it.
abbrev pub IsXidOwed : List ℕ → Option (List ℕ) → Type 0
IsXidOwed body None = ¬ IsOwed body
IsXidOwed body (Some xid) = IsOwed body × (xid ≡ take 4 body)

-- What is kept is of this call: its word, and its transaction id where a reply is owed.
pub record IsKeptOf (call : Envelope) (s : Sent) : Type 0 where
  pub word : s.word ≡ call.seq
  pub xid : IsXidOwed call.body s.xid

-- The bytes are the text of an acknowledgement by this server of this word.
pub record IsAckBy (server word : ℕ) (bytes : List ℕ) (a : Ack) : Type 0 where
  pub text : IsAckText bytes a
  pub signer : a.by ≡ server
  pub of_word : a.seq ≡ word

-- Why none was read: they aren't the text of one, or memory was refused.
abbrev pub NotAckBy : (server word : ℕ) (bytes : List ℕ) → AcceptFault → Type 0
NotAckBy server word bytes NotAcknowledged = (a : Ack) → ¬ IsAckBy server word bytes a
NotAckBy server word bytes NoMemory = Unit {0}
NotAckBy server word bytes _ = ⊥

-- The bytes are the text of an envelope from this server.
pub record IsTextFrom (server : ℕ) (bytes : List ℕ) (e : Envelope) : Type 0 where
  pub text : IsTextOf bytes e
  pub sender : e.from ≡ server

-- Why none was read.
abbrev pub NotTextFrom : (server : ℕ) (bytes : List ℕ) → AcceptFault → Type 0
NotTextFrom server bytes Unanswered = (e : Envelope) → ¬ IsTextFrom server bytes e
NotTextFrom server bytes NoMemory = Unit {0}
NotTextFrom server bytes _ = ⊥
