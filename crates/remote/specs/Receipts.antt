-- What a client receives of its server for which no call waits.
use Rattle.std.specs.Prelude.{◌≡◌, ℕ, List, Some}
use Rattle.envelopes.specs.Envelope.{envelope_message}
use Rattle.envelopes.specs.declared.envelope.Envelope.{Envelope}
use Rattle.commitment.specs.Received.{receipt_of}
use Rattle.commitment.specs.declared.outcome.Received.{Received}
use Rattle.commitment.specs.declared.outcome.Received.TheVariants.{New, Repeat}
use Rattle.node_logs.specs.Nodes.{LacksKeys, LacksNumbers}
use Rattle.node_logs.specs.Steps.Nodes.{log_of}
use Rattle.remote.specs.Remotes.{RemoteParts}
use Rattle.remote.specs.Replies.{IsFromServer, IsNew, IsReceived}
use Rattle.remote.specs.declared.fault.AcceptFault.{AcceptFault}
use Rattle.remote.specs.declared.fault.AcceptFault.TheVariants.{NotAcknowledged, AcknowledgedTwice}
use Rattle.remote.specs.declared.fault.AcceptFault.TheVariants.{Unanswered, NotOwed, AnotherCall, Repeated}
use Rattle.remote.specs.declared.fault.AcceptFault.TheVariants.{KeysUsedUp, NoNumbers, NoMemory}

-- The bytes are an envelope from the server to the client that the server signed: it was received just now, or
-- before, by the RECV with this number; then nothing has changed.
abbrev pub Receives : RemoteParts → (bytes : List ℕ) → Received ℕ → RemoteParts → Type 0
Receives r bytes (New place) r' = (e : Envelope) × IsReceived r bytes e place r'
Receives r bytes (Repeat place) r' =
    (e : Envelope) ×
    (IsFromServer r bytes e × (receipt_of (log_of r.client) (envelope_message e) ≡ Some place)
    × (r' ≡ r))

-- Why it isn't received, and nothing has changed. Unanswered: the bytes are no such envelope. KeysUsedUp, NoNumbers:
-- its message is new, and no key or no number is left for the RECV.
abbrev pub RefusesReceiving : RemoteParts → (bytes : List ℕ) → AcceptFault → RemoteParts → Type 0
RefusesReceiving r bytes Unanswered r' = ((e : Envelope) → ¬ IsFromServer r bytes e) × (r' ≡ r)
RefusesReceiving r bytes KeysUsedUp r' =
    (e : Envelope) × (IsFromServer r bytes e × IsNew r e × LacksKeys 1 r.client × (r' ≡ r))
RefusesReceiving r bytes NoNumbers r' =
    (e : Envelope) × (IsFromServer r bytes e × IsNew r e × (¬ LacksKeys 1 r.client) × LacksNumbers 1 r.client
    × (r' ≡ r))
RefusesReceiving r bytes NoMemory r' = r' ≡ r
RefusesReceiving r bytes NotAcknowledged r' = ⊥
RefusesReceiving r bytes AcknowledgedTwice r' = ⊥
RefusesReceiving r bytes NotOwed r' = ⊥
RefusesReceiving r bytes (AnotherCall place) r' = ⊥
RefusesReceiving r bytes (Repeated place) r' = ⊥
