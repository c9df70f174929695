-- Handing what one node shows to another that awaits it, refused only when keys, memory or numbers run out.
-- Failed comes where numbers lack: it is tried last, and then nothing is logged.
use Rattle.std.specs.Prelude.{◌≡◌, ◌⊎◌, ◌≤◌, ℕ, List, length, None, Result, Ok, Err}
use Rattle.xdr.specs.Texts.Text.{Text, IsText}
use Rattle.xdr.specs.Item.{Value}
use Rattle.secure_log.specs.declared.log_entries.entry.TheConstants.{MAX_BODY}
use Rattle.envelopes.specs.Envelope.{envelope_text, envelope_value}
use Rattle.envelopes.specs.declared.envelope.Envelope.{Envelope}
use Rattle.envelopes.specs.declared.acknowledgement.Ack.{Ack}
use Rattle.commitment.specs.Receiver.{Finds}
use Rattle.commitment.specs.declared.refusal.Refusal.{Refusal}
use Rattle.commitment.specs.declared.refusal.Refusal.TheVariants as refusals
use Rattle.nfs_items.specs.Timeval.{Timeval}
use Rattle.node_logs.specs.Steps.Nodes.{NodeParts, next_number, receiver_of}
use Rattle.node_logs.specs.Nodes.{LacksKeys, LacksNumbers}
use Rattle.node_logs.specs.Receiving.{ReceivesEnvelope}
use Rattle.node_logs.specs.Steps.Serving.{entries_for}
use Rattle.node_logs.specs.Steps.Logging.{with_receipt, with_send}
use Rattle.node_logs.specs.AckTaking.{with_ack}
use Rattle.nodes.specs.Exchanges.Laws.{IsAccepted}
use Rattle.nodes.specs.Exchanges.Reaching.{ServerReceipt}
use Rattle.gateway.specs.declared.links.fault.LinkFault.{LinkFault}
use Rattle.gateway.specs.declared.links.fault.LinkFault.TheVariants.{KeysUsedUp, NoMemory, Failed}

-- A call wrote the text of a value, or was refused memory.
abbrev pub WritesText : (t : Text) → Value t.item → Result (Unit {0}) LinkFault → List ℕ → Type 0
WritesText t v (Ok x) bytes = IsText t v bytes
WritesText t v (Err KeysUsedUp) bytes = ⊥
WritesText t v (Err NoMemory) bytes = Unit {0}
WritesText t v (Err Failed) bytes = ⊥

-- A call made a copy of a value, or was refused memory.
abbrev pub IsCopyOf : {X : Type 0} → X → Result X LinkFault → Type 0
IsCopyOf x (Ok copy) = copy ≡ x
IsCopyOf x (Err KeysUsedUp) = ⊥
IsCopyOf x (Err NoMemory) = Unit {0}
IsCopyOf x (Err Failed) = ⊥

-- A call copied an envelope's body, or was refused memory.
abbrev pub CopiesBody : {X : Type 0} (bytes : X → List ℕ) → Envelope → Result X LinkFault → Type 0
CopiesBody bytes e (Ok x) = (bytes x ≡ e.body) × (length (bytes x) ≤ MAX_BODY)
CopiesBody bytes e (Err KeysUsedUp) = ⊥
CopiesBody bytes e (Err NoMemory) = Unit {0}
CopiesBody bytes e (Err Failed) = ⊥

-- A client sends a body: KeysUsedUp only where no key is left, Failed only where its log has no number for it.
abbrev pub SendsBody : NodeParts → (to : ℕ) (body : List ℕ) → Result ℕ LinkFault → NodeParts → Type 0
SendsBody c to body (Ok number) c' =
    (¬ LacksKeys 1 c) × (¬ LacksNumbers 1 c) × (c' ≡ with_send c to body) × (number ≡ next_number c)
SendsBody c to body (Err KeysUsedUp) c' = LacksKeys 1 c × (c' ≡ c)
SendsBody c to body (Err NoMemory) c' = c' ≡ c
SendsBody c to body (Err Failed) c' = (¬ LacksKeys 1 c) × LacksNumbers 1 c × (c' ≡ c)

-- A server receives an envelope that is new to it: KeysUsedUp only where fewer than two keys are left, Failed
-- only where its log lacks numbers for what it would log.
abbrev pub ReceivesNew : NodeParts → Timeval → Envelope → Result ServerReceipt LinkFault → NodeParts → Type 0
ReceivesNew s time e (Ok r) s' =
    (¬ LacksKeys 2 s) × (¬ LacksNumbers (entries_for e.body) s) × ReceivesEnvelope s time e r s'
ReceivesNew s time e (Err KeysUsedUp) s' = LacksKeys 2 s × (s' ≡ s)
ReceivesNew s time e (Err NoMemory) s' = s' ≡ s
ReceivesNew s time e (Err Failed) s' = (¬ LacksKeys 2 s) × LacksNumbers (entries_for e.body) s × (s' ≡ s)

-- A client receives an envelope that is new to it: KeysUsedUp only where no key is left, Failed only where its
-- log has no number for it.
abbrev pub TakesNew : NodeParts → Envelope → Result (Unit {0}) LinkFault → NodeParts → Type 0
TakesNew c e (Ok x) c' = (¬ LacksKeys 1 c) × (¬ LacksNumbers 1 c) × (c' ≡ with_receipt c e)
TakesNew c e (Err KeysUsedUp) c' = LacksKeys 1 c × (c' ≡ c)
TakesNew c e (Err NoMemory) c' = c' ≡ c
TakesNew c e (Err Failed) c' = (¬ LacksKeys 1 c) × LacksNumbers 1 c × (c' ≡ c)

-- A node takes an acknowledgement that it awaits. No key is needed; Failed comes only where its log has no number
-- for the ACK.
abbrev pub TakesAwaited : NodeParts → Ack → Result (Unit {0}) LinkFault → NodeParts → Type 0
TakesAwaited n a (Ok x) n' = n' ≡ with_ack n a
TakesAwaited n a (Err KeysUsedUp) n' = ⊥
TakesAwaited n a (Err NoMemory) n' = n' ≡ n
TakesAwaited n a (Err Failed) n' = LacksNumbers 1 n × (n' ≡ n)

-- ---- the same between any two nodes, whatever either received before: Failed comes where one refuses what
-- the other shows, or else lacks numbers for it, and then it is as it was

-- The bytes are an envelope's text, by which a node finds no message that is new to it, to it and signed.
abbrev pub IsRefused : NodeParts → (bytes : List ℕ) → Envelope → Type 0
IsRefused n bytes e =
    IsText envelope_text (envelope_value e) bytes × (¬ Finds (receiver_of n) bytes e None)

-- A server is handed an envelope by its text: KeysUsedUp only where fewer than two keys are left, Failed only
-- where it refuses it, or else its log lacks numbers for what it would log.
abbrev pub MayReceive : NodeParts → Timeval → (bytes : List ℕ) → Envelope → Result ServerReceipt LinkFault
    → NodeParts
    → Type 0
MayReceive s time bytes e (Ok r) s' =
    (¬ LacksKeys 2 s) × (¬ LacksNumbers (entries_for e.body) s) × ReceivesEnvelope s time e r s'
MayReceive s time bytes e (Err KeysUsedUp) s' = LacksKeys 2 s × (s' ≡ s)
MayReceive s time bytes e (Err NoMemory) s' = s' ≡ s
MayReceive s time bytes e (Err Failed) s' =
    (s' ≡ s) × (IsRefused s bytes e ⊎ ((¬ LacksKeys 2 s) × LacksNumbers (entries_for e.body) s))

-- A client is handed an envelope by its text: KeysUsedUp only where no key is left, Failed only where it refuses
-- it, or else its log has no number for it.
abbrev pub MayTake : NodeParts → (bytes : List ℕ) → Envelope → Result (Unit {0}) LinkFault → NodeParts
    → Type 0
MayTake c bytes e (Ok x) c' = (¬ LacksKeys 1 c) × (¬ LacksNumbers 1 c) × (c' ≡ with_receipt c e)
MayTake c bytes e (Err KeysUsedUp) c' = LacksKeys 1 c × (c' ≡ c)
MayTake c bytes e (Err NoMemory) c' = c' ≡ c
MayTake c bytes e (Err Failed) c' =
    (c' ≡ c) × (IsRefused c bytes e ⊎ ((¬ LacksKeys 1 c) × LacksNumbers 1 c))

-- A node is handed an acknowledgement. No key is needed; Failed comes only where it doesn't accept it, or else its
-- log has no number for the ACK.
abbrev pub MayTakeAck : NodeParts → Ack → Result (Unit {0}) LinkFault → NodeParts → Type 0
MayTakeAck n a (Ok x) n' = n' ≡ with_ack n a
MayTakeAck n a (Err KeysUsedUp) n' = ⊥
MayTakeAck n a (Err NoMemory) n' = n' ≡ n
MayTakeAck n a (Err Failed) n' = (n' ≡ n) × ((¬ IsAccepted n a) ⊎ LacksNumbers 1 n)

-- ---- refusals

-- a refusal as a fault of the link
abbrev pub fault_of : Refusal → LinkFault
fault_of refusals.Garbage = Failed
fault_of refusals.NotForMe = Failed
fault_of refusals.BadSignature = Failed
fault_of refusals.NoGaps = Failed
fault_of refusals.GapTooWide = Failed
fault_of refusals.KeysUsedUp = KeysUsedUp
fault_of refusals.NoMemory = NoMemory
