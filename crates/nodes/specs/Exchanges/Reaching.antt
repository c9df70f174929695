-- What one node shows reaches another that hasn't had it yet.
use Rattle.std.specs.Prelude.{◌≡◌, ◌⊎◌, ◌≤◌, ◌==◌, if◌then◌else◌, ℕ, List, Result, Ok, Err, Some}
use Rattle.std.specs.Prelude.{None, IsSome}
use Rattle.std.specs.List.{AllByRecursion}
use Rattle.std.specs.FinMap.{get}
use Rattle.authenticator.specs.declared.member.Kind.{Kind}
use Rattle.authenticator.specs.declared.member.Kind.TheVariants as kinds
use Rattle.authenticator.specs.declared.member.LogVersion.{LogVersion}
use Rattle.authenticator.specs.Numbers.{number_in}
use Rattle.secure_log.specs.LogEntries.Chain.{Logged, span}
use Rattle.secure_log.specs.declared.log_entries.entry.Entry.{Entry}
use Rattle.secure_log.specs.declared.log_entries.entry.Entry.TheVariants.{Send, Recv, Ack as Acked, Clock}
use Rattle.secure_log.specs.declared.log_entries.entry.Entry.TheVariants.{Check}
use Rattle.envelopes.specs.Envelope.{envelope_message}
use Rattle.envelopes.specs.declared.envelope.Envelope.{Envelope}
use Rattle.envelopes.specs.declared.acknowledgement.Ack.{Ack}
use Rattle.commitment.specs.Senders.LookUps.{FitsSend, ack_at, envelope_at}
use Rattle.commitment.specs.Received.{receipt_of}
use Rattle.commitment.specs.declared.refusal.Refusal.{Refusal}
use Rattle.commitment.specs.declared.refusal.Refusal.TheVariants.{GapTooWide, NoMemory}
use Rattle.node_logs.specs.Steps.Nodes.{NodeParts, log_of, sender_of}
use Rattle.node_logs.specs.Nodes.{LacksNumbers}
use Rattle.node_logs.specs.AckTaking.{with_ack}
use Rattle.node_logs.specs.declared.outcome.Receipt.{Receipt}
use Rattle.node_logs.specs.declared.outcome.AckTaken.{AckTaken}
use Rattle.node_logs.specs.declared.outcome.AckTaken.TheVariants as taken
use Rattle.nodes.specs.Exchanges.Members.{IsListed}

-- the number, in a sender's log of this version, of the message that an entry received from it; 0 of other
-- entries
abbrev pub number_from : LogVersion → (from : ℕ) → Entry → ℕ
number_from v from (Send to body) = 0
number_from v from (Recv sender seq prev body signature) = if sender == from then number_in v seq else 0
number_from v from (Acked to seq mine number prev signature) = 0
number_from v from (Clock seconds microseconds) = 0
number_from v from (Check digest) = 0

-- Each message that these entries received from a node has at most this number in that node's log, which is of
-- this version. Messages of others may have any.
abbrev pub ReceivesUpTo : LogVersion → (from limit : ℕ) → List Logged → Type 0
ReceivesUpTo v from limit log = AllByRecursion (λ l. number_from v from l.entry ≤ limit) log

-- The envelope that a node shows at a number reaches another: it is to that node, which lists its sender, and
-- hasn't received its message.
pub record Reaches (a : NodeParts) (kind : Kind) (number : ℕ) (b : NodeParts) (e : Envelope) : Type 0 where
  pub envelope : envelope_at (sender_of a) number ≡ Some e
  pub receiver : e.to ≡ b.node
  pub two : ¬ (a.node ≡ b.node)
  pub listed : IsListed b.roster kind a
  pub new : receipt_of (log_of b) (envelope_message e) ≡ None

-- The acknowledgement that a node shows at a number reaches another: it is of a SEND of that node's log,
-- which awaits it, and lists its signer.
pub record AckReaches (a : NodeParts) (kind : Kind) (number : ℕ) (b : NodeParts) (k : Ack) : Type 0 where
  pub ack : ack_at (sender_of a) number ≡ Some k
  pub fits : FitsSend (sender_of b) k
  pub listed : IsListed b.roster kind a
  pub awaited : IsSome (get b.state.sends k.seq)

-- what became of an acknowledgement, where each refusal is told by another word, and so is one that is there
-- already
abbrev pub ack_told : {F : Type 0} (told : Refusal → F) (twice : F) → Result AckTaken Refusal
    → Result (Unit {0}) F
ack_told told twice (Ok (taken.Logged number)) = Ok tt
ack_told told twice (Ok taken.Already) = Err twice
ack_told told twice (Err refusal) = Err (told refusal)

-- A node takes an acknowledgement; or is refused memory and stays, or its log has no number for the ACK, and it
-- stays too. No key is needed.
abbrev pub IsTaken : {F : Type 0} (told : Refusal → F) → NodeParts → Ack → Result (Unit {0}) F → NodeParts
    → Type 0
IsTaken told n a answer n' =
    ((answer ≡ Ok tt) × (n' ≡ with_ack n a))
    ⊎ ((answer ≡ Err (told NoMemory)) × (n' ≡ n))
    ⊎ ((answer ≡ Err (told GapTooWide)) × LacksNumbers 1 n × (n' ≡ n))

-- what a server answers to a message, by the numbers of its log
abbrev pub ServerReceipt : Type 0
ServerReceipt = Receipt

-- A reply that the server sent at a number awaits its acknowledgement, and reaches the client.
pub record IsReplyReady (c s : NodeParts) (number : ℕ) : Type 0 where
  pub envelope : Envelope
  pub reaches : Reaches s kinds.Server number c envelope
  pub numbered : number_in s.log_version envelope.seq ≡ number
  pub within : number ≤ span s.entries
  pub client : IsListed s.roster kinds.Client c
  pub awaited : IsSome (get s.state.sends envelope.seq)
