-- What a client sends to the server.
use Rattle.std.specs.Prelude.{◌≡◌, ◌⊎◌, ℕ, List, Result, Ok, Err, Some}
use Rattle.authenticator.specs.Numbers.{number_in}
use Rattle.envelopes.specs.declared.envelope.Envelope.{Envelope}
use Rattle.commitment.specs.Senders.LookUps.{envelope_at}
use Rattle.gateway.specs.declared.links.fault.LinkFault.{LinkFault}
use Rattle.gateway.specs.declared.links.fault.LinkFault.TheVariants.{KeysUsedUp, NoMemory, Failed}
use Rattle.node_logs.specs.Nodes.{LacksKeys, LacksNumbers, next_number, sender_of}
use Rattle.nodes.specs.Sides.{IsEnvelopeText}
use Rattle.remote.specs.Remotes.{RemoteParts, having_called}

-- The SEND with a number of the client's log is a call of the server, and this is its envelope, whose word
-- stands for that number.
pub record IsCallAt (r : RemoteParts) (number : ℕ) (call : Envelope) : Type 0 where
  pub shown : envelope_at (sender_of r.client) number ≡ Some call
  pub receiver : call.to ≡ r.server
  pub stands : number_in r.client.log_version call.seq ≡ number

-- The SEND with a number is a call of the server with this body.
pub record IsCallOf (r : RemoteParts) (number : ℕ) (body : List ℕ) : Type 0 where
  pub call : Envelope
  pub is_call : IsCallAt r number call
  pub says : call.body ≡ body

-- A call is begun, with two keys left, for it and for its reply: its SEND is logged with the next number, and
-- this is the text of its envelope.
pub record IsBegun (r : RemoteParts) (body : List ℕ) (number : ℕ) (text : List ℕ) (r' : RemoteParts)
    : Type 0 where
  pub left : ¬ LacksKeys 2 r.client
  pub numbers : ¬ LacksNumbers 1 r.client
  pub sent : r' ≡ having_called r body
  pub numbered : number ≡ next_number r.client
  pub call : Envelope
  pub stands : IsCallAt r' number call
  pub sender : call.from ≡ r.client.node
  pub says : call.body ≡ body
  pub written : IsEnvelopeText call text

-- Why none is begun, and what is left: KeysUsedUp exactly where fewer than two keys are left, else Failed
-- exactly where the log has no number for the SEND, and nothing has changed. Where memory is refused nothing
-- has changed, or the SEND stands.
abbrev pub StopsBeginning : RemoteParts → (body : List ℕ) → LinkFault → RemoteParts → Type 0
StopsBeginning r body KeysUsedUp r' = LacksKeys 2 r.client × (r' ≡ r)
StopsBeginning r body Failed r' = (¬ LacksKeys 2 r.client) × LacksNumbers 1 r.client × (r' ≡ r)
StopsBeginning r body NoMemory r' =
    (¬ LacksKeys 2 r.client) × ((r' ≡ r) ⊎ ((¬ LacksNumbers 1 r.client) × (r' ≡ having_called r body)))

-- What sending a call gives and leaves: the number of its SEND.
abbrev pub Begins : RemoteParts → (body : List ℕ) → Result ℕ LinkFault → RemoteParts → Type 0
Begins r body (Ok number) r' =
    (¬ LacksKeys 2 r.client) × (¬ LacksNumbers 1 r.client) × (r' ≡ having_called r body)
    × (number ≡ next_number r.client)
Begins r body (Err KeysUsedUp) r' = LacksKeys 2 r.client × (r' ≡ r)
Begins r body (Err Failed) r' = (¬ LacksKeys 2 r.client) × LacksNumbers 1 r.client × (r' ≡ r)
Begins r body (Err NoMemory) r' = (¬ LacksKeys 2 r.client) × (r' ≡ r)
