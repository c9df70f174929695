-- What a client makes of all that came back for a call, whatever the bytes are.
use Rattle.std.specs.Prelude.{◌≡◌, ◌⊎◌, ℕ, List, Option, Some, None}
use Rattle.envelopes.specs.declared.acknowledgement.Ack.{Ack}
use Rattle.envelopes.specs.declared.envelope.Envelope.{Envelope}
use Rattle.remote.specs.Remotes.{RemoteParts, having_acknowledged, having_received}
use Rattle.remote.specs.Calls.{IsCallAt}
use Rattle.remote.specs.Replies.{Acknowledges, IsAcknowledged, IsFromServer, IsNew, IsOwed, IsReplied}
use Rattle.remote.specs.Replies.{RefusesAck, RefusesReply}
use Rattle.remote.specs.declared.fault.AcceptFault.{AcceptFault}
use Rattle.remote.specs.declared.fault.AcceptFault.TheVariants.{Unanswered}
use Rattle.remote.specs.declared.fault.AcceptFault.TheVariants.{NotOwed}

-- The call is acknowledged, and no reply is owed to it.
pub record IsSettled (r : RemoteParts) (number : ℕ) (ack : List ℕ) (r' : RemoteParts) : Type 0 where
  pub call : Envelope
  pub acknowledgement : Ack
  pub acknowledged : IsAcknowledged r number ack call acknowledgement r'
  pub unowed : ¬ IsOwed call.body

-- The call is acknowledged, and then its reply received: this is its body, and the text of the client's
-- acknowledgement of it.
pub record IsAnswered (r : RemoteParts) (number : ℕ) (ack bytes body receipt : List ℕ) (r' : RemoteParts)
    : Type 0 where
  pub call : Envelope
  pub acknowledgement : Ack
  pub between : RemoteParts
  pub acknowledged : IsAcknowledged r number ack call acknowledgement between
  pub owed : IsOwed call.body
  pub replied : IsReplied between call acknowledgement bytes body receipt r'

-- What is handed out for the call with a number, where these bytes came back, an acknowledgement and a reply
-- if one came.
abbrev pub Accepts : RemoteParts → (number : ℕ) (ack : List ℕ) (bytes : Option (List ℕ))
    → (body : Option (List ℕ)) → (receipt : List ℕ) → RemoteParts → Type 0
Accepts r number ack None None receipt r' = IsSettled r number ack r'
Accepts r number ack None (Some body) receipt r' = ⊥
Accepts r number ack (Some bytes) None receipt r' = ⊥
Accepts r number ack (Some bytes) (Some body) receipt r' = IsAnswered r number ack bytes body receipt r'

-- Why an acknowledged call isn't answered. Unanswered: a reply is owed, and none came. NotOwed: one came, and
-- none is owed; it wasn't looked at.
abbrev pub StopsAtReply : RemoteParts → (call : Envelope) (a : Ack) (bytes : Option (List ℕ)) → AcceptFault
    → RemoteParts
    → Type 0
StopsAtReply r call a None Unanswered r' = IsOwed call.body × (r' ≡ r)
StopsAtReply r call a None _ r' = ⊥
StopsAtReply r call a (Some bytes) NotOwed r' = (¬ IsOwed call.body) × (r' ≡ r)
StopsAtReply r call a (Some bytes) fault r' = IsOwed call.body × RefusesReply r call a bytes fault r'

-- It was acknowledged, and then its reply wasn't taken.
pub record IsUnanswered (r : RemoteParts) (number : ℕ) (ack : List ℕ) (bytes : Option (List ℕ))
    (fault : AcceptFault) (r' : RemoteParts)
    : Type 0 where
  pub call : Envelope
  pub acknowledgement : Ack
  pub between : RemoteParts
  pub acknowledged : IsAcknowledged r number ack call acknowledgement between
  pub stops : StopsAtReply between call acknowledgement bytes fault r'

-- Why nothing is handed out, and what is left.
abbrev pub Refuses : RemoteParts → (number : ℕ) (ack : List ℕ) (bytes : Option (List ℕ)) → AcceptFault
    → RemoteParts
    → Type 0
Refuses r number ack bytes fault r' =
    RefusesAck r number ack fault r' ⊎ IsUnanswered r number ack bytes fault r'

-- ---- whatever becomes of it

-- An acknowledgement of a call that the server signed is logged.
pub record LogsAck (r : RemoteParts) (number : ℕ) (r' : RemoteParts) : Type 0 where
  pub call : Envelope
  pub is_call : IsCallAt r number call
  pub bytes : List ℕ
  pub ack : Ack
  pub acknowledges : Acknowledges r call bytes ack
  pub logged : r' ≡ having_acknowledged r ack

-- An envelope to the client that the server signed is logged, whose message is new to it.
pub record LogsReply (r r' : RemoteParts) : Type 0 where
  pub bytes : List ℕ
  pub envelope : Envelope
  pub from : IsFromServer r bytes envelope
  pub new : IsNew r envelope
  pub logged : r' ≡ having_received r envelope

-- What the client is afterwards: as it was, or with the ACK of the call; then as it is, or with the RECV of
-- an envelope from the server. Nothing else is logged.
pub record LogsNoMore (r : RemoteParts) (number : ℕ) (r' : RemoteParts) : Type 0 where
  pub between : RemoteParts
  pub first : (between ≡ r) ⊎ LogsAck r number between
  pub second : (r' ≡ between) ⊎ LogsReply between r'
