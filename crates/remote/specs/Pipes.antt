-- A server in the same process, at the other end of a pipe.
use Rattle.std.specs.Prelude.{◌≡◌, ℕ, false, List, Option, Some, None}
use Rattle.envelopes.specs.declared.envelope.Envelope.{Envelope}
use Rattle.nfs_items.specs.Timeval.{Timeval}
use Rattle.node_logs.specs.Nodes.{NodeParts}
use Rattle.nodes.specs.Exchanges.Exchanges.{IsServed}
use Rattle.nodes.specs.Sides.{IsEnvelopeText}
use Rattle.remote.specs.declared.courier.Carried.{Carried}
use Rattle.remote.specs.declared.courier.Carried.TheVariants.{Acknowledged, Answered}

-- the bytes that came for a reply, if any did
abbrev pub reply_in : Carried → (text : List ℕ) → Option (List ℕ)
reply_in Acknowledged text = None
reply_in Answered text = Some text

-- What came is the text of this envelope, or none came where there is none.
abbrev pub IsTextIn : Option Envelope → Carried → (bytes : List ℕ) → Type 0
IsTextIn None Acknowledged bytes = Unit {0}
IsTextIn None Answered bytes = ⊥
IsTextIn (Some e) Acknowledged bytes = ⊥
IsTextIn (Some e) Answered bytes = IsEnvelopeText e bytes

-- What a server gives for a call: the text of an envelope whose body, unless the server lies, is the reply
-- owed at that time, and its world is the one after it; or, where it gives none, none is owed.
abbrev pub Gives : NodeParts → Timeval → (call : Envelope) → Carried → (bytes : List ℕ) → NodeParts → Type 0
Gives s time call Acknowledged bytes s' = s.lies ≡ false → IsServed s time call.body None s'
Gives s time call Answered bytes s' =
    (e : Envelope) × (IsEnvelopeText e bytes × (s.lies ≡ false → IsServed s time call.body (Some e.body) s'))
