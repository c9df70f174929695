-- What checking the signature of a packet may leave.
use Rattle.std.specs.Prelude.{◌≡◌, ◌⊎◌, List, IfSome, Result, Ok, Err}
use Rattle.envelopes.specs.secure_log.authenticator.Roster.{member_of}
use Rattle.envelopes.specs.secure_log.authenticator.declared.authenticator.Authenticator.{Authenticator}
use Rattle.envelopes.specs.secure_log.authenticator.declared.member.Member.{Member}
use Rattle.envelopes.specs.secure_log.authenticator.declared.refusal.Refusal.{Refusal}
use Rattle.packets.specs.Packet.{Delivery, delivery_shows}

-- What is there after a packet is taken or refused is what was there, or what may be there once the signature
-- that the packet shows was found to be that of the member who signs it.
abbrev pub MayUse : {S : Type 0} → (uses : S → Member → Authenticator → S → Type 0) → List Member
    → Result Delivery Refusal → (old new : S) → Type 0
MayUse uses ms (Ok d) old new = (new ≡ old) ⊎
    IfSome (member_of ms (delivery_shows d).node) (λ m. uses old m (delivery_shows d) new)
MayUse uses ms (Err refusal) old new = new ≡ old
