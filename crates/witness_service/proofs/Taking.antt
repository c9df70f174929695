-- What a cache keeps after packets were taken or refused.
-- Serves: admit.
use Rattle.std.proofs.Common.{◌≡◌, ◌⊎◌, inl, inr, List, Result, Ok, Err, Option, Some, None}
use Rattle.std.specs.Prelude.{IfSome}
use Rattle.authenticator.specs.Roster.{member_of}
use Rattle.authenticator.specs.declared.authenticator.Authenticator.{Authenticator}
use Rattle.authenticator.specs.declared.member.Member.{Member}
use Rattle.authenticator.specs.declared.refusal.Refusal.{Refusal}
use Rattle.packets.specs.Packet.{Delivery, delivery_shows}
use Rattle.packets.specs.Uses.{MayUse as MayUseBy}
use Rattle.witness_service.specs.Caching.{CacheParts, MayKeep, MayUse, key_text}

-- the cache as it was, or with one key used, whoever is to have signed
at_most : (old new : CacheParts) (a : Authenticator) (m : Option Member)
    → (new ≡ old) ⊎ IfSome m (λ m. MayUse (key_text m.root m.height a) old new)
    → IfSome m (λ m. MayUse (key_text m.root m.height a) old new)
at_most old new a None h = tt
at_most old new a (Some m) (inl same) = inl same
at_most old new a (Some m) (inr used) = used

-- what checking a packet's signature may leave is what a cache may keep of it
pub may_keep : (ms : List Member) (owed : Result Delivery Refusal) (old new : CacheParts)
    → MayUseBy (λ (old : CacheParts) (m : Member) (a : Authenticator) (new : CacheParts).
    MayUse (key_text m.root m.height a) old new) ms owed old new
    → MayKeep ms owed old new
may_keep ms (Ok d) old new h = at_most old new (delivery_shows d) (member_of ms (delivery_shows d).node) h
may_keep ms (Err refusal) old new h = h
