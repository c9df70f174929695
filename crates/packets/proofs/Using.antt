-- What checking signatures may leave, after a packet and after what stands behind its number.
-- Serves: read_packet_by.
use Rattle.std.proofs.Common.{◌≡◌, inl, ℕ, List, Result, Ok, Err, sym, subst}
use Rattle.xdr.specs.Reading.{number_at}
use Rattle.envelopes.specs.secure_log.authenticator.declared.authenticator.Authenticator.{Authenticator}
use Rattle.envelopes.specs.secure_log.authenticator.declared.member.Member.{Member}
use Rattle.envelopes.specs.secure_log.authenticator.declared.refusal.Refusal.{Refusal}
use Rattle.packets.specs.Packet.{Delivery, content_at}
use Rattle.packets.specs.Judging.{judged, judged_option}
use Rattle.packets.specs.Uses.{MayUse}
use Rattle.packets.proofs.Judged.{behind}

-- what may be left after a packet's content may be left after the packet
pub used_after : {S : Type 0} (uses : S → Member → Authenticator → S → Type 0) (ms : List Member)
    (bytes : List ℕ) (n : ℕ) (rest : List ℕ) (old new : S) → number_at 4 bytes ≡ Ok (n, rest)
    → MayUse uses ms (judged_option ms (content_at n rest)) old new
    → MayUse uses ms (judged ms bytes) old new
used_after uses ms bytes n rest old new read used =
    subst (λ (o : Result Delivery Refusal). MayUse uses ms o old new) (sym (behind ms bytes n rest read)) used

-- what was there may be left
pub may_stay : {S : Type 0} (uses : S → Member → Authenticator → S → Type 0) (ms : List Member)
    (o : Result Delivery Refusal) (old new : S) → new ≡ old → MayUse uses ms o old new
may_stay uses ms (Ok d) old new same = inl same
may_stay uses ms (Err refusal) old new same = same
