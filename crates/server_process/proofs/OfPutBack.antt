-- What a server was asked with shows that its log was put back.
-- Serves: lost, signed_before, Held::answer.
use Rattle.std.proofs.Common.{◌≡◌, ℕ, List, Option, Result, Ok, Some, None, refl, subst}
use Rattle.std.specs.Prelude.{IfNone, IsSome}
use Rattle.authenticator.specs.Signed.{authenticator_value}
use Rattle.authenticator.specs.declared.authenticator.Authenticator.{Authenticator}
use Rattle.secure_log.proofs.Texts.{same_authenticator}
use Rattle.node_logs.specs.Nodes.{NodeParts}
use Rattle.nodes.specs.Lost.{IsLost}
use Rattle.nodes.specs.Shareds.{HasNotStrayed}
use Rattle.peer_calls.specs.NodeRequests.{NodeAsk, Stands}
use Rattle.rpc.specs.declared.reply.ReplyBody.{ReplyBody}
use Rattle.server_process.specs.PutBack.{Claims, IsPutBack, WasSignedBefore}

pub signed_before : (n : NodeParts) (bytes : List ℕ) (a : Authenticator) (number : ℕ) → Claims bytes a
    → IsLost n a number → WasSignedBefore n bytes number
signed_before n bytes a number claims lost = record { authenticator = a; claims = claims; lost = lost }

pub is_put_back : (n : NodeParts) (bytes : List ℕ) (number : ℕ) → HasNotStrayed n → WasSignedBefore n bytes number
    → IsPutBack number
is_put_back n bytes number straight was = (n, (bytes, (straight, was)))

-- what two results that are one say of STANDS is one
same_asked : (a b : Authenticator)
    → ◌≡◌ {A = Result NodeAsk ReplyBody} (Ok (Stands (authenticator_value a))) (Ok (Stands (authenticator_value b)))
    → authenticator_value a ≡ authenticator_value b
same_asked a b same = cc

-- a record claims one authenticator
pub claims_one : (bytes : List ℕ) (a b : Authenticator) → Claims bytes a → Claims bytes b → a ≡ b
claims_one bytes a b one two = same_authenticator a b (same_asked a b (cc))

-- who shows nothing that the log lacks shows nothing that was signed before
pub not_lost : (n : NodeParts) (bytes : List ℕ) (a : Authenticator) → Claims bytes a
    → ((number : ℕ) → ¬ IsLost n a number) → (number : ℕ) → ¬ WasSignedBefore n bytes number
not_lost n bytes a claims none number was =
    none number (subst (λ (x : Authenticator). IsLost n x number) (claims_one bytes was.authenticator a was.claims claims)
    was.lost)

-- nor does who claims nothing
pub not_claimed : (n : NodeParts) (bytes : List ℕ) → ((a : Authenticator) → ¬ Claims bytes a) → (number : ℕ)
    → ¬ WasSignedBefore n bytes number
not_claimed n bytes none number was = none was.authenticator was.claims

-- what was shown is known where nothing else was said
pub is_known : {T : Type 0} (n : NodeParts) (bytes : List ℕ) (found : Option T)
    → IfNone found ((number : ℕ) → ¬ WasSignedBefore n bytes number) → (number : ℕ)
    → WasSignedBefore n bytes number → IsSome found
is_known n bytes None none number was = absurd (none number was)
is_known n bytes (Some k) none number was = refl

-- what holds at all holds where nothing was found
pub when_none : {T X : Type 0} (o : Option T) → X → IfNone o X
when_none None x = x
when_none (Some v) x = tt
