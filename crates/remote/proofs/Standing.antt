-- A call that stands in the client's log.
-- Serves: is_call_of.
use Rattle.std.proofs.Common.{◌≡◌, ◌↔◌, ℕ, List, sym, ap, ◌∙◌}
use Rattle.std.proofs.lemmas.Option.{same_Some}
use Rattle.envelopes.specs.declared.envelope.Envelope.{Envelope}
use Rattle.remote.specs.Remotes.{RemoteParts}
use Rattle.remote.specs.Calls.{IsCallAt, IsCallOf}

-- The SEND with a number is a call of a body exactly where that is the body of its envelope.
pub is_of_body : (r : RemoteParts) (number : ℕ) (call : Envelope) (body : List ℕ) → IsCallAt r number call
    → (call.body ≡ body) ↔ IsCallOf r number body
is_of_body r number call body at = (
  λ same. record { call = call; is_call = at; says = same },
  λ h. ap (λ (e : Envelope). e.body) (same_Some _ _ (sym at.shown ∙ h.is_call.shown)) ∙ h.says,
)
