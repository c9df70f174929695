-- Claims that follow others.
-- Serves: the steps of a round of replays.
use Rattle.std.proofs.Common.{◌≡◌, ◌∙◌, sym, ap, inl, inr, List, [], ◌∷◌, ◌++◌, append_assoc, append-nil}
use Rattle.witness_books.specs.node_book.witness_spec.Events.{Event}
use Rattle.witness_books.specs.node_book.witness_spec.Replies.{Reply}
use Rattle.witness_service.specs.Claims.{Claim, Keeps}
use Rattle.witness_calls.specs.Telling.{Extends}

-- nothing was added
pub extends_none : (old new : List Claim) → new ≡ old → Extends old new
extends_none old new same = record { more = []; is = same ∙ sym (append-nil old) }

-- what was added twice was added
pub extends_on : (a b c : List Claim) → Extends a b → Extends b c → Extends a c
extends_on a b c first then = record {
  more = first.more ++ then.more;
  is = then.is ∙ ap (λ l. l ++ then.more) first.is ∙ append_assoc a first.more then.more;
}

-- a step keeps the claims before it
pub kept_extends : (old : List Claim) (event : Event) (reply : Reply) (new : List Claim)
    → Keeps old event reply new → Extends old new
kept_extends old event reply new (inl k) = record {
  more = record { place = k.place; step = (event, reply) } ∷ [];
  is = k.claims;
}
kept_extends old event reply new (inr k) = extends_none old new k.stays
