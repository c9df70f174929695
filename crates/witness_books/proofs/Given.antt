-- What books give in reply, where one reply alone is owed.
-- Serves: what_is_owed_is_given.
use Rattle.std.proofs.Common.{◌≡◌, ◌⊎◌, inl, inr, ◌↔◌}
use Rattle.node_book.specs.witness_spec.Events.{Event}
use Rattle.node_book.specs.witness_spec.Replies.{Reply}
use Rattle.node_book.specs.witness_spec.Starting.{Beginning}
use Rattle.node_book.specs.witness_spec.Histories.{History, IsOwed, IsWanting}

-- what is owed is the one reply, unless memory ran out
pub owed_alone : (g : Beginning) (history : History) (event : Event) (owed reply : Reply)
    → ((r : Reply) → IsOwed g history event r ↔ (r ≡ owed))
    → IsOwed g history event reply ⊎ IsWanting event reply → (reply ≡ owed) ⊎ IsWanting event reply
owed_alone g history event owed reply alone (inl o) = inl ((alone reply).0 o)
owed_alone g history event owed reply alone (inr w) = inr w
