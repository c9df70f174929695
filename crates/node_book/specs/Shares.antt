-- What an outbox keeps of its shares.
use Rattle.std.specs.Prelude.{ℕ, Bool, ◌&&◌, ◌==◌, nat_lt, List, [], ◌∷◌, length, flat_map}
use Rattle.std.specs.Global.{Global, Vec}
use Rattle.std.specs.Arc.{arc_value}
use Rattle.std.specs.List.{list_all}
use Rattle.std.specs.declared.sync.Arc.{Arc}
use Rattle.authenticator.specs.declared.authenticator.Authenticator.{Authenticator}

-- authenticators that several own
abbrev pub Share : Type 0
Share = Arc (Vec Authenticator) Global

-- the authenticators of a share
abbrev pub items_of : Share → List Authenticator
items_of share = (arc_value {X = Vec Authenticator} share).items

-- those of all shares, in order
abbrev pub all_items : List Share → List Authenticator
all_items shares = flat_map items_of shares

-- a share has an authenticator
abbrev pub is_filled : Share → Bool
is_filled share = nat_lt 0 (length (items_of share))

-- Those that were taken are the first share's, and not all of them; each share has an authenticator.
abbrev pub is_begun : List Share → (taken : ℕ) → Bool
is_begun [] taken = taken == 0
is_begun (share ∷ rest) taken = nat_lt taken (length (items_of share)) && list_all is_filled rest
