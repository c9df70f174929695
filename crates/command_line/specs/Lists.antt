-- Lists in words, with commas between their items.
use Rattle.std.specs.Prelude.{◌≡◌, ◌==◌, ◌<◌, ⊤, List, [], ◌∷◌, Option, Some, None, length, option_map}
use Rattle.std.specs.List.{after_first, before_first, position_or_len, slice_split}
use Rattle.clap.specs.Walk.{Text}
use Rattle.command_line.specs.ServeOrders.{Writes}
use Rattle.command_line.specs.declared.lists.Items.{Items}
use Rattle.command_line.specs.declared.lists.Peer.{Peer}

-- the items of a list, between its commas (44)
abbrev pub items_of : Text → List Text
items_of list = slice_split (λ b. b == 44) list

-- the items of what is left of a list: none after its last one
abbrev pub items_left : Option Text → List Text
items_left None = []
items_left (Some rest) = items_of rest

abbrev pub left_of : Items → List Text
left_of items = items_left (option_map (λ s. s.now) items.rest)

-- the hosts in an option's word; none without the option
abbrev pub hosts_named : Option Text → List Text
hosts_named None = []
hosts_named (Some list) = items_of list

-- A text names a party: its number, `=` (61), and where it listens.
pub record IsPeer (text : Text) (p : Peer) : Type 0 where
  pub sign : position_or_len (λ b. b == 61) text < length text
  pub node : Writes 1 64 (before_first (λ b. b == 61) text) p.node
  pub host : p.host.now ≡ after_first (λ b. b == 61) text

-- texts name parties, one each
abbrev pub ArePeers : List Text → List Peer → Type 0
ArePeers [] [] = ⊤
ArePeers (t ∷ ts) (p ∷ ps) = IsPeer t p × ArePeers ts ps
ArePeers _ _ = ⊥
