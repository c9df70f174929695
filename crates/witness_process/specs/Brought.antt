-- Whose book a packet is for, by its first words.
use Rattle.std.specs.Prelude.{◌≡◌, ℕ, List, Option, Some}
use Rattle.packets.specs.Packet.{Delivery, Learn, SendChallenge, Answer, AckIn, Says}

-- The node that the first words of a packet name: of an envelope its receiver, else the one that stands first.
abbrev pub named_node : Delivery → ℕ
named_node (Learn a) = a.node
named_node (SendChallenge e) = e.to
named_node (Answer s) = s.node
named_node (AckIn a) = a.by

-- Where bytes are a packet, it is this node's.
abbrev pub Names : (packet : List ℕ) → Option ℕ → Type 0
Names packet whom = (d : Delivery) → Says packet d → whom ≡ Some (named_node d)
