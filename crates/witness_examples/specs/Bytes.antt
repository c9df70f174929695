-- Packets of a client whose signature isn't one under its key.
use Rattle.std.specs.Prelude.{ℕ, List, [], replicate}
use Rattle.merkle_keys.specs.Signing.{SignatureParts}
use Rattle.authenticator.specs.declared.authenticator.Authenticator.{Authenticator}
use Rattle.packets.specs.Packet.{Learn, packet_text}

-- so many zero bytes
unfoldable pub zero_bytes : ℕ → List ℕ
zero_bytes n = replicate n 0

-- a signature of the right size, without a path: under no key of height 1
abbrev pub pathless : SignatureParts
pathless = record { leaf = 0; shown = zero_bytes 8_192; other = zero_bytes 8_192; path = [] }

-- an authenticator of a node with that signature
abbrev pub forged : (node : ℕ) → Authenticator
forged node = record { node = node; word = 3; hash = zero_bytes 32; signature = pathless }

-- the packet that delivers it
abbrev pub forged_packet : (node : ℕ) → List ℕ
forged_packet node = packet_text (Learn (forged node))
