-- What holds of packets: each law is the contract of a function in src/laws.rt.
use Rattle.std.specs.Prelude.{Ok, ◌≡◌, ◌↔◌, ℕ, List, Result, Some}
use Rattle.xdr.specs.Item.{IsBytes}
use Rattle.envelopes.specs.secure_log.authenticator.declared.member.Member.{Member}
use Rattle.envelopes.specs.secure_log.authenticator.declared.refusal.Refusal.{Refusal}
use Rattle.packets.specs.Packet.{Delivery, Says, packet_text, delivery_of}
use Rattle.packets.specs.Judging.{judged, judged_delivery}
use Rattle.packets.specs.Taking.{Means}

-- Bytes are read as a packet exactly where they spell it and nothing more.
abbrev pub ReadAsSpelled : Type 0
ReadAsSpelled = (bytes : List ℕ) (d : Delivery) → IsBytes bytes → (delivery_of bytes ≡ Some d) ↔ Says bytes d

-- They are one packet at most.
abbrev pub OneDelivery : Type 0
OneDelivery = (bytes : List ℕ) (c d : Delivery) → IsBytes bytes → Says bytes c → Says bytes d → c ≡ d

-- A packet has one text.
abbrev pub OneText : Type 0
OneText = (bytes : List ℕ) (d : Delivery) → Says bytes d → bytes ≡ packet_text d

-- What bytes are taken for is what it means, and nothing else means it.
abbrev pub JudgedAsMeant : Type 0
JudgedAsMeant =
    (ms : List Member) (bytes : List ℕ) (r : Result Delivery Refusal)
    → IsBytes bytes → (judged ms bytes ≡ r) ↔ Means ms bytes r

-- A packet's text is judged by what it delivers.
abbrev pub JudgedAsSpelled : Type 0
JudgedAsSpelled =
    (ms : List Member) (bytes : List ℕ) (d : Delivery)
    → IsBytes bytes → Says bytes d → judged ms bytes ≡ judged_delivery ms d

-- What is taken is written back as it was.
abbrev pub TakenIsWrittenBack : Type 0
TakenIsWrittenBack =
    (ms : List Member) (bytes : List ℕ) (d : Delivery)
    → IsBytes bytes → judged ms bytes ≡ Ok d → bytes ≡ packet_text d
