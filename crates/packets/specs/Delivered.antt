-- What a packet that was read delivers, and under which roster it was checked.
use Rattle.std.specs.Prelude.{◌≡◌, List, Some}
use Rattle.envelopes.specs.secure_log.authenticator.Roster.{member_of}
use Rattle.envelopes.specs.secure_log.authenticator.declared.member.Member.{Member}
use Rattle.packets.specs.Packet.{Delivery, Learn, SendChallenge, Answer, AckIn}
use Rattle.packets.specs.declared.packet.Packet.{Packet}
use Rattle.packets.specs.declared.packet.Packet.TheVariants as packet

-- what it delivers
abbrev pub delivery_in : Packet → Delivery
delivery_in (packet.Learn c) = Learn c.value
delivery_in (packet.SendChallenge c) = SendChallenge c.value
delivery_in (packet.Answer c) = Answer c.segment
delivery_in (packet.AckIn c) = AckIn c.value

-- It was checked under this roster: it has the member of it that signed, a segment the whole roster.
abbrev pub IsUnder : List Member → Packet → Type 0
IsUnder ms (packet.Learn c) = member_of ms c.value.node ≡ Some c.member
IsUnder ms (packet.SendChallenge c) = member_of ms c.value.from ≡ Some c.member
IsUnder ms (packet.Answer c) = c.roster ≡ ms
IsUnder ms (packet.AckIn c) = member_of ms c.value.by ≡ Some c.member
