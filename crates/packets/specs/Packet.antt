-- Packets: what a witness is sent, as bytes, and what they deliver.
use Rattle.std.specs.Prelude.{◌≡◌, ℕ, ◌==◌, List, ◌++◌, Ok, Err, Option, None, option_map, if◌then◌else◌}
use Rattle.xdr.specs.Item.{number_spelling, spelling}
use Rattle.xdr.specs.Reading.{Read, number_at}
use Rattle.xdr.specs.Texts.Text.{IsText, text_at}
use Rattle.envelopes.specs.secure_log.authenticator.Signed.{authenticator_item, authenticator_text}
use Rattle.envelopes.specs.secure_log.authenticator.Signed.{authenticator_value}
use Rattle.envelopes.specs.secure_log.authenticator.declared.authenticator.Authenticator.{Authenticator}
use Rattle.envelopes.specs.Envelope.{envelope_item, envelope_text, envelope_value, envelope_shows}
use Rattle.envelopes.specs.Acknowledgement.{ack_item, ack_text, ack_value, ack_shows}
use Rattle.envelopes.specs.declared.envelope.Envelope.{Envelope}
use Rattle.envelopes.specs.declared.acknowledgement.Ack.{Ack}
use Rattle.envelopes.specs.secure_log.authenticator.declared.member.LogVersion.{LogVersion}
use Rattle.envelopes.specs.secure_log.authenticator.declared.member.LogVersion.TheVariants.{One, Two}
use Rattle.envelopes.specs.secure_log.Versioned.{VersionedParts, FitsVersion, versioned_item, versioned_text}
use Rattle.envelopes.specs.secure_log.Versioned.{versioned_value}
use Rattle.envelopes.specs.secure_log.declared.segment.TheConstants.{MAX_ENTRIES}
use Rattle.packets.specs.Values.{authenticator_said, envelope_said, segment_said, ack_said}

-- What a packet delivers: a node's authenticator, to be learned; an envelope that its receiver is to
-- acknowledge; a segment, in answer to an audit; an acknowledgement of an envelope.
pub data Delivery : Type 0 where
  Learn : Authenticator → Delivery
  SendChallenge : Envelope → Delivery
  Answer : VersionedParts → Delivery
  AckIn : Ack → Delivery

-- ---- how it is spelled

-- the number of a packet with a segment of a log of a version
abbrev pub answer_number : LogVersion → ℕ
answer_number One = 3
answer_number Two = 5

-- the number of a kind of packet
abbrev pub packet_number : Delivery → ℕ
packet_number (Learn a) = 1
packet_number (SendChallenge e) = 2
packet_number (Answer s) = answer_number s.log_version
packet_number (AckIn a) = 4

-- The bytes are the text of a segment, of its log's version, and the segment says no more than that.
pub record IsSegmentText (s : VersionedParts) (text : List ℕ) : Type 0 where
  pub fits : FitsVersion MAX_ENTRIES s
  pub is : IsText (versioned_text s.log_version MAX_ENTRIES) (versioned_value s.log_version s) text

-- The bytes are the text of what is delivered (RFC 4506), and nothing more. A segment has an entry; its first
-- number is at least 1, and in a log of version 2 its words follow.
abbrev pub IsContent : Delivery → List ℕ → Type 0
IsContent (Learn a) text = IsText authenticator_text (authenticator_value a) text
IsContent (SendChallenge e) text = IsText envelope_text (envelope_value e) text
IsContent (Answer s) text = IsSegmentText s text
IsContent (AckIn a) text = IsText ack_text (ack_value a) text

-- The bytes are a packet: the number of its kind in four bytes, and then the text of what it delivers.
pub record Says (bytes : List ℕ) (d : Delivery) : Type 0 where
  pub content : List ℕ
  pub whole : bytes ≡ number_spelling 4 (packet_number d) ++ content
  pub is_content : IsContent d content

-- the text of what is delivered, and the packet with it
abbrev pub content_text : Delivery → List ℕ
content_text (Learn a) = spelling authenticator_item (authenticator_value a)
content_text (SendChallenge e) = spelling envelope_item (envelope_value e)
content_text (Answer s) = spelling (versioned_item s.log_version MAX_ENTRIES) (versioned_value s.log_version s)
content_text (AckIn a) = spelling ack_item (ack_value a)

-- the text of a packet: its number, and what it delivers
abbrev pub packet_text : Delivery → List ℕ
packet_text d = number_spelling 4 (packet_number d) ++ content_text d

-- ---- how it is read

-- what a packet with this number delivers, if the bytes are the text of that
abbrev pub content_at : (number : ℕ) → List ℕ → Option Delivery
content_at number text =
    if number == 1 then option_map (λ v. Learn (authenticator_said v)) (text_at authenticator_text text)
    else if number == 2 then option_map (λ v. SendChallenge (envelope_said v)) (text_at envelope_text text)
    else if number == 3 then option_map (λ v. Answer (segment_said One v)) (text_at (versioned_text One MAX_ENTRIES) text)
    else if number == 4 then option_map (λ v. AckIn (ack_said v)) (text_at ack_text text)
    else if number == 5 then option_map (λ v. Answer (segment_said Two v)) (text_at (versioned_text Two MAX_ENTRIES) text)
    else None

-- what is delivered, where a packet's number was read
abbrev pub after_number : Read ℕ → Option Delivery
after_number (Ok (number, text)) = content_at number text
after_number (Err fault) = None

-- What the bytes deliver, if they are a packet.
unfoldable pub delivery_of : List ℕ → Option Delivery
delivery_of bytes = after_number (number_at 4 bytes)

-- ---- whose it is

-- the authenticator that it shows, of who signs it
abbrev pub delivery_shows : Delivery → Authenticator
delivery_shows (Learn a) = a
delivery_shows (SendChallenge e) = envelope_shows e
delivery_shows (Answer s) = s.closing
delivery_shows (AckIn a) = ack_shows a

-- The node whose step it is: who signs, but of an envelope its receiver.
abbrev pub delivery_node : Delivery → ℕ
delivery_node (Learn a) = a.node
delivery_node (SendChallenge e) = e.to
delivery_node (Answer s) = s.closing.node
delivery_node (AckIn a) = a.by
