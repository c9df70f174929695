-- Bytes that a witness is handed, as the event that they spell.
use Rattle.std.specs.Prelude.{◌≡◌, ◌⊎◌, ◌↔◌, ℕ, List, Result, Ok, Err, Some}
use Rattle.authenticator.specs.Roster.{member_of}
use Rattle.authenticator.specs.declared.member.Member.{Member}
use Rattle.packets.specs.Packet.{Delivery}
use Rattle.packets.specs.Packet as packets
use Rattle.packets.specs.Judging.{judged}
use Rattle.node_book.specs.witness_spec.Refusals as refusals
use Rattle.node_book.specs.witness_spec.Events.{JobParts, Event, IsEvent}
use Rattle.node_book.specs.witness_spec.Events as events
use Rattle.node_book.specs.witness_spec.Replies.{Reply}
use Rattle.node_book.specs.witness_spec.Starting.{Beginning}
use Rattle.node_book.specs.witness_spec.Whose.{whose}
use Rattle.node_book.specs.witness_spec.Histories.{History, IsOwed, BookParts}
use Rattle.node_book.specs.witness_spec.Contract.{StepsTo}
use Rattle.node_book.specs.Events.{event_in, key_of}
use Rattle.node_book.specs.Replies.{refusal_in}
use Rattle.node_book.specs.declared.event.EventOf.{EventOf}
use Rattle.node_book.specs.declared.refusal.Refusal.{Refusal}

-- What is delivered under a roster is this event: the same value, checked under the key of the member that
-- signs it, a segment under the roster itself.
abbrev pub IsDelivery : List Member → Delivery → Event → Type 0
IsDelivery ms (packets.Learn a) event =
    (m : Member) × ((member_of ms a.node ≡ Some m) × (event ≡ events.Learn a (key_of m)))
IsDelivery ms (packets.SendChallenge e) event =
    (m : Member) × ((member_of ms e.from ≡ Some m) × (event ≡ events.SendChallenge e (key_of m)))
IsDelivery ms (packets.Answer s) event = event ≡ events.Answer (record { segment = s; roster = ms })
IsDelivery ms (packets.AckIn a) event =
    (m : Member) × ((member_of ms a.by ≡ Some m) × (event ≡ events.AckIn a (key_of m)))

-- Bytes spell this event under a roster: they are taken for what is delivered, and that is the event.
pub record Spell (ms : List Member) (bytes : List ℕ) (event : Event) : Type 0 where
  -- what is delivered
  pub delivery : Delivery
  -- the bytes are taken for it
  pub is_taken : judged ms bytes ≡ Ok delivery
  -- it is the event
  pub is_event : IsDelivery ms delivery event

-- Reading bytes gives the event that they spell; or why they are nobody's step; being out of memory may
-- come in place of either.
abbrev pub ReadsEvent : List Member → List ℕ → Result (EventOf JobParts JobParts) Refusal → Type 0
ReadsEvent ms bytes (Ok event) = Spell ms bytes (event_in event) × IsEvent (event_in event)
ReadsEvent ms bytes (Err refusal) =
    (whose ms (events.Deliver bytes) ≡ Err (refusal_in refusal)) ⊎ (refusal_in refusal ≡ refusals.NoMemory)

-- ---- laws

-- Bytes and the event that they spell are the step of one node, and the same one.
abbrev pub SpelledIsWhose : Type 0
SpelledIsWhose =
    (ms : List Member) (bytes : List ℕ) (event : Event) → Spell ms bytes event
    → whose ms (events.Deliver bytes) ≡ whose ms event

-- To both the same reply is owed after any history.
abbrev pub SpelledIsOwed : Type 0
SpelledIsOwed =
    (g : Beginning) (bytes : List ℕ) (event : Event) (history : History) (reply : Reply)
    → Spell g.roster bytes event
    → IsOwed g history (events.Deliver bytes) reply ↔ IsOwed g history event reply

-- So books are led by both to the same books, with the same reply.
abbrev pub SpelledIsTaken : Type 0
SpelledIsTaken =
    (g : Beginning) (old new : List BookParts) (bytes : List ℕ) (event : Event) (reply : Reply)
    → IsEvent (events.Deliver bytes) → IsEvent event → Spell g.roster bytes event
    → StepsTo g old (events.Deliver bytes) reply new ↔ StepsTo g old event reply new
