-- What a packet is taken for under a roster.
use Rattle.std.specs.Prelude.{◌≡◌, ℕ, ◌-◌, Bool, true, not, ◌&&◌, ◌==◌, List, [], ◌∷◌, Result, Ok, Err, Option}
use Rattle.std.specs.Prelude.{Some, None, if◌then◌else◌, is_some}
use Rattle.envelopes.specs.secure_log.authenticator.declared.member.LogVersion.{LogVersion}
use Rattle.envelopes.specs.secure_log.authenticator.Roster.{keeps_version, member_of}
use Rattle.envelopes.specs.secure_log.authenticator.declared.member.Member.{Member}
use Rattle.envelopes.specs.secure_log.authenticator.declared.refusal.Refusal.{Refusal}
use Rattle.envelopes.specs.secure_log.authenticator.declared.refusal.Refusal.TheVariants.{UnknownNode}
use Rattle.envelopes.specs.secure_log.authenticator.declared.refusal.Refusal.TheVariants.{Garbage}
use Rattle.envelopes.specs.secure_log.authenticator.declared.refusal.Refusal.TheVariants.{BadSignature}
use Rattle.envelopes.specs.secure_log.authenticator.declared.refusal.Refusal.TheVariants.{NoMemory}
use Rattle.envelopes.specs.secure_log.authenticator.Numbers.{number_in}
use Rattle.envelopes.specs.secure_log.LogEntries.Chain.{Link, last_hash}
use Rattle.envelopes.specs.secure_log.LogEntries.Words.{last_word}
use Rattle.envelopes.specs.secure_log.Versioned.{VersionedParts, versioned_links}
use Rattle.packets.specs.Packet.{Delivery, Learn, SendChallenge, Answer, AckIn, delivery_of, delivery_shows}
use Rattle.envelopes.specs.secure_log.authenticator.Signing.{is_same, is_signed_in}

-- whether a word closes links after a number: it is the last link's; without links, it is of that number
abbrev pub closes_at : LogVersion → (before : ℕ) → List Link → (closing : ℕ) → Bool
closes_at v before [] closing = number_in v closing == before
closes_at v before (l ∷ ls) closing = closing == last_word l ls

-- whether a segment's closing is of its node, its last word and its last hash
abbrev pub ends : VersionedParts → Bool
ends s =
    (s.closing.node == s.node)
    && (closes_at s.log_version (s.first - 1) (versioned_links s) s.closing.word
    && is_same s.closing.hash (last_hash s.opening (versioned_links s)))

-- whether what is delivered may be at all under a roster: an envelope's sender isn't its receiver, and a
-- segment is of a log of its node's version, where that is a member, and ends in its closing
abbrev pub may_be : List Member → Delivery → Bool
may_be ms (Learn a) = true
may_be ms (SendChallenge e) = not (e.from == e.to)
may_be ms (Answer s) = keeps_version ms s.node s.log_version && ends s
may_be ms (AckIn a) = true

-- a node is a member of the roster
abbrev pub is_member : List Member → ℕ → Bool
is_member ms node = is_some (member_of ms node)

-- whether who signs is a member, and of an envelope the receiver too
abbrev pub is_of_members : List Member → Delivery → Bool
is_of_members ms (Learn a) = is_member ms a.node
is_of_members ms (SendChallenge e) = is_member ms e.from && is_member ms e.to
is_of_members ms (Answer s) = is_member ms s.closing.node
is_of_members ms (AckIn a) = is_member ms a.by

-- What is delivered, or why it isn't taken: Garbage where it can't be, else UnknownNode where a node that it
-- is of is no member, else BadSignature where who is to sign it didn't.
abbrev pub judged_delivery : List Member → Delivery → Result Delivery Refusal
judged_delivery ms d =
    if may_be ms d then (
    if is_of_members ms d then (
    if is_signed_in ms (delivery_shows d) then Ok d else Err BadSignature
    ) else Err UnknownNode
    ) else Err Garbage

-- what was read is judged; bytes that hold nothing are garbage
abbrev pub judged_option : List Member → Option Delivery → Result Delivery Refusal
judged_option ms None = Err Garbage
judged_option ms (Some d) = judged_delivery ms d

-- What bytes deliver, or why they aren't taken: Garbage also where they are no packet.
unfoldable pub judged : List Member → List ℕ → Result Delivery Refusal
judged ms bytes = judged_option ms (delivery_of bytes)

-- A refusal is the one that is owed; being out of memory may come in place of any answer.
abbrev pub Refuses : (owed : Result Delivery Refusal) → Refusal → Type 0
Refuses owed UnknownNode = owed ≡ Err UnknownNode
Refuses owed Garbage = owed ≡ Err Garbage
Refuses owed BadSignature = owed ≡ Err BadSignature
Refuses owed NoMemory = Unit {0}

-- What a call answers is what is owed.
abbrev pub GivesDelivery : {P : Type 0} → (owed : Result Delivery Refusal) → (P → Delivery) → Result P Refusal
    → Type 0
GivesDelivery owed delivery (Ok p) = owed ≡ Ok (delivery p)
GivesDelivery owed delivery (Err refusal) = Refuses owed refusal
