-- Whose step an event is, or why it is nobody's: by event and roster alone.
use Rattle.std.specs.Prelude.{Bool, true, false, ◌==◌, ◌&&◌, List, [], ◌∷◌, Option, Some, None}
use Rattle.std.specs.Prelude.{Result, Ok, Err, if◌then◌else◌}
use Rattle.authenticator.specs.Roster.{member_of, kind_number, same_version}
use Rattle.authenticator.specs.declared.member.Member.{Member}
use Rattle.authenticator.specs.Signing.{is_same}
use Rattle.packets.specs.Packet.{Delivery}
use Rattle.packets.specs.Packet as packets
use Rattle.packets.specs.Judging.{judged}
use Rattle.authenticator.specs.declared.refusal.Refusal as checks
use Rattle.witness_spec.specs.Refusals.{Refusal, UnknownNode, BadSignature, refusal_of}
use Rattle.witness_spec.specs.Events.{PublicKey, Event}
use Rattle.witness_spec.specs.Events as events
use Rattle.witness_spec.specs.Steps.{Step, Learn, SendChallenge, Answer, AckIn, Audit, Begin, File, PutBack}
use Rattle.witness_spec.specs.Steps.{Forward, Ask, OwnStep}

-- a step of a member; a node that isn't in the roster has none
abbrev pub step_of : Option Member → Step → Result OwnStep Refusal
step_of None step = Err UnknownNode
step_of (Some m) step = Ok (record { member = m; step = step })

-- ---- values that were checked before

-- the key is this member's
abbrev pub is_key_of : Member → PublicKey → Bool
is_key_of m key = is_same m.root key.root && (m.height == key.height)

-- two members are the same
abbrev pub same_member : Member → Member → Bool
same_member m n =
    (m.node == n.node) && ((kind_number m.kind == kind_number n.kind)
    && (is_same m.root n.root && ((m.height == n.height) && same_version m.log_version n.log_version)))

-- the rosters are one in every word
abbrev pub same_roster : List Member → List Member → Bool
same_roster [] [] = true
same_roster [] (n ∷ ns) = false
same_roster (m ∷ ms) [] = false
same_roster (m ∷ ms) (n ∷ ns) = same_member m n && same_roster ms ns

-- A value that its signer signed under a key is its step, where the key is the signer's in this roster.
abbrev pub signed_step : Option Member → PublicKey → Step → Result OwnStep Refusal
signed_step None key step = Err UnknownNode
signed_step (Some m) key step =
    if is_key_of m key then Ok (record { member = m; step = step }) else Err BadSignature

-- An envelope that its sender signed under a key is its receiver's step.
abbrev pub sent_step : (sender receiver : Option Member) → PublicKey → Step → Result OwnStep Refusal
sent_step None receiver key step = Err UnknownNode
sent_step (Some m) None key step = Err UnknownNode
sent_step (Some m) (Some n) key step =
    if is_key_of m key then Ok (record { member = n; step = step }) else Err BadSignature

-- A segment that is closed under a roster is its node's step, where that roster is this one.
abbrev pub closed_step : Option Member → Bool → Step → Result OwnStep Refusal
closed_step None same step = Err UnknownNode
closed_step (Some m) same step =
    if same then Ok (record { member = m; step = step }) else Err BadSignature

-- ---- bytes

-- What bytes deliver under a roster, as a step of the node whose it is.
abbrev pub delivered_step : List Member → Delivery → Result OwnStep Refusal
delivered_step ms (packets.Learn a) = step_of (member_of ms a.node) (Learn a)
delivered_step ms (packets.SendChallenge e) = step_of (member_of ms e.to) (SendChallenge e)
delivered_step ms (packets.Answer s) =
    step_of (member_of ms s.closing.node) (Answer (record { segment = s; roster = ms }))
delivered_step ms (packets.AckIn a) = step_of (member_of ms a.by) (AckIn a)

-- the step that a judged packet is, or its refusal
abbrev pub judged_step : List Member → Result Delivery checks.Refusal → Result OwnStep Refusal
judged_step ms (Ok delivery) = delivered_step ms delivery
judged_step ms (Err refusal) = Err (refusal_of refusal)

-- ---- all events

-- Bytes are the step that they deliver. A checked value is a step of the node that signed it, an envelope of
-- its receiver; the other events are steps of the node that they name.
abbrev pub whose : List Member → Event → Result OwnStep Refusal
whose ms (events.Deliver bytes) = judged_step ms (judged ms bytes)
whose ms (events.Learn a key) = signed_step (member_of ms a.node) key (Learn a)
whose ms (events.SendChallenge e key) =
    sent_step (member_of ms e.from) (member_of ms e.to) key (SendChallenge e)
whose ms (events.Answer c) =
    closed_step (member_of ms c.segment.closing.node) (same_roster c.roster ms) (Answer c)
whose ms (events.AckIn a key) = signed_step (member_of ms a.by) key (AckIn a)
whose ms (events.Audit node) = step_of (member_of ms node) Audit
whose ms (events.Begin node) = step_of (member_of ms node) Begin
whose ms (events.File d) = step_of (member_of ms d.job.node) (File d)
whose ms (events.PutBack j) = step_of (member_of ms j.node) (PutBack j)
whose ms (events.Forward node) = step_of (member_of ms node) Forward
whose ms (events.Ask node question) = step_of (member_of ms node) (Ask question)
