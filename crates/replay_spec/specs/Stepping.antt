-- The same machine as a function: the state after an entry, or the fault that the entry has.
use Rattle.std.specs.Prelude.{ℕ, Bool, true, false, not, ◌==◌, ◌&&◌, ◌||◌, nat_lt, List, Option, Some, None}
use Rattle.std.specs.Prelude.{Result, Ok, Err, if◌then◌else◌}
use Rattle.std.specs.FinMap as finite
use Rattle.merkle_keys.specs.Signing.{SignatureParts}
use Rattle.secure_log.specs.authenticator.declared.member.Member.{Member}
use Rattle.secure_log.specs.authenticator.declared.authenticator.Authenticator.{Authenticator}
use Rattle.secure_log.specs.declared.log_entries.entry.Entry.{Entry}
use Rattle.secure_log.specs.declared.log_entries.entry.Entry.TheVariants.{Send, Recv, Ack, Clock, Check}
use Rattle.nfs_items.specs.Timeval.{is_before}
use Rattle.state_spec.specs.State.{is_received, SentMessage, Idle, Heard, Owes, Machine, Server}
use Rattle.state_spec.specs.State.{Client, State}
use Rattle.state_spec.specs.State.{clock_in}
use Rattle.state_spec.specs.StateText.{state_digest}
use Rattle.secure_log.specs.authenticator.Numbers.{word_of}
use Rattle.secure_log.specs.authenticator.Signing.{is_same, is_signed_in}
use Rattle.replay_spec.specs.Shown.{sender_shown, receiver_shown}
use Rattle.replay_spec.specs.Placed.{Placed}
use Rattle.replay_spec.specs.Steps.{received_message, time_of, after_entry}

-- what an entry may have wrong
pub data ReplayFault : Type 0 where
  BadForm : ReplayFault
  BadReceive : ReplayFault
  Repeated : ReplayFault
  WrongReply : ReplayFault
  ClockBack : ReplayFault
  WrongCheckpoint : ReplayFault
  BadAck : ReplayFault

abbrev pub fault_number : ReplayFault → ℕ
fault_number BadForm = 1
fault_number BadReceive = 2
fault_number Repeated = 3
fault_number WrongReply = 4
fault_number ClockBack = 5
fault_number WrongCheckpoint = 6
fault_number BadAck = 7

abbrev pub is_clock : Entry → Bool
is_clock (Send to body) = false
is_clock (Recv from seq prev body signature) = false
is_clock (Ack to seq mine number prev signature) = false
is_clock (Clock seconds microseconds) = true
is_clock (Check digest) = false

abbrev pub is_send : Entry → Bool
is_send (Send to body) = true
is_send (Recv from seq prev body signature) = false
is_send (Ack to seq mine number prev signature) = false
is_send (Clock seconds microseconds) = false
is_send (Check digest) = false

-- ---- BadForm

-- A server heard a message and the entry isn't CLOCK; or it heard none and the entry is CLOCK.
abbrev pub is_out_of_turn : Machine → Entry → Bool
is_out_of_turn (Server w Idle) e = is_clock e
is_out_of_turn (Server w (Heard from body)) e = not (is_clock e)
is_out_of_turn (Server w (Owes to body)) e = is_clock e
is_out_of_turn (Client clock) e = false

-- A CLOCK's microseconds are above 999,999.
abbrev pub shows_no_time : Entry → Bool
shows_no_time (Send to body) = false
shows_no_time (Recv from seq prev body signature) = false
shows_no_time (Ack to seq mine number prev signature) = false
shows_no_time (Clock seconds microseconds) = nat_lt 999_999 microseconds
shows_no_time (Check digest) = false

abbrev pub is_bad_form : Machine → Entry → Bool
is_bad_form machine e = is_out_of_turn machine e || shows_no_time e

-- ---- WrongReply

-- the entry is the SEND of this body to this node
abbrev pub is_send_of : (to : ℕ) (body : List ℕ) → Entry → Bool
is_send_of to body (Send whom sent) = (whom == to) && is_same sent body
is_send_of to body (Recv from seq prev heard signature) = false
is_send_of to body (Ack whom seq mine number prev signature) = false
is_send_of to body (Clock seconds microseconds) = false
is_send_of to body (Check digest) = false

-- A server owes no reply and the entry is SEND; or it owes one, and the entry isn't the SEND of it.
abbrev pub is_wrong_reply : Machine → Entry → Bool
is_wrong_reply (Server w Idle) e = is_send e
is_wrong_reply (Server w (Heard from body)) e = is_send e
is_wrong_reply (Server w (Owes to body)) e = not (is_send_of to body e)
is_wrong_reply (Client clock) e = false

-- ---- BadReceive

-- A RECV's sender is the node itself or a stranger, or its signature isn't the sender's, of the hash that is
-- made from sender, word, hash before it and body.
abbrev pub is_bad_receive : List Member → State → Entry → Bool
is_bad_receive ms s (Send to body) = false
is_bad_receive ms s (Recv from seq prev body signature) =
    (from == s.node) || not (is_signed_in ms (sender_shown s.node from seq prev body signature))
is_bad_receive ms s (Ack to seq mine number prev signature) = false
is_bad_receive ms s (Clock seconds microseconds) = false
is_bad_receive ms s (Check digest) = false

-- ---- Repeated

-- A RECV's sender, word and hash are among those received.
abbrev pub is_repeated : State → Entry → Bool
is_repeated s (Send to body) = false
is_repeated s (Recv from seq prev body signature) =
    is_received s.received (received_message s.node from seq prev body)
is_repeated s (Ack to seq mine number prev signature) = false
is_repeated s (Clock seconds microseconds) = false
is_repeated s (Check digest) = false

-- ---- ClockBack

-- A CLOCK is before the last reading.
abbrev pub is_clock_back : Machine → Entry → Bool
is_clock_back machine (Send to body) = false
is_clock_back machine (Recv from seq prev body signature) = false
is_clock_back machine (Ack to seq mine number prev signature) = false
is_clock_back machine (Clock seconds microseconds) =
    is_before (time_of seconds microseconds) (clock_in machine)
is_clock_back machine (Check digest) = false

-- ---- BadAck

-- an ACK of a message that was sent, if it was, is to its receiver and signed by that node
abbrev pub fits_message : List Member → (node to seq : ℕ) (mine : List ℕ) (number : ℕ) (prev : List ℕ)
    → SignatureParts → Option SentMessage → Bool
fits_message ms node to seq mine number prev signature None = false
fits_message ms node to seq mine number prev signature (Some message) =
    (message.to == to) && is_signed_in ms (receiver_shown node seq message mine number prev signature)

-- An ACK fits no message that was sent and has no ACK yet, or its signature isn't the receiver's.
abbrev pub is_bad_ack : List Member → State → Entry → Bool
is_bad_ack ms s (Send to body) = false
is_bad_ack ms s (Recv from seq prev body signature) = false
is_bad_ack ms s (Ack to seq mine number prev signature) =
    not (fits_message ms s.node to seq mine number prev signature (finite.get s.sends seq))
is_bad_ack ms s (Clock seconds microseconds) = false
is_bad_ack ms s (Check digest) = false

-- ---- WrongCheckpoint

-- A CHECK isn't the digest of the state before it.
abbrev pub is_wrong_checkpoint : State → Entry → Bool
is_wrong_checkpoint s (Send to body) = false
is_wrong_checkpoint s (Recv from seq prev body signature) = false
is_wrong_checkpoint s (Ack to seq mine number prev signature) = false
is_wrong_checkpoint s (Clock seconds microseconds) = false
is_wrong_checkpoint s (Check digest) = not (is_same digest (state_digest s))

-- ---- the first that applies

-- The fault of an entry after a state, if it has one: each is looked at only where those above don't apply.
abbrev pub fault_of : List Member → State → Entry → Option ReplayFault
fault_of ms s e =
    if is_bad_form s.machine e then Some BadForm
    else if is_wrong_reply s.machine e then Some WrongReply
    else if is_bad_receive ms s e then Some BadReceive
    else if is_repeated s e then Some Repeated
    else if is_clock_back s.machine e then Some ClockBack
    else if is_bad_ack ms s e then Some BadAck
    else if is_wrong_checkpoint s e then Some WrongCheckpoint
    else None

-- a state, or the fault in its place
abbrev pub unless_fault : State → Option ReplayFault → Result State ReplayFault
unless_fault s None = Ok s
unless_fault s (Some fault) = Err fault

-- the state after an entry at its place, or the fault that the entry has
unfoldable pub step : List Member → State → Placed → Result State ReplayFault
step ms s p =
    unless_fault (after_entry s (word_of p.skipped p.number) p.before p.entry) (fault_of ms s p.entry)

-- ---- what an entry shows of another node's log

-- what an ACK shows of the log of the receiver of its message, if that was sent
abbrev pub acknowledgement_shown : (node seq : ℕ) (mine : List ℕ) (number : ℕ) (prev : List ℕ)
    → SignatureParts → Option SentMessage → Option Authenticator
acknowledgement_shown node seq mine number prev signature None = None
acknowledgement_shown node seq mine number prev signature (Some message) =
    Some (receiver_shown node seq message mine number prev signature)

-- A RECV shows its sender's authenticator, an ACK its receiver's; other entries show none.
abbrev pub shown_by : State → Entry → Option Authenticator
shown_by s (Send to body) = None
shown_by s (Recv from seq prev body signature) = Some (sender_shown s.node from seq prev body signature)
shown_by s (Ack to seq mine number prev signature) =
    acknowledgement_shown s.node seq mine number prev signature (finite.get s.sends seq)
shown_by s (Clock seconds microseconds) = None
shown_by s (Check digest) = None
