-- A node's refusals, as faults of a call.
use Rattle.commitment.specs.declared.refusal.Refusal.{Refusal}
use Rattle.commitment.specs.declared.refusal.Refusal.TheVariants as refusals
use Rattle.remote.specs.declared.fault.AcceptFault.{AcceptFault}
use Rattle.remote.specs.declared.fault.AcceptFault.TheVariants.{NotAcknowledged, Unanswered, KeysUsedUp}
use Rattle.remote.specs.declared.fault.AcceptFault.TheVariants.{NoNumbers, NoMemory}

-- that of an acknowledgement
abbrev pub ack_fault : Refusal → AcceptFault
ack_fault refusals.Garbage = NotAcknowledged
ack_fault refusals.NotForMe = NotAcknowledged
ack_fault refusals.BadSignature = NotAcknowledged
ack_fault refusals.KeysUsedUp = NotAcknowledged
ack_fault refusals.NoGaps = NotAcknowledged
ack_fault refusals.GapTooWide = NoNumbers
ack_fault refusals.NoMemory = NoMemory

-- that of a reply
abbrev pub reply_fault : Refusal → AcceptFault
reply_fault refusals.Garbage = Unanswered
reply_fault refusals.NotForMe = Unanswered
reply_fault refusals.BadSignature = Unanswered
reply_fault refusals.KeysUsedUp = KeysUsedUp
reply_fault refusals.NoGaps = Unanswered
reply_fault refusals.GapTooWide = NoNumbers
reply_fault refusals.NoMemory = NoMemory
