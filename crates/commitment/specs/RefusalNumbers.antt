-- The numbers of the refusals of messages, and those that sending gives.
use Rattle.std.specs.Prelude.{ℕ, Option, Some, None}
use Rattle.commitment.specs.declared.senders.refusal.SendRefusal.{SendRefusal}
use Rattle.commitment.specs.declared.senders.refusal.SendRefusal.TheVariants.{KeysUsedUp as NoKey}
use Rattle.commitment.specs.declared.senders.refusal.SendRefusal.TheVariants.{GapTooWide as NoNumber}
use Rattle.commitment.specs.declared.senders.refusal.SendRefusal.TheVariants.{NoMemory as NoRoom}
use Rattle.commitment.specs.declared.refusal.Refusal.{Refusal}
use Rattle.commitment.specs.declared.refusal.Refusal.TheVariants.{Garbage, NotForMe, BadSignature, KeysUsedUp}
use Rattle.commitment.specs.declared.refusal.Refusal.TheVariants.{NoMemory, NoGaps, GapTooWide}

-- the number of a refusal; being out of memory has none
abbrev pub refusal_number : Refusal → Option ℕ
refusal_number Garbage = Some 1
refusal_number NotForMe = Some 2
refusal_number BadSignature = Some 3
refusal_number KeysUsedUp = Some 4
refusal_number NoGaps = Some 5
refusal_number GapTooWide = Some 6
refusal_number NoMemory = None

-- the refusal of a message that wasn't sent
abbrev pub refusal_of : SendRefusal → Refusal
refusal_of NoKey = KeysUsedUp
refusal_of NoNumber = GapTooWide
refusal_of NoRoom = NoMemory
