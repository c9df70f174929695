-- What one round of a call gives.
use Rattle.std.specs.Prelude.{◌≤◌, ℕ, List, IfSome, length}
use Rattle.std.specs.Option.{option_map}
use Rattle.secure_log.specs.declared.log_entries.entry.TheConstants.{MAX_BODY}
use Rattle.remote.specs.Links.{MayBeSentAgain}
use Rattle.remote_sharing.specs.declared.rounds.Round.{Round}
use Rattle.remote_sharing.specs.declared.rounds.Round.TheVariants.{Answered, Again}
use Rattle.remote.specs.declared.call_fault.CallFault.{CallFault}
use Rattle.remote.specs.declared.call_fault.CallFault.TheVariants.{NotBegun, Uncarried, Refused}
use Rattle.remote_sharing.specs.Shared.{IsExchangedUnderLock, IsUnaccepted}

-- A round answered the call, or what came back was refused and it may be sent again.
abbrev pub Ends : (body : List ℕ) → Round → Type 0
Ends body (Answered reply) = IsExchangedUnderLock body (option_map (λ v. v.items) reply)
Ends body (Again why) = MayBeSentAgain why × IsUnaccepted body why

-- A reply has at most MAX_BODY bytes.
abbrev pub FitsReply : Round → Type 0
FitsReply (Answered reply) = IfSome reply (λ v. length v.items ≤ MAX_BODY)
FitsReply (Again why) = Unit {0}

-- Why a call that was begun gave no answer: nothing came back for it, or what came was refused.
abbrev pub StopsCarrying : (body : List ℕ) → CallFault → Type 0
StopsCarrying body (NotBegun fault) = ⊥
StopsCarrying body (Uncarried fault) = Unit {0}
StopsCarrying body (Refused why) = IsUnaccepted body why
