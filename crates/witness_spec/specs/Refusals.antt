-- Why a witness refuses what it is handed.
use Rattle.std.specs.Prelude.{ℕ}
use Rattle.authenticator.specs.declared.refusal.Refusal.TheVariants as checking
use Rattle.authenticator.specs.declared.refusal.Refusal as checks

-- why an event is refused
pub data Refusal : Type 0 where
  -- a node that it is of isn't in the roster
  UnknownNode : Refusal
  -- the bytes spell nothing that may be handed over
  Garbage : Refusal
  -- it isn't signed by the member that it names
  BadSignature : Refusal
  -- as many authenticators are kept as may be
  LearnedFull : Refusal
  -- as many send challenges are open as may be
  ChallengesFull : Refusal
  -- what the audit could find has no room in the outbox
  OutboxFull : Refusal
  -- no learned number is near enough
  TooFar : Refusal
  -- there is nothing to audit
  NothingToAudit : Refusal
  -- an audit or a job is under way
  Busy : Refusal
  -- that wasn't asked
  NotAsked : Refusal
  -- no job is out
  NoJob : Refusal
  -- it isn't the job that is out
  WrongJob : Refusal
  -- as many entries are audited as may be
  BookFull : Refusal
  -- out of memory
  NoMemory : Refusal
  -- its number is below all that the base shows
  BelowBase : Refusal

-- the number of a refusal
abbrev pub refusal_number : Refusal → ℕ
refusal_number UnknownNode = 1
refusal_number Garbage = 2
refusal_number BadSignature = 3
refusal_number LearnedFull = 4
refusal_number ChallengesFull = 5
refusal_number OutboxFull = 6
refusal_number TooFar = 7
refusal_number NothingToAudit = 8
refusal_number Busy = 9
refusal_number NotAsked = 10
refusal_number NoJob = 11
refusal_number WrongJob = 12
refusal_number BookFull = 13
refusal_number NoMemory = 14
refusal_number BelowBase = 15

-- what a check of bytes answers, as a witness says it
abbrev pub refusal_of : checks.Refusal → Refusal
refusal_of checking.UnknownNode = UnknownNode
refusal_of checking.Garbage = Garbage
refusal_of checking.BadSignature = BadSignature
refusal_of checking.NoMemory = NoMemory
