-- What a step of a book in memory does.
use Rattle.std.specs.Prelude.{◌≡◌, ◌⊎◌, Bool, true, false, Option, Some, None}
use Rattle.witness_spec.specs.Events.{JobParts, ItsIndication}
use Rattle.witness_spec.specs.Refusals as refusals
use Rattle.witness_spec.specs.Replies as spec
use Rattle.witness_spec.specs.Steps as steps
use Rattle.witness_book_laws.specs.Books.{Book}
use Rattle.witness_book_laws.specs.Replying.{BookOwes}
use Rattle.witness_book_laws.specs.Going.{book_after}
use Rattle.node_book.specs.Replies.{reply_in}
use Rattle.node_book.specs.declared.reply.ReplyOf.{ReplyOf}

-- A step may run out of memory: neither that an indication is asked for does, nor that a job is put back, nor
-- that a message is acknowledged.
abbrev pub StepMayWant : steps.Step → Type 0
StepMayWant (steps.AckIn a) = ⊥
StepMayWant (steps.PutBack j) = ⊥
StepMayWant (steps.Ask ItsIndication) = ⊥
StepMayWant _ = Unit {0}

-- the reply is a refusal, or says that what came is known already
abbrev pub is_refusal_or_already : spec.Reply → Bool
is_refusal_or_already spec.Already = true
is_refusal_or_already (spec.Refused refusal) = true
is_refusal_or_already (spec.FileRefused refusal d) = true
is_refusal_or_already (spec.PutBackRefused refusal j) = true
is_refusal_or_already _ = false

-- A book may run out of memory at a step: at one that may, where what the book owes is neither a refusal nor
-- Already.
pub record MayRunOut (book : Book) (step : steps.Step) : Type 0 where
  -- the step is one that may
  pub may : StepMayWant step
  -- what is owed
  pub owed : spec.Reply
  -- by the book
  pub owes : BookOwes book step owed
  -- it is neither
  pub is_more : is_refusal_or_already owed ≡ false

-- a step is refused: a job or a done value comes back with the refusal
abbrev pub step_refused : steps.Step → refusals.Refusal → spec.Reply
step_refused (steps.Learn a) refusal = spec.Refused refusal
step_refused (steps.SendChallenge c) refusal = spec.Refused refusal
step_refused (steps.Answer c) refusal = spec.Refused refusal
step_refused (steps.AckIn a) refusal = spec.Refused refusal
step_refused steps.Audit refusal = spec.Refused refusal
step_refused steps.Begin refusal = spec.Refused refusal
step_refused (steps.File d) refusal = spec.FileRefused refusal d
step_refused (steps.PutBack j) refusal = spec.PutBackRefused refusal j
step_refused steps.Forward refusal = spec.Refused refusal
step_refused (steps.Ask question) refusal = spec.Refused refusal

-- A step was made: the reply is the one that the book owes, and the book goes on with it.
pub record IsStep (old : Book) (step : steps.Step) (reply : spec.Reply) (new : Book) : Type 0 where
  pub owes : BookOwes old step reply
  pub after : new ≡ book_after old step reply

-- A step ran out of memory, and nothing changed.
pub record RanOut (old : Book) (step : steps.Step) (reply : spec.Reply) (new : Book) : Type 0 where
  pub refused : reply ≡ step_refused step refusals.NoMemory
  pub stays : new ≡ old

-- A step was made; or it ran out of memory, if the book may at this step.
abbrev pub Steps : (old : Book) → steps.Step → spec.Reply → (new : Book) → Type 0
Steps old step reply new = IsStep old step reply new ⊎ (MayRunOut old step × RanOut old step reply new)

-- A step of which notes were made: two copies of the very reply, before the book changed. There are none
-- where memory was refused, and then nothing changed.
abbrev pub NotedSteps : (old : Book) → steps.Step → ReplyOf JobParts JobParts
    → Option (ReplyOf JobParts JobParts × ReplyOf JobParts JobParts) → (new : Book) → Type 0
NotedSteps old step reply None new = RanOut old step (reply_in reply) new
NotedSteps old step reply (Some notes) new =
    (reply_in notes.0 ≡ reply_in reply) × (reply_in notes.1 ≡ reply_in reply)
    × IsStep old step (reply_in reply) new
