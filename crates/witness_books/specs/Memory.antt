-- At which events memory may run out.
use Rattle.std.specs.Prelude.{◌≡◌, ◌⊎◌, true, false, List, [], ◌∷◌, Result, Ok, Err}
use Rattle.authenticator.specs.declared.member.Member.{Member}
use Rattle.node_book.specs.witness_spec.Refusals.{Refusal}
use Rattle.node_book.specs.witness_spec.Events.{Event}
use Rattle.node_book.specs.witness_spec.Events as events
use Rattle.node_book.specs.witness_spec.Replies.{Reply, is_want_of_memory}
use Rattle.node_book.specs.witness_spec.Starting.{Beginning}
use Rattle.node_book.specs.witness_spec.Steps.{OwnStep}
use Rattle.node_book.specs.witness_spec.Whose.{whose}
use Rattle.node_book.specs.witness_spec.Histories.{History, IsOwed, IsHistory, BookParts, Stands}
use Rattle.node_book.specs.Stepping.{StepMayWant, is_refusal_or_already}

-- The event is bytes, which are read.
abbrev pub AreBytes : Event → Type 0
AreBytes (events.Deliver bytes) = Unit {0}
AreBytes _ = ⊥

-- It is a member's step, and one that may run out of memory.
abbrev pub IsStepThatMay : Result OwnStep Refusal → Type 0
IsStepThatMay (Err refusal) = ⊥
IsStepThatMay (Ok o) = StepMayWant o.step

-- Memory may run out at bytes, and at a member's step other than a checked acknowledgement, a job that is put
-- back and a question for the indication: so at no other event that is nobody's step.
abbrev pub MayRunOut : List Member → Event → Type 0
MayRunOut ms event = AreBytes event ⊎ IsStepThatMay (whose ms event)

-- The reply says that memory ran out only where it may.
abbrev pub RunsOutWhereItMay : List Member → Event → Reply → Type 0
RunsOutWhereItMay ms event reply = is_want_of_memory reply ≡ true → MayRunOut ms event

-- More is owed to an event after a history than a refusal or Already.
pub record IsOwedMore (g : Beginning) (history : History) (event : Event) : Type 0 where
  -- what is owed
  pub owed : Reply
  -- after that history
  pub owes : IsOwed g history event owed
  -- it is neither
  pub is_more : is_refusal_or_already owed ≡ false

-- The reply says that memory ran out only at bytes, or where more is owed.
abbrev pub RunsOutForMore : Beginning → History → Event → Reply → Type 0
RunsOutForMore g history event reply =
    is_want_of_memory reply ≡ true → AreBytes event ⊎ IsOwedMore g history event

-- The same of each of some events, the oldest first: after the history and those before it.
abbrev pub EachRunsOutForMore : Beginning → History → List Event → List Reply → Type 0
EachRunsOutForMore g history [] replies = Unit {0}
EachRunsOutForMore g history (e ∷ events) [] = Unit {0}
EachRunsOutForMore g history (e ∷ events) (r ∷ replies) =
    RunsOutForMore g history e r × EachRunsOutForMore g ((e, r) ∷ history) events replies

-- The same whatever the history was for which the books stood.
abbrev pub RunOutForMore : Beginning → (old : List BookParts) → List Event → List Reply → Type 0
RunOutForMore g old events replies =
    (history : History) → IsHistory g history → Stands g old history
    → EachRunsOutForMore g history events replies
