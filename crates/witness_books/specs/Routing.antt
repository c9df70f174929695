-- Whose step an event is, as code says it.
use Rattle.std.specs.Prelude.{◌≡◌, ◌⊎◌, List, Result, Ok, Err}
use Rattle.authenticator.specs.declared.member.Member.{Member}
use Rattle.packets.specs.Packet.{Delivery}
use Rattle.node_book.specs.witness_spec.Refusals as refusals
use Rattle.node_book.specs.witness_spec.Events.{JobParts, IsEvent}
use Rattle.node_book.specs.witness_spec.Events as spec
use Rattle.node_book.specs.witness_spec.Replies as replies
use Rattle.node_book.specs.witness_spec.Steps.{OwnStep}
use Rattle.node_book.specs.witness_spec.Steps as steps
use Rattle.node_book.specs.witness_spec.Whose.{delivered_step, whose}
use Rattle.node_book.specs.witness_spec.Histories.{MayWant, IsWanting}
use Rattle.node_book.specs.Events.{event_in, step_in}
use Rattle.node_book.specs.Replies.{refusal_in, reply_in}
use Rattle.node_book.specs.Stepping.{StepMayWant, step_refused}
use Rattle.node_book.specs.declared.event.EventOf.{EventOf}
use Rattle.node_book.specs.declared.refusal.Refusal.{Refusal}
use Rattle.node_book.specs.declared.step.Step.{Step}
use Rattle.witness_books.specs.Memory.{AreBytes}
use Rattle.witness_books.specs.declared.route.Routed.{Routed}
use Rattle.witness_books.specs.declared.route.Routed.TheVariants as r

-- ---- whose a step is

-- A member is the one whose step it is, whatever the step; or the step is refused so, whatever it is.
abbrev pub OwnerIs : (steps.Step → Result OwnStep refusals.Refusal) → Result Member Refusal → Type 0
OwnerIs owed (Ok m) = (step : steps.Step) → owed step ≡ Ok (record { member = m; step = step })
OwnerIs owed (Err refusal) = (step : steps.Step) → owed step ≡ Err (refusal_in refusal)

-- A step was given to its member; or it was refused as its owner was.
abbrev pub IsGivenTo : Result Member Refusal → Step → Routed → Type 0
IsGivenTo owner step (r.Step m s) = (owner ≡ Ok m) × (s ≡ step)
IsGivenTo owner step (r.Refused reply) =
    (f : Refusal) × ((owner ≡ Err f) × (reply_in reply ≡ step_refused (step_in step) (refusal_in f)))

-- ---- bytes

-- What is delivered is this step of this member, which is refused as bytes are.
pub record IsDelivered (ms : List Member) (d : Delivery) (m : Member) (step : steps.Step) : Type 0 where
  pub whose_is : delivered_step ms d ≡ Ok (record { member = m; step = step })
  pub refused_as : (f : refusals.Refusal) → replies.Refused f ≡ step_refused step f

-- What is delivered is nobody's step, for this reason, and is refused with it.
pub record IsStrangers (ms : List Member) (d : Delivery) (reply : replies.Reply) : Type 0 where
  pub why : refusals.Refusal
  pub whose_is : delivered_step ms d ≡ Err why
  pub is : reply ≡ replies.Refused why

-- What is delivered is a member's step; or it is refused, as it is nobody's or as memory ran out.
abbrev pub DeliversTo : List Member → Delivery → Routed → Type 0
DeliversTo ms d (r.Step m s) = IsDelivered ms d m (step_in s)
DeliversTo ms d (r.Refused reply) =
    IsStrangers ms d (reply_in reply) ⊎ (reply_in reply ≡ replies.Refused refusals.NoMemory)

-- ---- whose an event is

-- An event is this step of this member; as it is refused the step is, and it may run out of memory where the
-- step may.
pub record IsStepOf (ms : List Member) (event : spec.Event) (m : Member) (step : steps.Step) : Type 0 where
  pub whose_is : whose ms event ≡ Ok (record { member = m; step = step })
  pub refused_as : (f : refusals.Refusal) → replies.refused event f ≡ step_refused step f
  pub wants_as : StepMayWant step → MayWant event

-- An event is nobody's step, for this reason, and is refused with it.
pub record IsNobodys (ms : List Member) (event : spec.Event) (reply : replies.Reply) : Type 0 where
  pub why : refusals.Refusal
  pub whose_is : whose ms event ≡ Err why
  pub is : reply ≡ replies.refused event why

-- An event is a member's step; or it is refused, as it is nobody's or, bytes alone, as memory ran out.
abbrev pub GoesTo : List Member → spec.Event → Routed → Type 0
GoesTo ms event (r.Step m s) = IsStepOf ms event m (step_in s)
GoesTo ms event (r.Refused reply) =
    IsNobodys ms event (reply_in reply) ⊎ (AreBytes event × IsWanting event (reply_in reply))

-- What was handed over is an event, and is routed to its member, or refused.
pub record RoutesTo (ms : List Member) (event : EventOf JobParts JobParts) (routed : Routed) : Type 0 where
  pub is_event : IsEvent (event_in event)
  pub goes : GoesTo ms (event_in event) routed
