-- A step that was given to its owner is the event's, or what bytes deliver.
-- Serves: route and the functions for each kind of event.
use Rattle.std.proofs.Common.{◌≡◌, ◌⊎◌, inl, inr, ℕ, List, Result, Ok, Err, sym, ap, subst, ◌∙◌}
use Rattle.authenticator.specs.Roster.{member_of}
use Rattle.authenticator.specs.declared.member.Member.{Member}
use Rattle.authenticator.specs.declared.refusal.Refusal as checks
use Rattle.authenticator.specs.declared.refusal.Refusal.TheVariants as checking
use Rattle.packets.specs.Packet.{Delivery}
use Rattle.packets.specs.Judging.{Refuses, judged}
use Rattle.node_book.specs.witness_spec.Refusals.{refusal_of}
use Rattle.node_book.specs.witness_spec.Refusals as refusals
use Rattle.node_book.specs.witness_spec.Events.{JobParts, IsEvent}
use Rattle.node_book.specs.witness_spec.Events as spec
use Rattle.node_book.specs.witness_spec.Replies as replies
use Rattle.node_book.specs.witness_spec.Steps.{OwnStep}
use Rattle.node_book.specs.witness_spec.Steps as steps
use Rattle.node_book.specs.witness_spec.Whose.{step_of, delivered_step, judged_step, whose}
use Rattle.node_book.specs.witness_spec.Histories.{MayWant, IsWanting}
use Rattle.node_book.specs.Events.{event_in, step_in}
use Rattle.node_book.specs.Replies.{refusal_in}
use Rattle.node_book.specs.Stepping.{StepMayWant, step_refused}
use Rattle.node_book.specs.declared.event.EventOf.{EventOf}
use Rattle.node_book.specs.declared.refusal.Refusal.{Refusal}
use Rattle.node_book.specs.declared.step.Step.{Step}
use Rattle.witness_books.specs.declared.route.Routed.{Routed}
use Rattle.witness_books.specs.declared.route.Routed.TheVariants as r
use Rattle.witness_books.specs.Memory.{AreBytes}
use Rattle.witness_books.specs.Routing.{OwnerIs, IsGivenTo, IsDelivered, DeliversTo, IsStepOf}
use Rattle.witness_books.specs.Routing.{IsNobodys, GoesTo, RoutesTo}

module _ (owed : steps.Step → Result OwnStep refusals.Refusal) (owner : Result Member Refusal)
    (step : Step) where
  -- a step that is given to its owner goes where the event does
  pub given_goes : (ms : List Member) (event : spec.Event) (routed : Routed) → OwnerIs owed owner
      → IsGivenTo owner step routed → whose ms event ≡ owed (step_in step)
      → ((f : refusals.Refusal) → replies.refused event f ≡ step_refused (step_in step) f)
      → (StepMayWant (step_in step) → MayWant event) → GoesTo ms event routed
  given_goes ms event (r.Step m s) is given whose_is refused_as wants_as =
      let there : OwnerIs owed (Ok m) = subst (OwnerIs owed) given.0 is in
      let of_step : IsStepOf ms event m (step_in step) = record {
        whose_is = whose_is ∙ there (step_in step);
        refused_as = refused_as;
        wants_as = wants_as;
      } in
      subst (λ (x : Step). IsStepOf ms event m (step_in x)) (sym given.1) of_step
  given_goes ms event (r.Refused reply) is given whose_is refused_as wants_as =
      let there : OwnerIs owed (Err given.0) = subst (OwnerIs owed) given.1.0 is in
      inl (record {
        why = refusal_in given.0;
        whose_is = whose_is ∙ there (step_in step);
        is = given.1.1 ∙ sym (refused_as (refusal_in given.0));
      })

  -- a step that is given to its owner is what is delivered
  pub given_delivers : (ms : List Member) (d : Delivery) (routed : Routed) → OwnerIs owed owner
      → IsGivenTo owner step routed → delivered_step ms d ≡ owed (step_in step)
      → ((f : refusals.Refusal) → replies.Refused f ≡ step_refused (step_in step) f)
      → DeliversTo ms d routed
  given_delivers ms d (r.Step m s) is given whose_is refused_as =
      let there : OwnerIs owed (Ok m) = subst (OwnerIs owed) given.0 is in
      let of_step : IsDelivered ms d m (step_in step) = record {
        whose_is = whose_is ∙ there (step_in step);
        refused_as = refused_as;
      } in
      subst (λ (x : Step). IsDelivered ms d m (step_in x)) (sym given.1) of_step
  given_delivers ms d (r.Refused reply) is given whose_is refused_as =
      let there : OwnerIs owed (Err given.0) = subst (OwnerIs owed) given.1.0 is in
      inl (record {
        why = refusal_in given.0;
        whose_is = whose_is ∙ there (step_in step);
        is = given.1.1 ∙ sym (refused_as (refusal_in given.0));
      })

-- a step that is given to a node's member goes where the event does, of which the node is
pub named_routes : (ms : List Member) (node of_node : ℕ) (owner : Result Member Refusal) (step : Step)
    (event e : EventOf JobParts JobParts) (routed : Routed) → IsEvent (event_in event) → event ≡ e
    → OwnerIs (step_of (member_of ms node)) owner → IsGivenTo owner step routed → node ≡ of_node
    → whose ms (event_in e) ≡ step_of (member_of ms of_node) (step_in step)
    → ((f : refusals.Refusal) → replies.refused (event_in e) f ≡ step_refused (step_in step) f)
    → (StepMayWant (step_in step) → MayWant (event_in e)) → RoutesTo ms event routed
named_routes ms node of_node owner step event e routed is_event is owned given same whose_is refused_as
    wants_as =
    let there : whose ms (event_in e) ≡ step_of (member_of ms node) (step_in step) =
    whose_is ∙ ap (λ (n : ℕ). step_of (member_of ms n) (step_in step)) (sym same) in
    let goes : GoesTo ms (event_in e) routed =
    given_goes (step_of (member_of ms node)) owner step ms (event_in e) routed owned given there refused_as
    wants_as in
    record { is_event = is_event; goes = subst (λ x. GoesTo ms (event_in x) routed) (sym is) goes }

module _ (ms : List Member) (bytes : List ℕ) where
  -- what bytes deliver goes where they do
  pub delivery_goes : (d : Delivery) (routed : Routed) → judged ms bytes ≡ Ok d → DeliversTo ms d routed
      → GoesTo ms (spec.Deliver bytes) routed
  delivery_goes d (r.Step m s) is to = record {
    whose_is = ap (judged_step ms) is ∙ to.whose_is;
    refused_as = to.refused_as;
    wants_as = λ _. tt;
  }
  delivery_goes d (r.Refused reply) is (inl to) =
      inl (record { why = to.why; whose_is = ap (judged_step ms) is ∙ to.whose_is; is = to.is })
  delivery_goes d (r.Refused reply) is (inr to) = inr (tt, record { may = tt; is = to })

  -- the refusal of bytes goes where they do
  pub refusal_goes : (refusal : checks.Refusal) (reply : replies.Reply) → Refuses (judged ms bytes) refusal
      → reply ≡ replies.Refused (refusal_of refusal)
      → IsNobodys ms (spec.Deliver bytes) reply
      ⊎ (AreBytes (spec.Deliver bytes) × IsWanting (spec.Deliver bytes) reply)
  refusal_goes checking.UnknownNode reply is to =
      inl (record { why = refusals.UnknownNode; whose_is = ap (judged_step ms) is; is = to })
  refusal_goes checking.Garbage reply is to =
      inl (record { why = refusals.Garbage; whose_is = ap (judged_step ms) is; is = to })
  refusal_goes checking.BadSignature reply is to =
      inl (record { why = refusals.BadSignature; whose_is = ap (judged_step ms) is; is = to })
  refusal_goes checking.NoMemory reply is to = inr (tt, record { may = tt; is = to })
