-- What a state is after a message was taken in and answered, and after that was taken back.
-- Serves: State::answer, State::make_place, State::serve.
use Rattle.std.proofs.Common.{◌≡◌, ℕ, List, Bool, true, false, Option, Some, None, Result, Ok, Err, is_some}
use Rattle.std.proofs.Common.{true≢false, refl, sym, ap, subst, ◌∙◌}
use Rattle.std.specs.Prelude.{OnOk, OnErr}
use Rattle.std.specs.FinMap as finite
use Rattle.std.specs.Ordering.{nat_cmp}
use Rattle.std.specs.Cmp.{nat_cmp_total}
use Rattle.service.specs.nfs_items.Timeval.{Timeval}
use Rattle.state_spec.proofs.Orders.{received_total}
use Rattle.state_machine.proofs.OfStates.Again.{received_exact, taken_again}
use Rattle.state_spec.specs.State.{ReceivedMessage, is_received, Machine, Server, Client, State}
use Rattle.state_machine.specs.Machines.{IsOf}
use Rattle.state_spec.specs.Steps.{having_received, having_forgotten, having_sent, having_acknowledged}
use Rattle.state_spec.specs.Steps.{having_answered, having_served, HasPlace}
use Rattle.state_machine.proofs.Numbers.{after_record}

-- a machine that answered is of the same node
pub same_node_answered : (node : ℕ) (m : Machine) (time : Timeval) (body : List ℕ) → IsOf node m
    → IsOf node (having_answered m time body)
same_node_answered node (Server w stage) time body own = after_record w time body ∙ own
same_node_answered node (Client clock) time body own = tt

-- and so is one that tried to
pub same_node_tried : {A E : Type 0} (node : ℕ) (m n : Machine) (time : Timeval) (body : List ℕ)
    (r : Result A E)
    → OnOk r (n ≡ having_answered m time body) → OnErr r (n ≡ m) → IsOf node m → IsOf node n
same_node_tried node m n time body (Ok x) ok err own =
    subst (IsOf node) (sym ok) (same_node_answered node m time body own)
same_node_tried node m n time body (Err e) ok err own = subst (IsOf node) (sym err) own

nothing_there : (x : Option (Unit {0})) → is_some x ≡ false → x ≡ None
nothing_there None e = refl
nothing_there (Some u) e = absurd (true≢false e)

module _ (s : State) (m : ReceivedMessage) where
  -- a message that was new, taken in and out again, leaves the state
  pub forgotten_again : is_received s.received m ≡ false → having_forgotten (having_received s m) m ≡ s
  forgotten_again fresh = λ i. record s {
    received =
        taken_again received_total received_exact s.received m tt
        (nothing_there (finite.get s.received m) fresh) i;
  }

  module _ (seq : ℕ) (t : State) (place : HasPlace (having_received s m) seq t) where
    -- the machine is the one before
    pub same_machine : t.machine ≡ s.machine
    same_machine = ap {A = State} (λ u. u.machine) place.1

    -- the message is taken in and answered, with room for a reply
    pub served_with_place : (time : Timeval) (body : List ℕ)
        → HasPlace (having_served s m time body) seq
        (record t { machine = having_answered t.machine time body })
    served_with_place time body =
        (place.0, ap {A = State} (λ u. record u { machine = having_answered u.machine time body }) place.1)

    module _ (unused : finite.get s.sends seq ≡ None) where
      without_place : finite.remove (finite.insert s.sends seq place.0) seq ≡ s.sends
      without_place =
          taken_again nat_cmp_total finite.nat_cmp-IsAntisymmetric s.sends seq place.0 unused

      -- without that room, where no reply is owed
      pub served_without_place : (time : Timeval) (body : List ℕ)
          → having_acknowledged (record t { machine = having_answered t.machine time body }) seq
          ≡ having_served s m time body
      served_without_place time body =
          ap {A = State} (λ u. having_acknowledged
          (record u { machine = having_answered u.machine time body }) seq) place.1
          ∙ (λ i. record (having_served s m time body) { sends = without_place i })

      -- the room and the message taken out again leave the state
      pub taken_back : is_received s.received m ≡ false
          → having_forgotten (having_acknowledged t seq) m ≡ s
      taken_back fresh =
          ap {A = State} (λ u. having_forgotten (having_acknowledged u seq) m) place.1
          ∙ (λ i. having_forgotten (record (having_received s m) { sends = without_place i }) m)
          ∙ forgotten_again fresh
