-- States that nodes begin with have no messages.
-- Serves: opening_state.
use Rattle.std.proofs.Common.{◌≡◌, ℕ, Result, Ok, Err, IfOk, ap, ◌∙◌}
use Rattle.std.specs.FinMap as finite
use Rattle.std.specs.Ordering.{nat_cmp}
use Rattle.checkpoint.specs.state_machine.KeptState.{KeptState}
use Rattle.checkpoint.specs.state_spec.State.{received_cmp, SentMessage, Machine, State, opened_with}

module _ (node : ℕ) (machine : Machine) where
  -- none is received
  pub none_received : (s : State) → s ≡ opened_with node machine → finite.len s.received ≡ 0
  none_received s is = ap (λ (x : State). finite.len x.received) is ∙ finite.len-empty received_cmp (Unit {0})

  -- none is sent
  pub none_sent : (s : State) → s ≡ opened_with node machine → finite.len s.sends ≡ 0
  none_sent s is = ap (λ (x : State). finite.len x.sends) is ∙ finite.len-empty nat_cmp SentMessage

  module _ {E : Type 0} where
    -- nor in the state that a call gives
    pub gives_none_received : (r : Result KeptState E) → IfOk r (λ s. s.state ≡ opened_with node machine)
        → IfOk r (λ s. finite.len s.state.received ≡ 0)
    gives_none_received (Ok s) is = none_received s.state is
    gives_none_received (Err e) is = tt

    -- nor is any message sent there
    pub gives_none_sent : (r : Result KeptState E) → IfOk r (λ s. s.state ≡ opened_with node machine)
        → IfOk r (λ s. finite.len s.state.sends ≡ 0)
    gives_none_sent (Ok s) is = none_sent s.state is
    gives_none_sent (Err e) is = tt
