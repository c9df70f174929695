-- The state of what is seen of a node.
-- Serves: `State::is_a_state`, and the crates above that keep a state.
use Rattle.std.proofs.Common.{◌≡◌, ap}
use Rattle.state_machine.specs.KeptState.{KeptState}

-- what is seen of a node has one state
pub state_seen : {a b : KeptState} → a ≡ b → a.state ≡ b.state
state_seen e = ap (λ (k : KeptState). k.state) e
