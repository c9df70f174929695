use Rattle.state_spec.specs.StateValues.{state_from}
use Rattle.state_spec.proofs.Forth.{forth}
use Rattle.state_spec.proofs.Ruled.{rules_of_state, state_of_rules}
use Rattle.state_spec.proofs.laws.rules_tell_states.Goals as goal

-- both ways: by the state that says it, and by the one that the value gives
pub returns : goal.returns
returns c = λ v fits. (
  λ s. rules_of_state v s.0 s.1 s.2,
  λ rules. (state_from v, state_of_rules v fits rules, forth v fits rules.lists),
)
