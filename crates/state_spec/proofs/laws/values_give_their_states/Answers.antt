use Rattle.state_spec.proofs.Back.{back}
use Rattle.state_spec.proofs.laws.values_give_their_states.Goals as goal

-- the law
pub returns : goal.returns
returns c = λ s h. back s h
