use Rattle.state_spec.proofs.Forth.{forth, rises_where_said}
use Rattle.state_spec.proofs.laws.states_say_what_rises.Goals as goal

-- both ways
pub returns : goal.returns
returns c = λ v fits. (rises_where_said v, forth v fits)
