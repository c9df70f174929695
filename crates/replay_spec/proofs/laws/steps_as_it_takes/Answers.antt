use Rattle.replay_spec.proofs.Stepping.{takes_step, step_takes}
use Rattle.replay_spec.proofs.laws.steps_as_it_takes.Goals as goal

-- both ways
pub returns : goal.returns
returns c = λ ms s t p. (takes_step ms s t p, step_takes ms s t p)
