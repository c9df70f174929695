use Rattle.replay_spec.proofs.Runs.{joined, second}
use Rattle.replay_spec.proofs.laws.parts_are_honest.Goals as goal

-- both ways: the parts joined, and the second part of the whole
pub returns : goal.returns
returns c = λ ms s ps qs ts us h. (second ms s ps qs ts us h, joined ms s ps qs ts us h)
