use Rattle.replay_spec.proofs.OfStateLaws.TextsSpelled.{of_texts}
use Rattle.replay_spec.proofs.state_laws.texts_are_spelled.Goals as goal

pub returns : goal.returns
returns c = of_texts
