use Rattle.replay_spec.proofs.OfStateLaws.Telling.{tells}
use Rattle.replay_spec.proofs.state_laws.digests_tell_states.Goals as goal

pub returns : goal.returns
returns c = tells
