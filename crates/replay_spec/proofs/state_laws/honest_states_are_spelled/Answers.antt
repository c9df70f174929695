use Rattle.replay_spec.proofs.OfStateLaws.Spelled.{spelled}
use Rattle.replay_spec.proofs.state_laws.honest_states_are_spelled.Goals as goal

pub returns : goal.returns
returns c = spelled c.worlds_stay_worlds.ensures.stays c.worlds_stay_worlds.ensures.short
