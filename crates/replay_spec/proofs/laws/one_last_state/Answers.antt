use Rattle.replay_spec.proofs.Logs.{one_last, node_stays}
use Rattle.replay_spec.proofs.laws.one_last_state.Goals as goal

pub returns-clause-one : goal.returns-clause-one
returns-clause-one c = one_last

pub returns-clause-node : goal.returns-clause-node
returns-clause-node c = node_stays
