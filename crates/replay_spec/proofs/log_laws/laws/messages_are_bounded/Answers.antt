use Rattle.replay_spec.proofs.OfLogLaws.Counts.{counted_on, lie_low}
use Rattle.replay_spec.proofs.log_laws.laws.messages_are_bounded.Goals as goal

pub returns-clause-count : goal.returns-clause-count
returns-clause-count c = counted_on

pub returns-clause-numbers : goal.returns-clause-numbers
returns-clause-numbers c = lie_low
