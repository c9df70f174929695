use Rattle.replay_spec.proofs.OfLogLaws.Received.{received_are_logged}
use Rattle.replay_spec.proofs.OfLogLaws.Sends.{sends_are_logged}
use Rattle.replay_spec.proofs.OfLogLaws.Counts.{counted}
use Rattle.replay_spec.proofs.log_laws.laws.messages_are_logged.Goals as goal

pub returns-clause-received : goal.returns-clause-received
returns-clause-received c = received_are_logged

pub returns-clause-sends : goal.returns-clause-sends
returns-clause-sends c = sends_are_logged

pub returns-clause-count : goal.returns-clause-count
returns-clause-count c = counted
