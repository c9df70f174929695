use Rattle.replay_spec.proofs.OfLogLaws.Received.{logged, at_recv}
use Rattle.replay_spec.specs.LogLaws.LoggedMessages.{entries_of}
use Rattle.replay_spec.proofs.log_laws.laws.no_message_twice.Goals as goal

pub returns-clause-places : goal.returns-clause-places
returns-clause-places c = λ ms o s log j k m h x y.
    (logged ms o log s h).once j k m (at_recv o.node (entries_of log) j m x) (at_recv o.node (entries_of log) k m y)

pub returns-clause-before : goal.returns-clause-before
returns-clause-before c = λ ms o s log k m h x.
    (logged ms o log s h).fresh k m (at_recv o.node (entries_of log) k m x)
