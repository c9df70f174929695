use Rattle.replay_spec.specs.secure_log.LogEntries.Chain.{zeros}
use Rattle.replay_spec.proofs.secure_log.Gaps.{logged_after}
use Rattle.replay_spec.proofs.secure_log.OfLogEntries.Marks.{one_mark}
use Rattle.evidence_spec.specs.Proving.{log_links}
use Rattle.evidence_spec.proofs.laws.one_mark_at_a_number.Goals as goal

-- a log's links are numbered after what they skip
pub returns : goal.returns
returns c = λ log number one other i j.
    one_mark 0 zeros (log_links log) number one other (logged_after 0 log) i j
