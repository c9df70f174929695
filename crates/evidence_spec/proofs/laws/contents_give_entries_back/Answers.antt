use Rattle.evidence_spec.specs.Proving.{entry_texts}
use Rattle.replay_spec.proofs.secure_log.OfLogEntries.FewerTexts.{left, right}
use Rattle.evidence_spec.proofs.Contents.{one_entry}
use Rattle.evidence_spec.proofs.laws.contents_give_entries_back.Goals as goal
use Rattle.std.proofs.Common.{◌++◌}

-- the texts of both entries are among those of which no two have one digest
pub returns : goal.returns
returns c = λ e f fits fits' unlike same.
    one_entry (entry_texts e ++ entry_texts f) unlike e f fits fits' (left (entry_texts e) (entry_texts f))
    (right (entry_texts e) (entry_texts f)) same
