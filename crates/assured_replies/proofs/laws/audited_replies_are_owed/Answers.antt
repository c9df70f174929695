use Rattle.std.proofs.Common.{◌++◌}
use Rattle.secure_log.proofs.OfLogEntries.FewerTexts.{left, right}
use Rattle.witness_spec.specs.Histories.{own_of}
use Rattle.assured_replies.specs.Laws.{audited_texts, message_texts}
use Rattle.assured_replies.proofs.Owed.{reply_answered}
use Rattle.assured_replies.proofs.laws.audited_replies_are_owed.Goals as goal

-- by the entry that was shown, and how a server comes to it
pub returns : goal.returns
returns c = λ g w history e for_it fits there unlike.
    let past = own_of w history in
    reply_answered w past for_it.roster for_it.server for_it.idle
    (c.audited_logs_are_honest.ensures g w history for_it.roster for_it.watched for_it.happened for_it.not_exposed)
    e fits for_it.above for_it.filed there (audited_texts w past ++ message_texts e) unlike
    (left (audited_texts w past) (message_texts e)) (right (audited_texts w past) (message_texts e))
