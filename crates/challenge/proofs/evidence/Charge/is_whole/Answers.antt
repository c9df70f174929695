use Rattle.std.proofs.Common.{sym, ◌∙◌}
use Rattle.challenge.proofs.Logs.{whole_replay}
use Rattle.challenge.proofs.evidence.Charge.is_whole.Goals as goal

pub returns-in-Fork : goal.returns-in-Fork
returns-in-Fork c = rw c.in-Fork.is c.is_whole.ensures

-- a log is whole as its own call says
pub returns-in-Replay : goal.returns-in-Replay
returns-in-Replay c = rw c.in-Replay.is (c.is_whole-in-Replay.ensures ∙ sym (whole_replay c.in-Replay.log.log_version c.in-Replay.log))

pub returns-in-Based : goal.returns-in-Based
returns-in-Based c = rw c.in-Based.is c.is_whole-in-Based.ensures
