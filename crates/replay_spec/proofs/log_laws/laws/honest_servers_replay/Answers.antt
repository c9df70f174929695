use Rattle.std.proofs.Common.{◌++◌, subst}
use Rattle.secure_log.specs.LogEntries.Chain.{span}
use Rattle.secure_log.specs.Log.{log_hash}
use Rattle.state_spec.specs.server_spec.Replies.{reply_owed}
use Rattle.replay_spec.specs.HonestLogs.{IsHonestLog}
use Rattle.replay_spec.proofs.Logs.{grows}
use Rattle.replay_spec.specs.LogLaws.HonestServers.{heard_entries}
use Rattle.replay_spec.proofs.OfLogLaws.Serving.{server_replays}
use Rattle.replay_spec.proofs.log_laws.laws.honest_servers_replay.Goals as goal

pub returns-clause-replay : goal.returns-clause-replay
returns-clause-replay c = λ ms s w from seq prev body signature time number before skipped h.
    server_replays ms s w from seq prev body signature time h number before skipped

pub returns-clause-log : goal.returns-clause-log
returns-clause-log c = λ ms o s log w from seq prev body signature time skipped honest h.
    let run = server_replays ms s w from seq prev body signature time h (span log) (log_hash log) skipped in
    let entries = heard_entries skipped from seq prev body signature time (reply_owed w time body) in
    subst (IsHonestLog ms o (log ++ entries)) run.2 (grows ms o s log entries run.0 honest run.1)
