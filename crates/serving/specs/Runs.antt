-- How a run of the service comes to its end.
use Rattle.std.specs.Prelude.{◌≡◌, ℕ, true, List, ◌++◌, All, Option, codes, decimal}
use Rattle.std.specs.Io.KnownBytes.{Appends}
use Rattle.std.specs.List.{flat_map}
use Rattle.auditing.specs.Accounts.{HasAccount}
use Rattle.auditing.specs.Lines.{report_line}
use Rattle.auditing.specs.witness_reports.Audits.{are_forwarded}
use Rattle.auditing.specs.witness_reports.Reports.{EndsWith}
use Rattle.auditing.specs.witness_reports.declared.report.NodeReport.{NodeReport}
use Rattle.node_logs.specs.Steps.Nodes.{NodeParts}
use Rattle.witness_service.specs.declared.shared.Closed.{Closed}

-- The journal accounts for the logs of the server and of the clients, and all that they showed of others was
-- handed on.
pub record AreAccounted (c : Closed) (server : NodeParts) (clients : List NodeParts) (rs : List NodeReport)
    : Type 0 where
  pub forwarded : are_forwarded c.journal.places ≡ true
  pub of_server : HasAccount rs c.journal.places server
  pub of_clients : All (HasAccount rs c.journal.places) clients

-- The last places of the journal are the answers of which the reports are made, one for each member of the
-- roster with which the witness was opened; and it accounts for everybody's log.
pub record IsReported (c : Closed) (server : NodeParts) (clients : List NodeParts) (rs : List NodeReport)
    : Type 0 where
  pub ends : EndsWith c.journal.books.roster c.journal.places rs
  pub accounted : AreAccounted c server clients rs

-- the first line of a run
abbrev pub listening_line : (port : ℕ) → List ℕ
listening_line port = codes "listening " ++ (decimal port ++ codes "\n")

-- The line that a run listens is written, and after it one for each report, where it is known what is
-- written.
pub record WritesLines (old : Option (List ℕ)) (rs : List NodeReport) (new : Option (List ℕ)) : Type 0 where
  pub port : ℕ
  pub wrote : Appends old new (listening_line port ++ flat_map report_line rs)
