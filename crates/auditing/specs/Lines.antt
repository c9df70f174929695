-- The lines of a run.
use Rattle.std.specs.Prelude.{ℕ, List, ◌++◌, codes, decimal}
use Rattle.witness_calls.specs.Telling.{indication_word}
use Rattle.witness_reports.specs.declared.report.NodeReport.{NodeReport}

-- the line of a report: `N INDICATION OPEN`
abbrev pub report_line : NodeReport → List ℕ
report_line r =
    decimal r.node
    ++ (codes " " ++ (indication_word r.indication ++ (codes " " ++ (decimal r.challenges ++ codes "\n"))))
