use Rattle.std.proofs.Common.{◌≡◌, string_bytes, take}
use Rattle.std.specs.List.{flat_map}
use Rattle.auditing.specs.Lines.{report_line}
use Rattle.auditing.proofs.lines.write_reports.Given as goal

-- the text has the lines of the reports so far
abbrev pub invariant-loop-report : goal.invariant-loop-report
invariant-loop-report g l = string_bytes l.text ≡ flat_map report_line (take l.report-index l.reports)
