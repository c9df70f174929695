use Rattle.std.proofs.Common.{◌≡◌, List, ◌++◌, map, take, drop}
use Rattle.witness_reports.specs.Reports.{AreAnswersOf}
use Rattle.witness_reports.specs.declared.report.NodeReport.{NodeReport}
use Rattle.witness_reports.proofs.report.reports_of.Given as goal

-- whatever answers the rest answers, behind what was made so far, all
abbrev pub invariant-loop-member : goal.invariant-loop-member
invariant-loop-member l = record {
  whole : (more : List NodeReport) → AreAnswersOf more l.rest
      → AreAnswersOf (l.reports.items ++ more) (drop l.start l.places);
  nodes : map (λ r. r.node) l.reports.items ≡ map (λ m. m.node) (take l.member-index l.members);
}
