use Rattle.std.proofs.Common.{List, [], drop, subst, arith}
use Rattle.std.proofs.lemmas.List.{take_all, append-nil, nil_from_length}
use Rattle.witness_reports.specs.Reports.{AreAnswersOf}
use Rattle.witness_reports.specs.declared.report.NodeReport.{NodeReport}
use Rattle.witness_reports.proofs.report.reports_of.Goals as goal

pub returns-then-is_empty : goal.returns-then-is_empty
returns-then-is_empty c =
    let rs : List NodeReport = c.loop-member.reports.items in
    record {
      start = c.start_of-start.result;
      answers = subst (λ (all : List NodeReport). AreAnswersOf all (drop c.start_of-start.result c.args.places.now))
          (append-nil rs) (c.loop-member.invariant.whole [] (nil_from_length _ (grind (arith, c.if-is_empty.ensures))));
      nodes = rw (← take_all c.loop-member.member-index c.args.members.now c.loop-member-test.false)
          c.loop-member.invariant.nodes;
    }
