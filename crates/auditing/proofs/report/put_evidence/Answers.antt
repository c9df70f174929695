use Rattle.auditing.proofs.Putting.{goes-on, shown-all, shown-more}
use Rattle.auditing.proofs.report.put_evidence.Goals as goal

pub loop-report-preserved : goal.loop-report-preserved
loop-report-preserved g c = record {
  goes = goes-on _ _ _ _ c.loop-report.invariant.goes c.put_report.ensures.goes;
  put = λ h.
      shown-more _ _ c.args.folder.now c.args.roster.now c.args.reports.now c.loop-report.report-index
      c.report-item.result c.loop-report-test.true c.report-item.is c.put_report.ensures.goes.kept
      (c.loop-report.invariant.put (c.put_report.ensures.goes.calm h)) (c.put_report.ensures.put h);
}

pub returns-clause-put : goal.returns-clause-put
returns-clause-put g c h =
    shown-all _ c.args.folder.now c.args.roster.now c.args.reports.now c.loop-report.report-index
    c.loop-report-test.false (c.loop-report.invariant.put h)
