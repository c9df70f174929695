use Rattle.std.proofs.Common.{◌≡◌, take}
use Rattle.std.specs.Prelude.{All}
use Rattle.auditing.specs.AuditOutputs.{Goes, IsShown}
use Rattle.auditing.specs.declared.trouble.Trouble.TheVariants as troubles
use Rattle.auditing.proofs.report.put_evidence.Given as goal

-- the evidence of the reports so far is there, where nothing has gone wrong
abbrev pub invariant-loop-report : goal.invariant-loop-report
invariant-loop-report g l = record {
  goes : Goes g.S.Shelf.files l.fn.output l.output;
  put : l.output.trouble ≡ troubles.None
      → All (IsShown (g.S.Shelf.files l.output.shelf) l.folder l.roster) (take l.report-index l.reports);
}
