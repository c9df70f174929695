-- The lines of a run, one part after the other.
-- Serves: serve.
use Rattle.std.proofs.Common.{◌≡◌, ℕ, List, ◌++◌, Option, Result, Ok, Err, true, false}
use Rattle.std.proofs.KnownBytes.{Appends-trans}
use Rattle.std.specs.Prelude.{IfOk, IsOk, OnOk}
use Rattle.std.specs.Io.KnownBytes.{Appends}
use Rattle.std.specs.List.{flat_map}
use Rattle.serving.specs.Runs.{WritesLines, listening_line}
use Rattle.serving.specs.auditing.Lines.{report_line}
use Rattle.serving.specs.auditing.witness_reports.declared.report.NodeReport.{NodeReport}

-- where the first line was written, and then the others, all lines are
pub lines-written : {A E F U : Type 0} (reports : A → List NodeReport) (port : ℕ) (a b c : Option (List ℕ))
    (done : Result U F) (r : Result A E) → IsOk done → OnOk done (Appends a b (listening_line port))
    → IfOk r (λ f. Appends b c (flat_map report_line (reports f)))
    → IfOk r (λ f. WritesLines a (reports f) c)
lines-written reports port a b c (Ok u) (Ok f) ok first others =
    record { port = port; wrote = Appends-trans a b c (listening_line port) (flat_map report_line (reports f)) first others }
lines-written reports port a b c (Ok u) (Err e) ok first others = tt
lines-written reports port a b c (Err x) r ok first others = let differs : false ≡ true = ok in absurd cc
