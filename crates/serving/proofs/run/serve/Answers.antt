use Rattle.serving.proofs.Runs.{lines-written}
use Rattle.serving.proofs.run.serve.Goals as goal

pub returns-clause-lines : goal.returns-clause-lines
returns-clause-lines g c =
    lines-written (λ f. f.reports.items) c.in_ok-port.port _ _ _ c.announce.result c.conclude.result
    c.in_ok-prepared-2.ensures.done c.announce.ensures c.conclude.ensures.lines
