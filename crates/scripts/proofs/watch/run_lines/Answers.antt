use Rattle.std.proofs.Common.{refl}
use Rattle.scripts.proofs.GivenBases.{of_none}
use Rattle.scripts.proofs.Running.{any_left, runs_left, runs_more}
use Rattle.scripts.proofs.watch.run_lines.Goals as goal

-- the texts of the lines that ran were written, and nothing since
pub returns-in_err-more-in-None-clause-bad : goal.returns-in_err-more-in-None-clause-bad
returns-in_err-more-in-None-clause-bad g c =
    any_left _ _ _ (runs_left _ _ _ _ _
    (runs_more _ _ _ _ _ _ c.loop.invariant.run (of_none _ c.in-None.is c.in_ok-base.ensures.turn)) refl)

-- one line more ran
pub loop-preserved : goal.loop-preserved
loop-preserved g c = record {
  run = runs_more _ _ _ _ _ _ c.loop.invariant.run (of_none _ c.in-None.is c.in_ok-base.ensures.turn);
  end = c.in_ok-more-in-None.ensures;
}
