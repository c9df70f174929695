use Rattle.std.proofs.Common.{ap, rules}
use Rattle.witness_spec.specs.Starting.{Beginning}
use Rattle.scripts.proofs.Running.{any_lines_left, ended, ended_so, joins_more, joins_so, lines_left, no_joins}
use Rattle.scripts.proofs.Running.{no_turns, stopped}
use Rattle.scripts.proofs.script.run_witnesses.Goals as goal

-- nothing was run yet
pub loop-init : goal.loop-init
loop-init g c = record { joins = no_joins _ _; claims = c.requires.new; end = c.requires.end }

-- the last witness closed
pub returns-in_default-clause-end : goal.returns-in_default-clause-end
returns-in_default-clause-end g c =
    ended_so _ _ _ _ _ _ _ _ c.loop.invariant.joins c.in_ok-end.ensures.watched c.end_by.ensures

-- and all was written
pub returns-in_default-clause-turns : goal.returns-in_default-clause-turns
returns-in_default-clause-turns g c =
    ended _ _ _ _ _ _ _ _ c.loop.invariant.joins c.in_ok-end.ensures.watched c.end_by.ensures

-- a line of the last one stopped it
pub returns-in_err-end-clause-bad : goal.returns-in_err-end-clause-bad
returns-in_err-end-clause-bad g c =
    stopped _ _ _ _ _ _ _ c.loop.invariant.joins
    (search (rules, c.in_err-end.ensures.bad, c.from_residual.ensures))

-- one more closed, and another one began, before a line couldn't be read
pub returns-in_err-more-clause-bad : goal.returns-in_err-more-clause-bad
returns-in_err-more-clause-bad g c =
    any_lines_left _ _ _ _
    (lines_left _ _ _ _ _ _
    (joins_more _ _ _ _ _ _ _ _ _ c.loop.invariant.joins c.in_ok-end.ensures.watched c.in_ok-witness.ensures.wrote
    (_, ap (λ (b : Beginning). b.bases) c.in_ok-witness.ensures.began)) (no_turns _))

-- or was read
pub loop-preserved : goal.loop-preserved
loop-preserved g c = record {
  joins = joins_so _ _ _ _ _ _ _ _ _ _ c.loop.invariant.joins c.in_ok-end.ensures.watched
      c.in_ok-witness.ensures.wrote (_, ap (λ (b : Beginning). b.bases) c.in_ok-witness.ensures.began)
      c.fault_after-fault.ensures;
  claims = c.in_ok-witness.ensures.claims;
  end = c.in_ok-more.ensures;
}

-- more lines than can be counted
pub returns-clause-bad : goal.returns-clause-bad
returns-clause-bad g c = λ bad. lines_left _ _ _ _ _ _ c.loop.invariant.joins (no_turns _)
