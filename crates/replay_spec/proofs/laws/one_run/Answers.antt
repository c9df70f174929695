use Rattle.replay_spec.proofs.Runs as runs
use Rattle.replay_spec.proofs.laws.one_run.Goals as goal

-- the law
pub returns : goal.returns
returns c = runs.one_run
