use Rattle.std.proofs.Common.{rules}
use Rattle.replay_spec.specs.Stepping.{step}
use Rattle.witness_examples.proofs.limits.limits.the_second_audit.Goals as goal

pub returns-clause-own : goal.returns-clause-own
unfolding step
returns-clause-own c = search rules

pub returns-clause-end : goal.returns-clause-end
unfolding step
returns-clause-end c = search rules

pub returns-clause-audited : goal.returns-clause-audited
unfolding step
returns-clause-audited c = search rules
