use Rattle.std.proofs.Common.{length, ◌+◌, ◌-◌}
use Rattle.tree_rules.proofs.OfFileRules.Climbs.{AreSteps}
use Rattle.tree_rules.proofs.climb.leads_up.Given as goal

abbrev pub invariant-loop-steps : goal.invariant-loop-steps
invariant-loop-steps l = AreSteps l.above l.steps l.up.items

abbrev pub decreases-loop-steps : goal.decreases-loop-steps
decreases-loop-steps l = length l.above + 1 - l.steps
