use Rattle.std.proofs.Common.{ℕ, List, arith, get_or, map, subst, sym, ap, ◌∙◌}
use Rattle.std.specs.List.{list_all}
use Rattle.std.specs.Prelude.{◌==◌}
use Rattle.tree_rules.specs.FileRules.Climbs.{AreWays}
use Rattle.tree_rules.proofs.OfFileRules.Climbs.{steps_within, steps_doubled, tells}
use Rattle.tree_rules.proofs.climb.leads_up.Goals as goal

pub doubled-requires : goal.doubled-requires
doubled-requires c =
    subst AreWays (sym c.deref.ensures.value)
    (steps_within c.args.above.now c.loop-steps.steps c.loop-steps.up.items c.requires c.loop-steps.invariant)

pub loop-steps-preserved : goal.loop-steps-preserved
loop-steps-preserved c =
    steps_doubled c.args.above.now c.loop-steps.steps c.loop-steps.up.items c.in_ok-up-2.up.items c.requires
    c.loop-steps.invariant
    (c.in_ok-up-2.ensures ∙ ap (λ (up : List ℕ). map (λ a. get_or up a 0) up) c.deref.ensures.value)

-- all places are at the first after these steps exactly where each leads up to it
pub returns : goal.returns
returns c =
    tells c.args.above.now c.loop-steps.steps c.loop-steps.up.items c.are_first.result c.loop-steps.invariant
    (omega arith)
    (c.are_first.ensures ∙ ap (list_all (λ p. p == 0)) c.deref-2.ensures.value)
