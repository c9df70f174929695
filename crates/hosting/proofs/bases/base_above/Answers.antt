use Rattle.std.proofs.Common.{List, ◌+◌, refl, ap, ◌∙◌}
use Rattle.secure_log.specs.LogEntries.Chain.{Logged, span}
use Rattle.node_logs.specs.Nodes.{NodeParts}
use Rattle.hosting.specs.BaseGiving.{is_base}
use Rattle.hosting.proofs.Based.{later, none_above, one_more, past_one}
use Rattle.hosting.proofs.bases.base_above.Goals as goal

pub returns-in-Some : goal.returns-in-Some
returns-in-Some c =
    is_base (c.loop-number.number + 1) c.in-Some.base.items
    (later c.args.after c.loop-number.number c.loop-number.invariant.past)
    (rw (c.in-Some.is) at c.in_ok-base.ensures.given) refl

pub loop-number-preserved : goal.loop-number-preserved
loop-number-preserved c = record {
  past = past_one c.args.after c.loop-number.number c.loop-number.invariant.past;
  none = one_more c.args.server.now c.args.after c.loop-number.number c.loop-number.invariant.none
      (rw (c.in_default.is) at c.in_ok-base.ensures.none);
}

pub returns : goal.returns
returns c =
    none_above c.args.server.now c.args.after c.loop-number.number c.get-last.result
    (c.get-last.ensures.value
    ∙ (c.last_number.ensures
    ∙ (ap (λ (e : List Logged). span e) c.log.ensures.entries
    ∙ ap (λ (n : NodeParts). span n.entries) c.node.ensures.node)))
    c.loop-number-test.false c.loop-number.invariant.none
