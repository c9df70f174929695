use Rattle.std.proofs.Common.{◌∙◌, sym}
use Rattle.challenge.proofs.BaseStates.{no_link, other_kind}
use Rattle.challenge.proofs.base_state.link_at_number.Goals as goal

pub returns-in_default-clause-none : goal.returns-in_default-clause-none
returns-in_default-clause-none c =
    let none = rw (
      c.first.ensures,
      c.links.ensures.links,
      c.get.ensures.value,
      c.at.ensures,
      c.showing-showing.ensures,
    ) at c.in_default.ensures in
    no_link c.args.base.now (sym none)

pub returns-then-number-clause-none : goal.returns-then-number-clause-none
returns-then-number-clause-none c =
    let is = rw (
      c.first.ensures,
      c.links.ensures.links,
      c.get.ensures.value,
      c.at.ensures,
      c.showing-showing.ensures,
    ) at c.in-Some.ensures in
    other_kind c.args.base.now c.in-Some.link.now (sym is)
    (λ e. c.if-number.true (c.number.ensures ∙ c.kind.ensures ∙ e ∙ sym c.number-2.ensures))
