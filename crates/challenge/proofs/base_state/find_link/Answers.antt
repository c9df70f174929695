use Rattle.std.proofs.Common.{◌≡◌, ◌+◌, ◌-◌, ◌<◌, ◌≤◌, ◌∙◌, ap, arith, drop, length, rules, sym}
use Rattle.std.proofs.lemmas.List.{drop_all}
use Rattle.evidence_showings.proofs.Words.{head_is}
use Rattle.challenge.specs.BaseStates.{link_at}
use Rattle.challenge.proofs.BaseStates.{first_has, first_has_not, none_up_to}
use Rattle.challenge.proofs.base_state.find_link.Goals as goal

pub returns-then-number-before : goal.returns-then-number-before
returns-then-number-before c =
    sym (none_up_to c.args.before c.args.links.now c.args.number (omega (arith, c.if-number-before.true)))

pub loop-place-init : goal.loop-place-init
loop-place-init c =
    let back : c.args.number - (c.args.number - c.args.before) ≡ c.args.before =
    omega (arith, c.if-number-before.false) in
    record { low = omega arith; same = ap (λ k. link_at k c.args.links.now c.args.number) back }

pub returns-then-taken-left : goal.returns-then-taken-left
returns-then-taken-left c =
    let links = c.args.links.now in
    let at = c.args.number - c.loop-place.left in
    let x = c.index-links-place.result in
    let there : c.loop-place.place < length links = search rules in
    let here = head_is links c.loop-place.place x there c.index-links-place.is in
    let number : at + 1 + x.skipped ≡ c.args.number =
    omega (
      arith,
      c.if-taken-left.true,
      c.from-taken.ensures,
      c.skipped.ensures,
      c.loop-place.invariant.low,
    ) in
    sym (first_has at x (drop (c.loop-place.place + 1) links) c.args.number number)
    ∙ ap (λ ks. link_at at ks c.args.number) (sym here) ∙ c.loop-place.invariant.same

pub returns-then-taken-left-2 : goal.returns-then-taken-left-2
returns-then-taken-left-2 c =
    let links = c.args.links.now in
    let at = c.args.number - c.loop-place.left in
    let x = c.index-links-place.result in
    let rest = drop (c.loop-place.place + 1) links in
    let there : c.loop-place.place < length links = search rules in
    let here = head_is links c.loop-place.place x there c.index-links-place.is in
    let past : c.args.number < at + 1 + x.skipped =
    omega (
      arith,
      c.if-taken-left-2.true,
      c.from-taken.ensures,
      c.skipped.ensures,
      c.loop-place.invariant.low,
    ) in
    sym (none_up_to (at + 1 + x.skipped) rest c.args.number (omega (arith, past)))
    ∙ sym (first_has_not at x rest c.args.number (λ e. omega (arith, e, past)))
    ∙ ap (λ ks. link_at at ks c.args.number) (sym here) ∙ c.loop-place.invariant.same

pub loop-place-preserved : goal.loop-place-preserved
loop-place-preserved c =
    let links = c.args.links.now in
    let at = c.args.number - c.loop-place.left in
    let x = c.index-links-place.result in
    let rest = drop (c.loop-place.place + 1) links in
    let there : c.loop-place.place < length links = search rules in
    let here = head_is links c.loop-place.place x there c.index-links-place.is in
    let next : c.args.number - (c.loop-place.left - (1 + c.from-taken.result)) ≡ at + 1 + x.skipped =
    omega (
      arith,
      c.if-taken-left-2.false,
      c.from-taken.ensures,
      c.skipped.ensures,
      c.loop-place.invariant.low,
    ) in
    let before : at + 1 + x.skipped < c.args.number =
    omega (
      arith,
      c.if-taken-left.false,
      c.if-taken-left-2.false,
      c.from-taken.ensures,
      c.skipped.ensures,
      c.loop-place.invariant.low,
    ) in
    record {
      low = omega (arith, c.loop-place.invariant.low);
      same = ap (λ k. link_at k rest c.args.number) next
          ∙ sym (first_has_not at x rest c.args.number (λ e. omega (arith, e, before)))
          ∙ ap (λ ks. link_at at ks c.args.number) (sym here) ∙ c.loop-place.invariant.same;
    }

pub returns : goal.returns
returns c =
    let at = c.args.number - c.loop-place.left in
    let all : length c.args.links.now ≤ c.loop-place.place = search rules in
    ap (λ ks. link_at at ks c.args.number) (sym (drop_all c.loop-place.place c.args.links.now all))
    ∙ c.loop-place.invariant.same
