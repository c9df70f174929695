use Rattle.std.proofs.Common.{◌<◌, ◌≤◌, arith, length, refl, rules, subst, sym}
use Rattle.std.specs.List.{AllByRecursion}
use Rattle.std.proofs.lemmas.List.{drop_all}
use Rattle.evidence_showings.proofs.Words.{head_is}
use Rattle.challenge.proofs.BaseStates.{LiesBelow, same_words, sends_lie}
use Rattle.challenge.proofs.base_state.sends_lie_below.Goals as goal

pub loop-place-init : goal.loop-place-init
loop-place-init c = (λ h. h, λ h. h)

pub returns-then-number_of-number : goal.returns-then-number_of-number
returns-then-number_of-number c =
    let v = c.args.version in
    let number = c.args.number in
    let sent = c.in-Ok.parts.sends.items in
    let x = c.index.result.now in
    let there : c.loop-place.place < length sent = search rules in
    let here = head_is sent c.loop-place.place x there c.index.ensures in
    let words = same_words c.args.state.now.state c.in-Ok.parts c.args.text.now
    (λ i. omega (arith, c.type_inv.text i)) c.requires c.in-Ok.ensures.said in (
      (λ t. absurd cc),
      (λ each. absurd (omega (
        arith,
        (subst (AllByRecursion (LiesBelow v number)) here
            (c.loop-place.invariant.1 ((sends_lie v number c.args.state.now.state sent words).1 each))).0,
        c.if-number_of-number.true,
        c.number_of.ensures,
      ))),
    )

pub loop-place-preserved : goal.loop-place-preserved
loop-place-preserved c =
    let v = c.args.version in
    let number = c.args.number in
    let sent = c.in-Ok.parts.sends.items in
    let x = c.index.result.now in
    let there : c.loop-place.place < length sent = search rules in
    let here = head_is sent c.loop-place.place x there c.index.ensures in
    let below : LiesBelow v number x = omega (arith, c.if-number_of-number.false, c.number_of.ensures) in (
      (λ h. c.loop-place.invariant.0 (subst (AllByRecursion (LiesBelow v number)) (sym here) (below, h))),
      (λ all. (subst (AllByRecursion (LiesBelow v number)) here (c.loop-place.invariant.1 all)).1),
    )

pub returns : goal.returns
returns c =
    let v = c.args.version in
    let number = c.args.number in
    let sent = c.in-Ok.parts.sends.items in
    let all : length sent ≤ c.loop-place.place = search rules in
    let words = same_words c.args.state.now.state c.in-Ok.parts c.args.text.now
    (λ i. omega (arith, c.type_inv.text i)) c.requires c.in-Ok.ensures.said in
    let none = subst (AllByRecursion (LiesBelow v number)) (sym (drop_all c.loop-place.place sent all)) tt in (
      (λ t. (sends_lie v number c.args.state.now.state sent words).0 (c.loop-place.invariant.0 none)),
      (λ each. refl),
    )
