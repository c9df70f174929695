use Rattle.std.proofs.Common.{◌≡◌, ◌+◌, ◌∙◌, ap, arith, subst, suc}
use Rattle.explain.specs.Numbers.{IsNumber, next_number, number_at}
use Rattle.explain.proofs.places.Log.number.Goals as goal

pub loop-place-init : goal.loop-place-init
loop-place-init c = c.numbers-numbers.ensures

pub loop-place-preserved : goal.loop-place-preserved
loop-place-preserved c =
    let first = c.args.self.now.audited.now.first in
    let log = c.args.self.now.audited.now.entries in
    let before = next_number first log c.loop-place.place in
    let next : suc c.loop-place.place ≡ c.loop-place.place + 1 = omega arith in
    let number : before + c.skipped.result + 1 ≡ next_number first log (c.loop-place.place + 1) =
    ap (λ s. before + s + 1) c.skipped.ensures ∙ ap (next_number first log) next in
    subst (IsNumber c.after.new.self.next) number (c.after.ensures.next before c.loop-place.invariant)

pub returns : goal.returns
returns c =
    let first = c.args.self.now.audited.now.first in
    let log = c.args.self.now.audited.now.entries in
    let there : c.loop-place.place ≡ c.args.at = omega (arith, c.loop-place-test.false, c.loop-place.auto.place-end) in
    let number : next_number first log c.loop-place.place + c.skipped-2.result ≡ number_at first log c.args.at =
    ap (λ k. next_number first log k + c.skipped-2.result) there
    ∙ ap (λ s. next_number first log c.args.at + s) c.skipped-2.ensures in
    subst (IsNumber c.after-2.result) number
    (c.after-2.ensures.number (next_number first log c.loop-place.place) c.loop-place.invariant)
