use Rattle.std.proofs.Common.{◌≡◌, ◌+◌, ◌∙◌, ap, arith, rules, subst, suc}
use Rattle.std.specs.Prelude.{IsTrue}
use Rattle.explain.specs.Numbers.{IsNumber, next_number, number_at}
use Rattle.explain.proofs.EntryNumbers.{at_least, below_more}
use Rattle.explain.proofs.places.Log.count_below.Goals as goal

pub loop-at-init : goal.loop-at-init
loop-at-init c = record {
  next = c.numbers-numbers.ensures;
  below = λ at before. absurd (omega (arith, before));
}

pub returns-then-not-is_below : goal.returns-then-not-is_below
returns-then-not-is_below c =
    let first = c.args.self.now.audited.now.first in
    let log = c.args.self.now.audited.now.entries in
    let before = next_number first log c.loop-at.at in
    let its : IsNumber c.after.result (number_at first log c.loop-at.at) =
    subst (IsNumber c.after.result) (ap (λ s. before + s) c.skipped.ensures)
    (c.after.ensures.number before c.loop-at.invariant.next) in
    let is = c.is_below.ensures (number_at first log c.loop-at.at) its in
    record {
      few = omega (arith, c.loop-at-test.true, c.entries-at-end.ensures.count);
      below = c.loop-at.invariant.below;
      rest = λ inside. at_least (number_at first log c.loop-at.at) c.args.number
          (λ low. let yes : IsTrue c.is_below.result = is.1 low in search rules);
    }

pub loop-at-preserved : goal.loop-at-preserved
loop-at-preserved c =
    let first = c.args.self.now.audited.now.first in
    let log = c.args.self.now.audited.now.entries in
    let before = next_number first log c.loop-at.at in
    let next : suc c.loop-at.at ≡ c.loop-at.at + 1 = omega arith in
    let number : before + c.skipped.result + 1 ≡ next_number first log (c.loop-at.at + 1) =
    ap (λ s. before + s + 1) c.skipped.ensures ∙ ap (next_number first log) next in
    let its : IsNumber c.after.result (number_at first log c.loop-at.at) =
    subst (IsNumber c.after.result) (ap (λ s. before + s) c.skipped.ensures)
    (c.after.ensures.number before c.loop-at.invariant.next) in
    let yes : IsTrue c.is_below.result = search rules in
    let low = (c.is_below.ensures (number_at first log c.loop-at.at) its).0 yes in
    record {
      next = subst (IsNumber c.after.new.self.next) number (c.after.ensures.next before c.loop-at.invariant.next);
      below = below_more first log c.args.number c.loop-at.at low;
    }

pub returns : goal.returns
returns c = record {
  few = omega (arith, c.entries.ensures.count);
  below = λ at inside.
      c.loop-at.invariant.below at
      (omega (arith, inside, c.loop-at-test.false, c.entries.ensures.count, c.entries-at-end.ensures.count));
  rest = λ inside. absurd (omega (arith, inside, c.entries.ensures.count));
}
