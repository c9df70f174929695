use Rattle.std.proofs.Common.{◌≤◌, length-append, arith, ◌∙◌}
use Rattle.std.proofs.lemmas.Result.{err_from_is_err_and}
use Rattle.xdr.specs.Item.{word}
use Rattle.xdr.specs.ArraysAndUnions.{goes_on, fails, ends, array_at}
use Rattle.nfs_items.proofs.credential.read_groups.Goals as goal

pub returns-in_err-group : goal.returns-in_err-group
returns-in_err-group c =
    let few : c.in_ok-count.count ≤ 16 = omega arith in
    let p = err_from_is_err_and c.from_residual-in_err-group.result c.from_residual-in_err-group.ensures.1 in
    rw (p.1, p.2, array_at word 16 c.in_ok-count.count _ _ c.in_ok-count.ensures few)
    (fails _ _ _ _ _ _ _ c.loop-test.true c.in_err-group.ensures.0 c.loop.invariant.text)

pub loop-preserved : goal.loop-preserved
loop-preserved c = record {
  count = rw c.push.ensures (simp length-append (omega (arith, c.loop.invariant.count)));
  text = rw c.push.ensures
      (goes_on _ _ _ _ _ _ _ _ c.loop-test.true c.in_ok-group.ensures c.loop.invariant.text);
}

-- after the last group, what was read is the whole array
pub returns : goal.returns
returns c =
    let few : c.in_ok-count.count ≤ 16 = omega arith in
    let whole = array_at word 16 c.in_ok-count.count c.args.reader.now c.u32.new.self c.in_ok-count.ensures
    few in
    whole ∙ ends _ _ _ _ _ _ c.loop-test.false c.loop.invariant.text
