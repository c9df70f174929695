use Rattle.std.proofs.Common.{◌≤◌, length-append, refl, arith}
use Rattle.std.proofs.lemmas.Result.{err_from_is_err_and}
use Rattle.xdr.specs.Item.{fixed}
use Rattle.xdr.specs.Reading.{read_at}
use Rattle.xdr.specs.ArraysAndUnions.{begins, goes_on, fails_unless, ends, array_at}
use Rattle.merkle_keys.specs.declared.signature.TheConstants.{MAX_HEIGHT}
use Rattle.merkle_keys.proofs.text.read_path.Goals as goal

pub returns-in_err-read_hash-clause-text : goal.returns-in_err-read_hash-clause-text
returns-in_err-read_hash-clause-text c =
    let few : c.in_ok-count.count ≤ MAX_HEIGHT = omega arith in
    let p = err_from_is_err_and c.from_residual-in_err-read_hash.result
    c.from_residual-in_err-read_hash.ensures.1 in
    rw (p.1, p.2, array_at (fixed 32) MAX_HEIGHT c.in_ok-count.count _ _ c.in_ok-count.ensures few)
    (fails_unless _ _ _ _ _ _ _ c.loop-test.true c.in_err-read_hash.ensures.0 c.loop.invariant.text)

pub loop-init : goal.loop-init
loop-init c = record {
  count = rw c.in_ok-path.ensures.items refl;
  text = rw c.in_ok-path.ensures.items (begins (read_at (fixed 32)) c.in_ok-count.count c.u32.new.self);
}

pub loop-preserved : goal.loop-preserved
loop-preserved c = record {
  count = rw c.in_ok-push.ensures.items (simp length-append (omega (arith, c.loop.invariant.count)));
  text = rw c.in_ok-push.ensures.items
      (goes_on _ _ _ _ _ _ _ _ c.loop-test.true c.in_ok-read_hash.ensures c.loop.invariant.text);
}

pub returns-clause-text : goal.returns-clause-text
returns-clause-text c =
    let few : c.in_ok-count.count ≤ MAX_HEIGHT = omega arith in
    let whole = array_at
    (fixed 32) MAX_HEIGHT c.in_ok-count.count c.args.reader.now c.u32.new.self c.in_ok-count.ensures
    few in
    rw whole (ends _ _ _ _ _ _ c.loop-test.false c.loop.invariant.text)
