use Rattle.std.proofs.Common.{◌≡◌, ◌++◌, ◌∷◌, [], map}
use Rattle.std.proofs.lemmas.List.{map_push}
use Rattle.std.proofs.lemmas.Result.{err_from_is_err_and}
use Rattle.xdr.specs.Reading.{read_at}
use Rattle.xdr.specs.ArraysAndUnions.{begins, goes_on, fails_unless, ends, array_at}
use Rattle.xdr.proofs.list.array_items.Goals as goal

pub returns-in_err-read : goal.returns-in_err-read
returns-in_err-read g c =
    let p = err_from_is_err_and c.from_residual-in_err-read.result c.from_residual-in_err-read.ensures.1 in
    rw (
      p.1,
      p.2,
      array_at g.T.FromXdr.item c.args.max c.in_ok-count.count _ _ c.in_ok-count.ensures
          c.if-count-max.false,
    )
    (fails_unless _ _ _ _ _ _ _ c.loop-test.true c.in_err-read.ensures.0 c.loop.invariant)

pub loop-preserved : goal.loop-preserved
loop-preserved g c =
    let e : map g.T.FromXdr.value c.push.new.self.items
    ≡ map g.T.FromXdr.value c.loop.items.items ++ g.T.FromXdr.value c.in_ok-read.field-0 ∷ [] =
    rw c.in_ok-push.ensures.items (map_push _ c.loop.items.items c.in_ok-read.field-0) in
    rw e (goes_on _ _ _ _ _ _ _ _ c.loop-test.true c.in_ok-read.ensures c.loop.invariant)

pub loop-init : goal.loop-init
loop-init g c =
    rw c.new-items.ensures.items (begins (read_at g.T.FromXdr.item) c.in_ok-count.count c.u32.new.self)

-- after the last item
pub returns : goal.returns
returns g c =
    let whole = array_at g.T.FromXdr.item c.args.max c.in_ok-count.count c.args.reader.now c.u32.new.self
    c.in_ok-count.ensures c.if-count-max.false in
    rw whole (ends _ _ _ _ _ _ c.loop-test.false c.loop.invariant)
