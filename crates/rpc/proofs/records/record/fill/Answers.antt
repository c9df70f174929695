use Rattle.std.proofs.Common.{rules, sym, subst, ◌≡◌, length, take, length-take-le}
use Rattle.std.proofs.lemmas.Result.{err_from_is_err_and}
use Rattle.std.specs.Io.KnownBytes.{Consumes}
use Rattle.std.proofs.KnownBytes.{Consumes-trans, Consumes-kept}
use Rattle.rpc.proofs.OfRecords.Filling.{take-put_mid_read}
use Rattle.rpc.proofs.records.record.fill.Goals as goal

pub returns-in_err-n-clause-part : goal.returns-in_err-n-clause-part
returns-in_err-n-clause-part g c =
    let p = err_from_is_err_and c.from_residual.result c.from_residual.ensures.1 in
    let size : length (take c.loop-at.at c.loop-at.buf) ≡ c.loop-at.at =
    length-take-le _ _ c.loop-at.invariant.0 in
    rw p.1 (
      take c.loop-at.at c.loop-at.buf,
      Consumes-kept _ _ _ _ c.loop-at.invariant.2 c.in_err-n.ensures.bytes,
      search (rules, size),
    )

pub loop-at-preserved : goal.loop-at-preserved
loop-at-preserved g c = (
  search rules,
  search rules,
  subst (Consumes _ _) (sym (take-put_mid_read _ _ _ _ c.loop-at.invariant.0 c.in_ok-n.ensures.bound.0))
      (Consumes-trans _ _ _ _ _ c.loop-at.invariant.2 c.in_ok-n.ensures.bytes.0),
)
