use Rattle.std.proofs.Common.{rules, sym, subst}
use Rattle.std.proofs.lemmas.Result.{err_from_is_err_and}
use Rattle.std.specs.Io.KnownBytes.{Consumes}
use Rattle.std.proofs.KnownBytes.{Consumes-trans}
use Rattle.rpc.proofs.OfRecords.Filling.{take-put_mid_read}
use Rattle.frames.proofs.OfPieces.{part_read}
use Rattle.frames.proofs.pieces.fill.Goals as goal

pub returns-in_err-n-clause-part : goal.returns-in_err-n-clause-part
returns-in_err-n-clause-part g c =
    let at = c.loop-at.invariant in
    rw (err_from_is_err_and c.from_residual.result c.from_residual.ensures.1).1
    (part_read _ _ _ _ _ _ at.bound (search rules) at.taken c.in_err-n.ensures.bytes)

pub loop-at-preserved : goal.loop-at-preserved
loop-at-preserved g c =
    let at = c.loop-at.invariant in
    let bytes = take-put_mid_read _ _ _ _ at.bound c.in_ok-n.ensures.bound.0 in
    record {
      bound = search rules;
      kept = search rules;
      taken = subst (Consumes _ _) (sym bytes) (Consumes-trans _ _ _ _ _ at.taken c.in_ok-n.ensures.bytes.0);
    }
