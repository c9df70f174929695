use Rattle.std.proofs.Common.{arith}
use Rattle.std.proofs.lemmas.Result.{err_from_is_err_and}
use Rattle.frames.proofs.OfStops.{stops_in_bytes}
use Rattle.frames.proofs.pieces.read_bytes.Goals as goal

pub returns-in_err-read_piece-clause-stopped : goal.returns-in_err-read_piece-clause-stopped
returns-in_err-read_piece-clause-stopped g c =
    let p = err_from_is_err_and c.from_residual.result c.from_residual.ensures.1 in
    let at = c.loop-left.invariant in
    rw (p.1, p.2) (stops_in_bytes _ _ _ _ _ _ _ _ _ _ _ at.bytes at.left_fits (omega arith)
    (rw at.kept at c.in_err-read_piece.ensures.stopped))
