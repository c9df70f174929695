use Rattle.std.proofs.Common.{rules, arith, ap, length, length-append}
use Rattle.std.proofs.lemmas.Result.{err_from_is_err_and}
use Rattle.frames.proofs.OfBounds.{stops_before_judged}
use Rattle.frames.proofs.reader.judge.Goals as goal

pub split_at-requires : goal.split_at-requires
split_at-requires g c =
    let (front, grown, size, taken) = c.in_ok-read_bytes.ensures.bytes in
    omega (arith, ap length grown, length-append c.args.joined.now.items front, size)

pub returns-in_err-read_bytes-clause-stopped : goal.returns-in_err-read_bytes-clause-stopped
returns-in_err-read_bytes-clause-stopped g c =
    let p = err_from_is_err_and c.from_residual.result c.from_residual.ensures.1 in
    rw (p.1, p.2) (stops_before_judged _ _ _ _ _ _ _ _ _ _ _ (search rules) c.if-size-le-SHORT.false
    (search rules) c.in_err-read_bytes.ensures.stopped)
