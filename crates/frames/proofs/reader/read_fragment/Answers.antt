use Rattle.std.proofs.lemmas.Result.{IfErr-weaker}
use Rattle.frames.proofs.OfBounds.{stops_after_judged, grown_fits}
use Rattle.frames.proofs.reader.read_fragment.Goals as goal

pub returns-clause-fits : goal.returns-clause-fits
returns-clause-fits g c =
    let read = c.in_ok-read.ensures in
    let most = g.B.Bound.most c.args.bound.now in
    grown_fits c.read_bytes.result most _ _ _ _ _ _ _ c.args.len _ read.front read.part read.judged
    c.read_bytes.ensures.bytes

pub returns-clause-stopped : goal.returns-clause-stopped
returns-clause-stopped g c =
    let read = c.in_ok-read.ensures in
    let most = g.B.Bound.most c.args.bound.now in
    IfErr-weaker c.read_bytes.result _ _
    (λ e stops. stops_after_judged most e _ _ _ _ _ _ _ c.args.len _ _ read.front read.part read.judged
    (rw read.kept at stops)) c.read_bytes.ensures.stopped
