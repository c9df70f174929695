use Rattle.std.proofs.Common.{rules, arith}
use Rattle.std.proofs.lemmas.Result.{err_from_is_err_and}
use Rattle.frames.proofs.OfFragments.{stops_at_mark, stops_at_end, stops_at_count, stops_in_fragment}
use Rattle.frames.proofs.OfFragments.{is_record, goes_on}
use Rattle.frames.proofs.reader.read_record.Goals as goal

pub returns-in_err-mark-clause-stopped : goal.returns-in_err-mark-clause-stopped
returns-in_err-mark-clause-stopped g c =
    let p = err_from_is_err_and c.from_residual.result c.from_residual.ensures.1 in
    let at = c.loop-count.invariant in
    rw (p.1, p.2) (stops_at_mark _ _ _ _ _ _ _ _ _ at.progress (rw at.kept at c.in_err-mark.ensures.stopped))

pub returns-else-is_first-clause-stopped : goal.returns-else-is_first-clause-stopped
returns-else-is_first-clause-stopped g c =
    let at = c.loop-count.invariant in
    let ended = rw c.in_default.is at c.in_ok-mark.ensures.found in
    rw (c.in_ok-mark.ensures.kept, at.kept) (stops_at_end _ _ _ _ _ _ _ at.progress (omega arith) ended)

pub returns-then-count-eq-MAX_FRAGMENTS-clause-stopped :
    goal.returns-then-count-eq-MAX_FRAGMENTS-clause-stopped
returns-then-count-eq-MAX_FRAGMENTS-clause-stopped g c =
    let at = c.loop-count.invariant in
    let marked = rw c.in-Some.is at c.in_ok-mark.ensures.found in
    rw (c.in_ok-mark.ensures.kept, at.kept)
    (stops_at_count _ _ _ _ _ _ _ _ _ at.progress marked.0 marked.1 (omega arith))

pub returns-in_err-read_fragment-clause-stopped : goal.returns-in_err-read_fragment-clause-stopped
returns-in_err-read_fragment-clause-stopped g c =
    let p = err_from_is_err_and c.from_residual-in_err-read_fragment.result
    c.from_residual-in_err-read_fragment.ensures.1 in
    let at = c.loop-count.invariant in
    let marked = rw c.in-Some.is at c.in_ok-mark.ensures.found in
    rw (p.1, p.2) (stops_in_fragment _ _ _ _ _ _ _ _ _ _ _ _ at.progress marked.0 marked.1 (omega arith)
    (rw (c.in_ok-mark.ensures.kept, at.kept) at c.in_err-read_fragment.ensures.stopped))

pub returns-then-mark-clause-found : goal.returns-then-mark-clause-found
returns-then-mark-clause-found g c =
    let marked = rw (c.in-Some.is, c.if-mark.true) at c.in_ok-mark.ensures.found in
    let read = c.in_ok-read_fragment.ensures in
    is_record _ _ _ _ _ _ _ _ _ c.loop-count.invariant.progress (omega arith) marked.0 read.piece read.fits

pub loop-count-preserved : goal.loop-count-preserved
loop-count-preserved g c =
    let marked = rw (c.in-Some.is, c.if-mark.false) at c.in_ok-mark.ensures.found in
    let read = c.in_ok-read_fragment.ensures in
    record {
      progress = goes_on _ _ _ _ _ _ _ _ _ c.loop-count.invariant.progress (omega arith) marked.0 read.piece
          read.fits;
      kept = search rules;
      small = search rules;
      within = search rules;
    }
