use Rattle.std.proofs.Common.{arith, rules}
use Rattle.std.proofs.lemmas.Result.{err_from_is_err_and}
use Rattle.rpc.proofs.OfRecords.Fragments.{fails_at_mark, fails_at_end, fails_at_piece, stops_at_mark}
use Rattle.rpc.proofs.OfRecords.Fragments.{stops_at_piece, takes_to_limit, is_record, goes_on}
use Rattle.rpc.proofs.records.record.read_record.Goals as goal

pub returns-in_err-mark-clause-fault : goal.returns-in_err-mark-clause-fault
returns-in_err-mark-clause-fault g c =
    let p = err_from_is_err_and c.from_residual.result c.from_residual.ensures.1 in
    rw (p.1, p.2) (fails_at_mark _ _ _ _ _ _ _ c.loop-count.invariant.0
    (rw c.loop-count.invariant.1 at c.in_err-mark.ensures.fault))

pub returns-else-count-eq0-clause-fault : goal.returns-else-count-eq0-clause-fault
returns-else-count-eq0-clause-fault g c = (
  fails_at_end _ _ _ _ c.loop-count.invariant.0 (omega arith)
      (rw c.in_default.is at c.in_ok-mark.ensures.found).0,
  search rules,
)

pub returns-in_err-read_piece-clause-fault : goal.returns-in_err-read_piece-clause-fault
returns-in_err-read_piece-clause-fault g c =
    let p = err_from_is_err_and c.from_residual-in_err-read_piece.result
    c.from_residual-in_err-read_piece.ensures.1 in
    let marked = rw c.in-Some.is at c.in_ok-mark.ensures.found in
    let room = rw c.deref.ensures.value at c.passes_limit.ensures.within c.if-passes_limit.false in
    rw (p.1, p.2) (fails_at_piece _ _ _ _ _ _ _ _ _ _ c.loop-count.invariant.0 marked.0 room.0 room.1
    (rw (c.in_ok-mark.ensures.kept, c.loop-count.invariant.1) at c.in_err-read_piece.ensures.fault))

pub returns-then-mark-clause-found : goal.returns-then-mark-clause-found
returns-then-mark-clause-found g c =
    let marked = rw (c.in-Some.is, c.if-mark.true) at c.in_ok-mark.ensures.found in
    let room = rw c.deref.ensures.value at c.passes_limit.ensures.within c.if-passes_limit.false in
    is_record _ _ _ _ _ _ _ _ c.loop-count.invariant.0 room.0 marked.0 c.in_ok-read_piece.ensures.piece room.1

pub loop-count-preserved : goal.loop-count-preserved
loop-count-preserved g c =
    let marked = rw (c.in-Some.is, c.if-mark.false) at c.in_ok-mark.ensures.found in
    let room = rw c.deref.ensures.value at c.passes_limit.ensures.within c.if-passes_limit.false in (
      goes_on _ _ _ _ _ _ _ _ c.loop-count.invariant.0 room.0 marked.0
          c.in_ok-read_piece.ensures.piece room.1,
      search rules,
      search rules,
    )

pub returns-then-passes_limit-clause-taken : goal.returns-then-passes_limit-clause-taken
returns-then-passes_limit-clause-taken g c =
    let marked = rw c.in-Some.is at c.in_ok-mark.ensures.found in
    let limit = rw c.deref.ensures.value at c.passes_limit.ensures.passes c.if-passes_limit.true in
    takes_to_limit _ _ _ _ _ _ _ c.loop-count.invariant.0 marked.0 marked.1 limit

pub returns-in_err-mark-clause-taken : goal.returns-in_err-mark-clause-taken
returns-in_err-mark-clause-taken g c =
    let p = err_from_is_err_and c.from_residual.result c.from_residual.ensures.1 in
    rw (p.1, p.2) (stops_at_mark _ _ _ _ _ _ c.loop-count.invariant.0 c.in_err-mark.ensures.taken)

pub returns-in_err-read_piece-clause-taken : goal.returns-in_err-read_piece-clause-taken
returns-in_err-read_piece-clause-taken g c =
    let p = err_from_is_err_and c.from_residual-in_err-read_piece.result
    c.from_residual-in_err-read_piece.ensures.1 in
    let marked = rw c.in-Some.is at c.in_ok-mark.ensures.found in
    let room = rw c.deref.ensures.value at c.passes_limit.ensures.within c.if-passes_limit.false in
    rw (p.1, p.2)
    (stops_at_piece _ _ _ _ _ _ _ _ _ c.loop-count.invariant.0 marked.0 room.0 room.1
    c.in_err-read_piece.ensures.taken)
