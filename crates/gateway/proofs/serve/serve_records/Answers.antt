use Rattle.std.proofs.Common.{◌∙◌, ap, refl, Err}
use Rattle.std.proofs.lemmas.Result.{err_from_is_err_and}
use Rattle.gateway.proofs.GatewayTurns.{served_nothing, serves_one, part_so_far, fails_by, part_answering}
use Rattle.gateway.proofs.GatewayTurns.{leaves_off_answering}
use Rattle.gateway.proofs.GatewayExchanges.{asked_nothing, asks_one, asks_answering, step_fails}
use Rattle.gateway.proofs.serve.serve_records.Goals as goal

pub loop-k-init : goal.loop-k-init
loop-k-init g c =
    record {
      is_served = served_nothing _ _ _ _;
      has_asked = asked_nothing _ _ _ _ _ _;
      fresh = c.requires.fresh;
      reads_same = refl;
      writes_same =
          refl;
      may_still = λ e h. h;
    }

pub returns-in_err-record-clause-part : goal.returns-in_err-record-clause-part
returns-in_err-record-clause-part g c =
    let p = err_from_is_err_and c.from_residual.result c.from_residual.ensures.1 in
    rw (p.1) (part_so_far _ _ _ _ _ _ _ _ _ c.loop-k.invariant.is_served)

pub loop-k-preserved : goal.loop-k-preserved
loop-k-preserved g c =
    let found = rw c.in-Some.is at c.in_ok-record.ensures.found in
    record {
      is_served = serves_one _ _ _ _ _ _ _ _ _ _ _ _ _ _ _ _ c.loop-k.invariant.is_served
          (record { is_record = found.1; taken = found.2 }) c.now.ensures.reading c.now.ensures.rest
          (rw c.deref.ensures.value at c.in_ok-answer.ensures.moves)
          (rw c.deref.ensures.value at c.in_ok-answer.ensures.text);
      has_asked = asks_one _ _ _ _ _ _ _ _ _ _ _ _ _ _ _ _ _ _ c.loop-k.invariant.has_asked
          (record { is_record = found.1; taken = found.2 }) c.now.ensures.reading c.now.ensures.rest
          (rw c.deref.ensures.value at c.in_ok-answer.ensures.exchanged);
      fresh = rw c.loop-k.invariant.fresh at c.in_ok-record.ensures.failed;
      reads_same = c.in_ok-record.ensures.kept ∙ c.loop-k.invariant.reads_same;
      writes_same = c.in_ok-answer.ensures.kept ∙ c.loop-k.invariant.writes_same;
      may_still = λ e h. c.loop-k.invariant.may_still e (c.in_ok-answer.ensures.calm tt e h);
    }

pub returns-in_err-answer-clause-part : goal.returns-in_err-answer-clause-part
returns-in_err-answer-clause-part g c =
    let p = err_from_is_err_and c.from_residual-in_err-answer.result
    c.from_residual-in_err-answer.ensures.1 in
    let found = rw c.in-Some.is at c.in_ok-record.ensures.found in
    let device = rw c.deref.ensures.value at c.in_err-answer.ensures.device in
    let fails = fails_by c.in_err-answer.field-0.0 (g.L.Link.world c.loop-k.link)
    (g.L.Link.world c.answer.new.link) c.now.result c.in-Some.record.items
    (g.W.Write.contents c.loop-k.writer.inner) (g.W.Write.contents c.answer.new.writer.inner)
    (ap (λ w. g.W.Write.contents w.inner)) c.in_err-answer.ensures.link (λ d. device (ap Err d)) in
    rw (p.1) (part_answering _ _ _ _ _ _ _ _ _ _ _ _ _ _ _ _ c.loop-k.invariant.is_served
    (record { is_record = found.1; taken = found.2 }) c.now.ensures.reading c.now.ensures.rest _ fails)

pub returns-in_err-answer-clause-taken : goal.returns-in_err-answer-clause-taken
returns-in_err-answer-clause-taken g c =
    let p = err_from_is_err_and c.from_residual-in_err-answer.result
    c.from_residual-in_err-answer.ensures.1 in
    let found = rw c.in-Some.is at c.in_ok-record.ensures.found in
    let failed = rw c.loop-k.invariant.fresh at c.in_ok-record.ensures.failed in
    let device = rw c.deref.ensures.value at c.in_err-answer.ensures.device in
    let fails = fails_by c.in_err-answer.field-0.0 (g.L.Link.world c.loop-k.link)
    (g.L.Link.world c.answer.new.link) c.now.result c.in-Some.record.items
    (g.W.Write.contents c.loop-k.writer.inner) (g.W.Write.contents c.answer.new.writer.inner)
    (ap (λ w. g.W.Write.contents w.inner)) c.in_err-answer.ensures.link (λ d. device (ap Err d)) in
    rw (p.1, p.2) (leaves_off_answering _ _ _ _ _ _ _ _ _ _ _ _ _ _ _ _ c.loop-k.invariant.is_served
    (record {
      is_record = found.1;
      taken =
          found.2;
    }) c.now.ensures.reading c.now.ensures.rest _ _ failed fails)

pub returns-in_err-answer-clause-asked : goal.returns-in_err-answer-clause-asked
returns-in_err-answer-clause-asked g c =
    let p = err_from_is_err_and c.from_residual-in_err-answer.result
    c.from_residual-in_err-answer.ensures.1 in
    let found = rw c.in-Some.is at c.in_ok-record.ensures.found in
    let failed = rw c.loop-k.invariant.fresh at c.in_ok-record.ensures.failed in
    let cut = rw c.deref.ensures.value at c.in_err-answer.ensures.cut in
    let link = rw c.deref.ensures.value at c.in_err-answer.ensures.link in
    let step = step_fails g.L.Link.exchanges g.L.Link.fails c.in_err-answer.field-0.0 c.loop-k.link
    c.answer.new.link c.now.result c.in-Some.record.items
    (g.W.Write.contents c.loop-k.writer.inner) (g.W.Write.contents c.answer.new.writer.inner)
    (ap (λ w. g.W.Write.contents w.inner)) link (λ d. cut (ap Err d)) in
    rw (p.1, p.2) (asks_answering _ _ _ _ _ _ _ _ _ _ _ _ _ _ _ _ _ _ _ _ _ c.loop-k.invariant.has_asked
    (record {
      is_record = found.1;
      taken =
          found.2;
    }) c.now.ensures.reading c.now.ensures.rest refl failed step)

pub returns-clause-part : goal.returns-clause-part
returns-clause-part g c = part_so_far _ _ _ _ _ _ _ _ _ c.loop-k.invariant.is_served
