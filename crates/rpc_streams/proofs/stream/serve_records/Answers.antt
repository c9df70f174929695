use Rattle.std.proofs.Common.{◌≡◌, ◌∙◌, true, ap, Err, rules}
use Rattle.std.proofs.lemmas.Result.{err_from_is_err_and}
use Rattle.rpc_streams.proofs.LoopProgress.{ends, refused_one, pushes, answers, stops_with_held}
use Rattle.rpc_streams.proofs.LoopProgress.{stops_between, leaves_off_reading, leaves_off_refused}
use Rattle.rpc_streams.proofs.LoopProgress.{leaves_off_with_held}
use Rattle.rpc_streams.proofs.stream.serve_records.Goals as goal

pub returns-in_err-next_into-clause-fault : goal.returns-in_err-next_into-clause-fault
returns-in_err-next_into-clause-fault g c =
    let p = err_from_is_err_and c.from_residual.result c.from_residual.ensures.1 in
    rw (p.1, p.2) (ends _ _ _ _ _ _ _ _ _ c.loop-k.invariant.0.progress
    (c.in_err-next_into.ensures.fault c.loop-k.invariant.0.fresh))

pub returns-in_err-next_into-clause-taken : goal.returns-in_err-next_into-clause-taken
returns-in_err-next_into-clause-taken g c =
    let p = err_from_is_err_and c.from_residual.result c.from_residual.ensures.1 in
    let failed = rw c.loop-k.invariant.0.fresh at c.in_err-next_into.ensures.failed in
    rw (p.1, p.2) (leaves_off_reading _ _ _ _ c.loop-k.invariant.0.progress failed
    (c.in_err-next_into.ensures.fault c.loop-k.invariant.0.fresh)
    (c.in_err-next_into.ensures.taken c.loop-k.invariant.0.fresh))

pub returns-in_default-clause-fault : goal.returns-in_default-clause-fault
returns-in_default-clause-fault g c =
    let one : c.in_ok-next_into.field-0 ≡ true = search (rules, c.if-not-branch.false) in
    let found = rw one at c.in_ok-next_into.ensures.found in
    refused_one c.loop-k.invariant.0.progress (record { is_record = found.1; taken = found.2 })

pub returns-in_default-clause-taken : goal.returns-in_default-clause-taken
returns-in_default-clause-taken g c =
    let one : c.in_ok-next_into.field-0 ≡ true = search (rules, c.if-not-branch.false) in
    let found = rw one at c.in_ok-next_into.ensures.found in
    let failed = rw c.loop-k.invariant.0.fresh at c.in_ok-next_into.ensures.failed in
    leaves_off_refused _ c.loop-k.invariant.0.progress
    (record { is_record = found.1; taken = found.2 }) failed

pub returns-in_err-k-clause-fault : goal.returns-in_err-k-clause-fault
returns-in_err-k-clause-fault g c =
    let p = err_from_is_err_and c.from_residual-in_err-k.result c.from_residual-in_err-k.ensures.1 in
    let one : c.in_ok-next_into.field-0 ≡ true = search (rules, c.if-not-branch.false) in
    let found = rw one at c.in_ok-next_into.ensures.found in
    let held = rw (c.time_of_record.ensures, c.deref.ensures.value) at c.in-Ok.ensures.text in
    let next = rw (c.time_of_record.ensures, c.deref.ensures.value) at c.in-Ok.ensures.world in
    let stops = rw held at c.in_err-k.ensures.stops in
    rw (p.1, p.2) (stops_with_held c.loop-k.invariant.0.progress
    (record { is_record = found.1; taken = found.2 }) next stops)

pub returns-in_err-k-clause-taken : goal.returns-in_err-k-clause-taken
returns-in_err-k-clause-taken g c =
    let p = err_from_is_err_and c.from_residual-in_err-k.result c.from_residual-in_err-k.ensures.1 in
    let one : c.in_ok-next_into.field-0 ≡ true = search (rules, c.if-not-branch.false) in
    let found = rw one at c.in_ok-next_into.ensures.found in
    let failed = rw c.loop-k.invariant.0.fresh at c.in_ok-next_into.ensures.failed in
    let held = rw (c.time_of_record.ensures, c.deref.ensures.value) at c.in-Ok.ensures.text in
    let next = rw (c.time_of_record.ensures, c.deref.ensures.value) at c.in-Ok.ensures.world in
    let stops = rw held at c.in_err-k.ensures.stops in
    rw (p.1, p.2) (leaves_off_with_held _ (c.in_err-k.ensures.reader.0 ∙ failed) c.loop-k.invariant.0.progress
    (record { is_record = found.1; taken = found.2 }) next stops)

pub loop-k-preserved : goal.loop-k-preserved
loop-k-preserved g c =
    let one : c.in_ok-next_into.field-0 ≡ true = search (rules, c.if-not-branch.false) in
    let found = rw one at c.in_ok-next_into.ensures.found in
    let failed = rw c.loop-k.invariant.0.fresh at c.in_ok-next_into.ensures.failed in
    let held = rw (c.time_of_record.ensures, c.deref.ensures.value) at c.in-Ok.ensures.text in
    let next = rw (c.time_of_record.ensures, c.deref.ensures.value) at c.in-Ok.ensures.world in
    let rest = rw held at c.in_ok-k.ensures.answers in
    let now = pushes c.loop-k.invariant.0.progress
    (record { is_record = found.1; taken = found.2 }) next rest.1.0 in (
      record {
        progress = answers now rest.1.1;
        fresh = c.in_ok-k.ensures.reader.0 ∙ failed;
        reads_same =
            c.in_ok-k.ensures.reader.1 ∙ (c.in_ok-next_into.ensures.kept ∙ c.loop-k.invariant.0.reads_same);
        writes_same = c.in_ok-k.ensures.kept ∙ c.loop-k.invariant.0.writes_same;
      },
      search rules,
      c.in_ok-next_into.ensures.keeps_room,
      c.in_ok-k.ensures.room,
    )

pub returns-clause-taken : goal.returns-clause-taken
returns-clause-taken g c = stops_between c.loop-k.invariant.0.progress
