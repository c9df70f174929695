use Rattle.std.proofs.Common.{◌≡◌, ◌++◌, sym, take-append-drop}
use Rattle.std.specs.Int.{w32, to_be_bytes}
use Rattle.std.proofs.lemmas.Result.{err_from_is_err_and}
use Rattle.rpc.proofs.OfRecords.Parts.{regrouped, two_parts, first_part}
use Rattle.rpc.proofs.records.write.write_marked.Goals as goal

pub returns-in_err-write_bytes-clause-text : goal.returns-in_err-write_bytes-clause-text
returns-in_err-write_bytes-clause-text g c =
    let p = err_from_is_err_and c.from_residual.result c.from_residual.ensures.1 in
    let cut : c.args.bytes.now ≡ c.split_at.result.0.now ++ c.split_at.result.1.now =
    rw (c.split_at.ensures.front, c.split_at.ensures.back) (sym (take-append-drop _ _)) in
    let whole = regrouped (to_be_bytes w32 c.args.word) _ _ _ _ c.put_together.ensures cut in
    rw p.1 (first_part _ _ _ _
    (to_be_bytes w32 c.args.word ++ c.args.bytes.now) whole c.in_err-write_bytes.ensures.text)

pub returns-clause-text : goal.returns-clause-text
returns-clause-text g c =
    let cut : c.args.bytes.now ≡ c.split_at.result.0.now ++ c.split_at.result.1.now =
    rw (c.split_at.ensures.front, c.split_at.ensures.back) (sym (take-append-drop _ _)) in
    let whole = regrouped (to_be_bytes w32 c.args.word) _ _ _ _ c.put_together.ensures cut in
    two_parts _ _ _ _ _ (to_be_bytes w32 c.args.word
    ++ c.args.bytes.now) _ whole c.in_ok-write_bytes.ensures.text c.write_bytes-2.ensures.text
