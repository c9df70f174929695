use Rattle.std.proofs.Common.{◌≡◌, ◌++◌, ◌∷◌, [], map}
use Rattle.std.proofs.lemmas.List.{map_push}
use Rattle.std.proofs.lemmas.Result.{err_from_is_err_and}
use Rattle.xdr.specs.ArraysAndUnions.{goes_on, fails_unless, ends, array_at}
use Rattle.secure_log.specs.LogEntries.Entry.{entry_item, entry_value}
use Rattle.evidence_showings.specs.evidence_spec.Evidence.{MAX_AUDITED}
use Rattle.challenge.proofs.items.take_entries.Goals as goal

pub returns-in_err-take_entry : goal.returns-in_err-take_entry
returns-in_err-take_entry c =
    let p = err_from_is_err_and c.from_residual-in_err-take_entry.result c.from_residual-in_err-take_entry.ensures.1 in
    rw (p.1, p.2, array_at entry_item MAX_AUDITED c.in_ok-count.count _ _ c.in_ok-count.ensures c.if-count-gt-MAX_AUDITED.false) (fails_unless _ _ _ _ _ _ _ c.loop-test.true c.in_err-take_entry.ensures c.loop.invariant)

pub loop-preserved : goal.loop-preserved
loop-preserved c =
    let e : map entry_value c.push.new.self.items ≡ map entry_value c.loop.entries.items ++ entry_value c.in_ok-take_entry.field-0 ∷ [] = rw c.in_ok-push.ensures.items (map_push _ c.loop.entries.items c.in_ok-take_entry.field-0) in
    rw e (goes_on _ _ _ _ _ _ _ _ c.loop-test.true c.in_ok-take_entry.ensures c.loop.invariant)

-- after the last entry
pub returns : goal.returns
returns c =
    let whole = array_at entry_item MAX_AUDITED c.in_ok-count.count c.args.source.now c.take_word.new.source c.in_ok-count.ensures c.if-count-gt-MAX_AUDITED.false in
    rw whole (ends _ _ _ _ _ _ c.loop-test.false c.loop.invariant)
