use Rattle.std.proofs.Common.{◌≡◌, ◌++◌, ◌∷◌, [], arith}
use Rattle.std.proofs.lemmas.List.{length_push}
use Rattle.std.proofs.lemmas.Result.{err_from_is_err_and}
use Rattle.xdr.specs.ArraysAndUnions.{goes_on, fails_unless, ends, array_at}
use Rattle.authenticator.specs.declared.member.LogVersion.TheVariants.{Two}
use Rattle.secure_log.specs.LogEntries.Entry.{entry_value}
use Rattle.secure_log.specs.Versioned.{logged_item, worded_values}
use Rattle.evidence_showings.specs.evidence_spec.Evidence.{MAX_AUDITED}
use Rattle.secure_log.proofs.VersionedTexts.{worded_more}
use Rattle.challenge.proofs.items.take_worded_entries.Goals as goal

pub returns-in_err-word-clause-text : goal.returns-in_err-word-clause-text
returns-in_err-word-clause-text c =
    let p = err_from_is_err_and c.from_residual-in_err-word.result c.from_residual-in_err-word.ensures.1 in
    rw (p.1, p.2, array_at (logged_item Two) MAX_AUDITED c.in_ok-count.count _ _ c.in_ok-count.ensures c.if-count-gt-MAX_AUDITED.false) (fails_unless _ _ _ _ _ _ _ c.loop-test.true c.in_err-word.ensures c.loop.invariant.so_far)

pub loop-preserved : goal.loop-preserved
loop-preserved c =
    let ws = c.loop.words.items in
    let es = c.loop.entries.items in
    let e : worded_values c.push.new.self.items c.push-in-loop.new.self.items ≡ worded_values ws es ++ (c.in_ok-word.word, entry_value c.in_ok-word.entry) ∷ [] = rw (c.in_ok-push.ensures.items, c.in_ok-push-2.ensures.items) (worded_more ws es c.in_ok-word.word c.in_ok-word.entry c.loop.invariant.count) in
    record {
      so_far = rw e (goes_on _ _ _ _ _ _ _ _ c.loop-test.true c.in_ok-word.ensures c.loop.invariant.so_far);
      count = rw (c.in_ok-push.ensures.items, c.in_ok-push-2.ensures.items) (omega (arith, length_push ws c.in_ok-word.word, length_push es c.in_ok-word.entry, c.loop.invariant.count));
    }

-- after the last entry
pub returns-clause-text : goal.returns-clause-text
returns-clause-text c =
    let whole = array_at (logged_item Two) MAX_AUDITED c.in_ok-count.count c.args.source.now c.take_word.new.source c.in_ok-count.ensures c.if-count-gt-MAX_AUDITED.false in
    rw whole (ends _ _ _ _ _ _ c.loop-test.false c.loop.invariant.so_far)
