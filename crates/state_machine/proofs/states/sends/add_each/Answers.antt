use Rattle.std.proofs.lemmas.Result.{err_from_is_err_and}
use Rattle.state_spec.specs.StateItems.{sent_item, sent_value}
use Rattle.file_texts.proofs.Arrays.{nothing_added, one_added, all_added, all_fit, part_added}
use Rattle.state_machine.proofs.states.sends.add_each.Goals as goal

pub loop-seq-init : goal.loop-seq-init
loop-seq-init c =
    rw (c.into_iter-seq-iterator.ensures.into_iter_gives, c.iter-seq-items.ensures.rest)
    (nothing_added sent_item sent_value c.args.messages.now.entries c.args.out.now.items)

pub loop-seq-preserved : goal.loop-seq-preserved
loop-seq-preserved c =
    one_added sent_item sent_value _ _ _ (c.in-Some.seq.now, c.in-Some.message.now) _ _ _
    c.in-Some.ensures.steps c.in_ok-add_sent.ensures.text c.in_ok-add_sent.ensures.fits
    c.loop-seq.invariant

pub returns-clause-fits : goal.returns-clause-fits
returns-clause-fits c = all_fit sent_item sent_value _ _ _ _ c.in-None.ensures.steps.0 c.loop-seq.invariant

pub returns-clause-text : goal.returns-clause-text
returns-clause-text c = all_added sent_item sent_value _ _ _ _ c.in-None.ensures.steps.0 c.loop-seq.invariant

pub returns-in_err-add_sent-clause-text : goal.returns-in_err-add_sent-clause-text
returns-in_err-add_sent-clause-text c =
    let p = err_from_is_err_and c.from_residual.result c.from_residual.ensures.1 in
    rw p.1 (part_added sent_item sent_value _ _ _ _ _ p.0 c.in_err-add_sent.ensures.text c.loop-seq.invariant)
