use Rattle.std.proofs.lemmas.Result.{err_from_is_err_and}
use Rattle.state_spec.specs.StateItems.{received_item, received_value}
use Rattle.file_texts.proofs.Arrays.{nothing_added, one_added, all_added, all_fit, part_added}
use Rattle.state_machine.proofs.states.received.add_each.Goals as goal

pub loop-message-init : goal.loop-message-init
loop-message-init c =
    rw (c.into_iter-message-iterator.ensures.into_iter_gives, c.iter-message-items.ensures.rest)
    (nothing_added received_item received_value c.args.messages.now.keys c.args.out.now.items)

pub loop-message-preserved : goal.loop-message-preserved
loop-message-preserved c =
    one_added received_item received_value _ _ _ c.in-Some.message.now _ _ _ c.in-Some.ensures.steps
    c.in_ok-add_received.ensures.text c.in_ok-add_received.ensures.fits c.loop-message.invariant

pub returns-clause-fits : goal.returns-clause-fits
returns-clause-fits c =
    all_fit received_item received_value _ _ _ _ c.in-None.ensures.steps.0 c.loop-message.invariant

pub returns-clause-text : goal.returns-clause-text
returns-clause-text c =
    all_added received_item received_value _ _ _ _ c.in-None.ensures.steps.0 c.loop-message.invariant

pub returns-in_err-add_received-clause-text : goal.returns-in_err-add_received-clause-text
returns-in_err-add_received-clause-text c =
    let p = err_from_is_err_and c.from_residual.result c.from_residual.ensures.1 in
    rw p.1 (part_added received_item received_value _ _ _ _ _ p.0 c.in_err-add_received.ensures.text
    c.loop-message.invariant)
