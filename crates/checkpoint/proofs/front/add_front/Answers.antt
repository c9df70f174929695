use Rattle.std.proofs.Common.{map, subst, ◌∙◌, ap}
use Rattle.std.specs.FinMap as finite
use Rattle.std.proofs.lemmas.Result.{err_from_is_err_and}
use Rattle.xdr.specs.Item.{array, spelling, number_spelling}
use Rattle.xdr.specs.Writing.{Adds}
use Rattle.nfs_items.specs.Timeval.{timeval, timeval_value}
use Rattle.state_spec.specs.Limits.{max_received, max_sends}
use Rattle.state_spec.specs.State.{Machine, clock_in}
use Rattle.state_spec.specs.StateItems.{received_item, received_value, sent_item, sent_value}
use Rattle.checkpoint.specs.Fronts.{kind_of, rest_front}
use Rattle.checkpoint.proofs.Fronted.{added_after, further, instead, unchanged}
use Rattle.checkpoint.proofs.front.add_front.Goals as goal

-- each part stands after the ones before it
pub returns : goal.returns
returns c =
    let s = c.args.state.now.state in
    added_after (number_spelling 4 1) _ _ _ _ c.add_rest.result c.in_ok-put_u32.ensures.writes
    (added_after (number_spelling 4 s.node) _ _ _ _ c.add_rest.result
    (instead (λ n. number_spelling 4 n) _ s.node _ _ c.in_ok-put_u32-2.ensures.writes c.node.ensures)
    (added_after (number_spelling 4 (kind_of s.machine)) _ _ _ _ c.add_rest.result
    (instead (λ n. number_spelling 4 n) _ (kind_of s.machine) _ _ c.in_ok-put_u32-3.ensures.writes
    (c.kind_of.ensures ∙ ap kind_of c.machine.ensures.machine))
    (added_after (spelling timeval (timeval_value (clock_in s.machine))) _ _ _ _ c.add_rest.result
    (instead (λ t. spelling timeval (timeval_value t)) _ (clock_in s.machine) _ _ c.in_ok-add_time.ensures
    c.clock.ensures)
    (added_after (spelling (array max_received received_item)
    (map received_value (finite.keys s.received))) _ _ _ _ c.add_rest.result
    (instead (λ r. spelling (array max_received received_item) (map received_value (finite.keys r))) _
    s.received _ _ c.in_ok-add_to.ensures.text c.received.ensures)
    (added_after (spelling (array max_sends sent_item) (map sent_value (finite.entries s.sends))) _ _ _ _
    c.add_rest.result
    (instead (λ r. spelling (array max_sends sent_item) (map sent_value (finite.entries r))) _ s.sends _ _
    c.in_ok-add_to-2.ensures.text c.sends.ensures)
    (subst (λ (m : Machine). Adds (rest_front m) c.add_to-2.new.out.items c.add_rest.result
    c.add_rest.new.out.items) c.machine-2.ensures.machine c.add_rest.ensures))))))

pub returns-in_err-put_u32 : goal.returns-in_err-put_u32
returns-in_err-put_u32 c =
    let p = err_from_is_err_and c.from_residual.result c.from_residual.ensures.1 in
    rw p.1 (unchanged _ _ c.in_err-put_u32.ensures.writes)

pub returns-in_err-put_u32-2 : goal.returns-in_err-put_u32-2
returns-in_err-put_u32-2 c =
    let residual = c.from_residual-in_err-put_u32-2 in
    let p = err_from_is_err_and residual.result residual.ensures.1 in
    rw p.1 (further _ _ _ _ c.in_ok-put_u32.ensures.writes
    (unchanged _ _ c.in_err-put_u32-2.ensures.writes))

pub returns-in_err-put_u32-3 : goal.returns-in_err-put_u32-3
returns-in_err-put_u32-3 c =
    let residual = c.from_residual-in_err-put_u32-3 in
    let p = err_from_is_err_and residual.result residual.ensures.1 in
    rw p.1 (further _ _ _ _ c.in_ok-put_u32.ensures.writes
    (further _ _ _ _ c.in_ok-put_u32-2.ensures.writes
    (unchanged _ _ c.in_err-put_u32-3.ensures.writes)))

pub returns-in_err-add_time : goal.returns-in_err-add_time
returns-in_err-add_time c =
    let residual = c.from_residual-in_err-add_time in
    let p = err_from_is_err_and residual.result residual.ensures.1 in
    rw p.1 (further _ _ _ _ c.in_ok-put_u32.ensures.writes
    (further _ _ _ _ c.in_ok-put_u32-2.ensures.writes
    (further _ _ _ _ c.in_ok-put_u32-3.ensures.writes
    c.in_err-add_time.ensures)))

pub returns-in_err-add_to : goal.returns-in_err-add_to
returns-in_err-add_to c =
    let residual = c.from_residual-in_err-add_to in
    let p = err_from_is_err_and residual.result residual.ensures.1 in
    rw p.1 (further _ _ _ _ c.in_ok-put_u32.ensures.writes
    (further _ _ _ _ c.in_ok-put_u32-2.ensures.writes
    (further _ _ _ _ c.in_ok-put_u32-3.ensures.writes
    (further _ _ _ _ c.in_ok-add_time.ensures
    c.in_err-add_to.ensures.text))))

pub returns-in_err-add_to-2 : goal.returns-in_err-add_to-2
returns-in_err-add_to-2 c =
    let residual = c.from_residual-in_err-add_to-2 in
    let p = err_from_is_err_and residual.result residual.ensures.1 in
    rw p.1 (further _ _ _ _ c.in_ok-put_u32.ensures.writes
    (further _ _ _ _ c.in_ok-put_u32-2.ensures.writes
    (further _ _ _ _ c.in_ok-put_u32-3.ensures.writes
    (further _ _ _ _ c.in_ok-add_time.ensures
    (further _ _ _ _ c.in_ok-add_to.ensures.text
    c.in_err-add_to-2.ensures.text)))))
