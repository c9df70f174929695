use Rattle.acceptance_witness.proofs.OneSlot.{none_held, not_some, not_this}
use Rattle.acceptance_witness.proofs.handing.passes.Goals as goal

pub done-other-requires-clause-own : goal.done-other-requires-clause-own
done-other-requires-clause-own c = λ job held.
    absurd (not_this _ job (none_held c.finds_nothing-alone.new.worker c.args.hand_off.now c.finds_nothing-alone.ensures) held)

pub unreachable-requires : goal.unreachable-requires
unreachable-requires c =
    not_some _ (none_held c.finds_nothing-alone.new.worker c.args.hand_off.now c.finds_nothing-alone.ensures)
    c.in_default-other.ensures.held
