use Rattle.std.proofs.Common.{subst}
use Rattle.xdr.specs.Item.{Fits}
use Rattle.state_spec.specs.server_spec.FileItems.{file_item}
use Rattle.state_spec.specs.State.{State, IsState}
use Rattle.state_spec.specs.StateItems.{state_item}
use Rattle.state_spec.specs.StateText.{said}
use Rattle.state_machine.proofs.KeptStates.{state_seen}
use Rattle.state_machine.proofs.StatesFit.{state_fits}
use Rattle.state_machine.proofs.state.State.is_a_state.Goals as goal

pub returns-clause-state : goal.returns-clause-state
returns-clause-state c =
    subst IsState (state_seen c.self.view_is) (c.is_valid.ensures.machine c.self.inside.node c.self.invariant)

pub returns-clause-fits : goal.returns-clause-fits
returns-clause-fits c =
    subst (λ (s : State). Fits (state_item file_item) (said s)) (state_seen c.self.view_is)
    (state_fits _ c.is_word.ensures c.are_bounded.ensures c.are_bounded-2.ensures c.is_valid.ensures.text)
