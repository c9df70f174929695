use Rattle.checkpoint.proofs.SharedStates.{is_text_of_given, text_gives}
use Rattle.checkpoint.proofs.shared.SharedState.new.Goals as goal

-- the text is one of the state that it gives
pub invariant_of-result : goal.invariant_of-result
invariant_of-result c = rw c.in-Ok.ensures.ok (is_text_of_given c.args.state.now.state _ c.in_ok-text.ensures)

-- and it gives the state
pub returns-in-Ok : goal.returns-in-Ok
returns-in-Ok c = rw c.in-Ok.ensures.ok (text_gives c.args.state.now.state _ c.in_ok-text.ensures)
