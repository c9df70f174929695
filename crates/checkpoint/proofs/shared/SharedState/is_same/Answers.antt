use Rattle.std.proofs.Common.{subst}
use Rattle.state_spec.specs.StateText.{IsStateText}
use Rattle.checkpoint.proofs.OneText.{one_state_of}
use Rattle.checkpoint.proofs.SharedStates.{one_text}
use Rattle.checkpoint.proofs.shared.SharedState.is_same.Goals as goal

-- a text has one state, and a state one text
pub returns : goal.returns
returns c = (
  (λ same.
      let bytes = c.is_same_text.ensures.0 same in
      let own = subst (IsStateText c.args.self.now) bytes c.text.ensures in
      one_state_of c.args.self.now c.args.other.now c.text-2.result.now own c.text-2.ensures),
  (λ same. c.is_same_text.ensures.1
      (one_text c.args.self.now c.args.other.now c.text.result.now c.text-2.result.now c.text.ensures
      c.text-2.ensures same)),
)
