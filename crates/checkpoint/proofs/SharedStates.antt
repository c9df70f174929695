-- A state and its text give each other.
-- Serves: SharedState::new, is_same and state.
use Rattle.std.proofs.Common.{◌≡◌, ℕ, List, sym, ap, subst, ◌∙◌}
use Rattle.xdr.specs.Item.{spelling}
use Rattle.state_spec.specs.server_spec.FileItems.{file_item}
use Rattle.state_spec.specs.State.{State}
use Rattle.state_spec.specs.StateItems.{state_item}
use Rattle.state_spec.specs.StateText.{said, IsStateText}
use Rattle.state_machine.proofs.state_spec.Back.{back}
use Rattle.state_machine.proofs.state_spec.Texts.{read_again}
use Rattle.checkpoint.specs.SharedStates.{state_or_any, state_of_text}

-- the text of a state gives that state
pub text_gives : (s : State) (bytes : List ℕ) → IsStateText s bytes → state_of_text bytes ≡ s
unfolding state_of_text
text_gives s bytes text = ap state_or_any (read_again s bytes text) ∙ back s text.state

-- a text that is one of the state that it gives
pub is_text_of_given : (s : State) (bytes : List ℕ) → IsStateText s bytes
    → IsStateText (state_of_text bytes) bytes
is_text_of_given s bytes text =
    subst (λ (t : State). IsStateText t bytes) (sym (text_gives s bytes text)) text

-- a state has one text
pub one_text : (s t : State) (a b : List ℕ) → IsStateText s a → IsStateText t b → s ≡ t → a ≡ b
one_text s t a b h k same =
    h.spelled ∙ ap (λ x. spelling (state_item file_item) (said x)) same ∙ sym k.spelled
