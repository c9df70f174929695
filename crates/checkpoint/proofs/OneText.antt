-- A text is that of one state.
-- Serves: read_state.
use Rattle.std.proofs.Common.{◌≡◌, ℕ, List, Some, sym, ◌∙◌}
use Rattle.xdr.specs.Texts.Text.{text_at}
use Rattle.nfs_laws.proofs.fs_spec.Walks.{none_some, some_same}
use Rattle.state_spec.specs.State.{State}
use Rattle.state_spec.specs.StateText.{Said, spelled_text, IsStateText, IsGarbage}
use Rattle.state_spec.specs.Rules.{KeepsRules}
use Rattle.state_machine.proofs.state_spec.Back.{one_state}
use Rattle.state_machine.proofs.state_spec.Ruled.{rules_of_state}
use Rattle.state_machine.proofs.state_spec.Texts.{read_again}

-- two states of a text are the same
pub one_state_of : (s t : State) (bytes : List ℕ) → IsStateText s bytes → IsStateText t bytes → s ≡ t
one_state_of s t bytes h k =
    one_state s t h.state k.state (some_same (sym (read_again s bytes h) ∙ read_again t bytes k))

-- what the text of a state says keeps the rules
pub rules_of_text : (s : State) (v : Said) (bytes : List ℕ) → IsStateText s bytes
    → text_at spelled_text bytes ≡ Some v
    → KeepsRules v
rules_of_text s v bytes h read = rules_of_state v s h.state (some_same (sym (read_again s bytes h) ∙ read))

-- the text of a state is no garbage
pub never_garbage : (s : State) (bytes : List ℕ) → IsStateText s bytes → IsGarbage bytes → ⊥
never_garbage s bytes h none = none_some (sym none ∙ read_again s bytes h)
