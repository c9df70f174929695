use Rattle.std.proofs.Common.{sym, ◌∙◌}
use Rattle.fs_spec.proofs.Walks.{none_some, some_same}
use Rattle.state_spec.proofs.Back.{one_state}
use Rattle.state_spec.proofs.Texts.{read_again}
use Rattle.state_spec.proofs.laws.a_text_has_one_state.Goals as goal

pub returns-clause-one : goal.returns-clause-one
returns-clause-one c = λ s t bytes h k.
    one_state s t h.state k.state (some_same (sym (read_again s bytes h) ∙ read_again t bytes k))

pub returns-clause-no_garbage : goal.returns-clause-no_garbage
returns-clause-no_garbage c = λ s bytes h none. none_some (sym none ∙ read_again s bytes h)

pub returns-clause-is_state : goal.returns-clause-is_state
returns-clause-is_state c = λ s bytes h no. no.2 s h.state (some_same (sym (read_again s bytes h) ∙ no.1))
