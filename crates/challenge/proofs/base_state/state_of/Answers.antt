use Rattle.challenge.proofs.base_state.state_of.Goals as goal

pub returns-in_default-clause-none : goal.returns-in_default-clause-none
returns-in_default-clause-none c = λ s h. c.in_default.ensures.none s h.check

pub bytes_state-requires-clause-zero : goal.bytes_state-requires-clause-zero
bytes_state-requires-clause-zero c = c.begins_with_zeros.ensures.0 c.if-not-begins_with_zeros.false
