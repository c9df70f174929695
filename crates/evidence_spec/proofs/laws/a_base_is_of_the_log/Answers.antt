use Rattle.evidence_spec.proofs.Based.{of_the_log}
use Rattle.evidence_spec.proofs.laws.a_base_is_of_the_log.Goals as goal

pub returns : goal.returns
returns c = of_the_log c.honest_states_are_spelled.ensures
