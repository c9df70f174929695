use Rattle.envelopes.specs.Acknowledgement.{ack_text, ack_value}
use Rattle.envelopes.proofs.laws.an_acknowledgement_has_one_text.Goals as goal

pub returns-clause-exact : goal.returns-clause-exact
returns-clause-exact c = λ a bytes bound. c.reads_each_text.ensures.exact ack_text (ack_value a) bytes bound
