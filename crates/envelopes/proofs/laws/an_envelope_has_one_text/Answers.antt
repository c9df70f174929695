use Rattle.envelopes.specs.Envelope.{envelope_text, envelope_value}
use Rattle.envelopes.proofs.laws.an_envelope_has_one_text.Goals as goal

pub returns-clause-exact : goal.returns-clause-exact
returns-clause-exact c =
    λ e bytes bound. c.reads_each_text.ensures.exact envelope_text (envelope_value e) bytes bound
