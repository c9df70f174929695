use Rattle.evidence_spec.proofs.Reached.{goes_on}
use Rattle.evidence_spec.proofs.laws.a_segment_after_a_reached_place_is_sound.Goals as goal

pub returns : goal.returns
returns c = goes_on
