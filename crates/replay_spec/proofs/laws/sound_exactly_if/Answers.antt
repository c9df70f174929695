use Rattle.std.proofs.Common.{◌∙◌, ap₂}
use Rattle.replay_spec.specs.Replay.{Sound}
use Rattle.replay_spec.proofs.Runs.{sound, is_sound}
use Rattle.replay_spec.proofs.laws.sound_exactly_if.Goals as goal

-- both ways, by the list of states
pub returns : goal.returns
returns c = λ ms s t ps shown. (
  λ h. let r = is_sound ms s ps t shown h in (r.states, r.honest, r.last, r.all),
  λ h. sound ms s ps h.0 h.1 ∙ ap₂ (λ u x. Sound u x) h.2 h.3,
)
