-- What a stage in memory says.
use Rattle.state_spec.specs.State as spec
use Rattle.state_machine.specs.declared.stage.Stage.{Stage}
use Rattle.state_machine.specs.declared.stage.Stage.TheVariants.{Idle, Heard, Owes}

-- what a server owes next
abbrev pub stage_in : Stage → spec.Stage
stage_in Idle = spec.Idle
stage_in (Heard from body) = spec.Heard from body
stage_in (Owes to body) = spec.Owes to body
