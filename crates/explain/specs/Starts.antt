-- The states that the entries of evidence may begin with.
use Rattle.std.specs.Prelude.{◌≤◌}
use Rattle.std.specs.FinMap.{len}
use Rattle.challenge.specs.evidence_spec.Base.{MAX_KNOWN}
use Rattle.checkpoint.specs.state_spec.State.{State}

-- A state knows no more messages of either kind than a base's may.
pub record KnowsFew (s : State) : Type 0 where
  pub received : len s.received ≤ MAX_KNOWN
  pub sends : len s.sends ≤ MAX_KNOWN
