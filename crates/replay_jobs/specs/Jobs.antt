-- What verdicts of jobs say, and what the types of jobs keep.
use Rattle.std.specs.Prelude.{◌+◌, ◌≤◌, length}
use Rattle.std.specs.FinMap.{len}
use Rattle.std.specs.Arc.{arc_value}
use Rattle.replay.specs.state_machine.declared.states.received.TheConstants.{MAX_RECEIVED}
use Rattle.replay.specs.state_machine.declared.states.sends.TheConstants.{MAX_SENDS}
use Rattle.replay.specs.replay_spec.Placed.{places_in}
use Rattle.replay.specs.replay_spec.Replay.{verdict_of}
use Rattle.replay.specs.replay_spec.Replay as spec
use Rattle.replay.specs.Faults.{fault_in}
use Rattle.witness_spec.specs.Events.{JobParts, DoneParts}
use Rattle.replay_jobs.specs.declared.verdict.JobVerdict.{JobVerdict}
use Rattle.replay_jobs.specs.declared.verdict.JobVerdict.TheVariants.{Sound, Fault}

-- what a job's verdict says
abbrev pub verdict_told : JobVerdict → spec.Verdict
verdict_told (Sound state found) = spec.Sound state (arc_value found).items
verdict_told (Fault fault number) = spec.Fault (fault_in fault) number

-- the verdict that is due for a job: the replay of its own state and segment
abbrev pub job_verdict : JobParts → spec.Verdict
job_verdict j = verdict_of j.segment.roster j.state (places_in j.segment.segment)

-- what a job is once it was done
abbrev pub done_parts : JobParts → DoneParts
done_parts j = record { job = j; verdict = job_verdict j }

-- The messages that a job's state knows, with one more of either kind for each entry of its segment, are
-- within a state's bounds.
pub record HasRoom (j : JobParts) : Type 0 where
  pub received : len j.state.received + length j.segment.segment.entries ≤ MAX_RECEIVED
  pub sends : len j.state.sends + length j.segment.segment.entries ≤ MAX_SENDS
