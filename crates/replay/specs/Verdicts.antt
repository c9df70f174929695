-- What a verdict in memory says.
use Rattle.std.specs.Prelude.{◌≡◌, ◌↔◌, List}
use Rattle.authenticator.specs.declared.member.Member.{Member}
use Rattle.authenticator.specs.declared.authenticator.Authenticator.{Authenticator}
use Rattle.checkpoint.specs.state_spec.State.{State}
use Rattle.replay_spec.specs.Placed.{Placed}
use Rattle.replay_spec.specs.Replay.{Honest, last_state, found}
use Rattle.replay_spec.specs.Replay as spec
use Rattle.replay.specs.Faults.{fault_in}
use Rattle.replay.specs.declared.verdict.Verdict.{Verdict}
use Rattle.replay.specs.declared.verdict.Verdict.TheVariants.{Sound, Fault}
use Rattle.replay.specs.declared.outcome.Outcome.{Outcome}
use Rattle.replay.specs.declared.outcome.Outcome.TheVariants as outcomes

-- the verdict on a segment
abbrev pub verdict_in : Verdict → spec.Verdict
verdict_in (Sound state found) = spec.Sound state.state found.items
verdict_in (Fault fault number) = spec.Fault (fault_in fault) number

-- Some list of states makes entries honest after a state, with this last state, and the entries show these.
abbrev pub AreHonest : List Member → State → List Placed → State → List Authenticator → Type 0
AreHonest ms s ps t shown =
    (ts : List State) × Honest ms s ps ts × (last_state s ts ≡ t) × (found s ps ts ≡ shown)

-- A verdict is Sound exactly where entries are honest, with that state and those authenticators.
abbrev pub IsSoundWhereHonest : List Member → State → List Placed → spec.Verdict → Type 0
IsSoundWhereHonest ms s ps verdict =
    (t : State) (shown : List Authenticator) → (verdict ≡ spec.Sound t shown) ↔ AreHonest ms s ps t shown

-- What a replay ends in is that of a verdict: a state, whatever the entries show, or a fault and its place.
abbrev pub IsOutcome : Outcome → spec.Verdict → Type 0
IsOutcome (outcomes.Sound t) verdict = (shown : List Authenticator) × (verdict ≡ spec.Sound t.state shown)
IsOutcome (outcomes.Fault fault number) verdict = verdict ≡ spec.Fault (fault_in fault) number
