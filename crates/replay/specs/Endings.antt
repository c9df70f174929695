-- Where a run of a machine ends.
use Rattle.std.specs.Prelude.{◌≡◌, List}
use Rattle.authenticator.specs.declared.authenticator.Authenticator.{Authenticator}
use Rattle.replay_spec.specs.Replay as spec
use Rattle.replay.specs.Faults.{fault_in}
use Rattle.replay.specs.declared.run.Ending.{Ending}
use Rattle.replay.specs.declared.run.Ending.TheVariants.{Sound, Fault}

-- A run ends by a verdict: in its state, with what is kept of its authenticators, or in its fault and place.
abbrev pub EndsBy : {K : Type 0} → (K → List Authenticator → Type 0) → Ending K → spec.Verdict → Type 0
EndsBy IsKeptOf (Sound t kept) verdict =
    (shown : List Authenticator) × (verdict ≡ spec.Sound t.state shown) × IsKeptOf kept shown
EndsBy IsKeptOf (Fault fault number) verdict = verdict ≡ spec.Fault (fault_in fault) number
