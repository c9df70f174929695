-- Codes, by which a proof tells values apart.
use Rattle.std.specs.Prelude.{ℕ, refl}
use Rattle.std.specs.Coded.{Coded, code_by, coded×, coded_ℕ}
use Rattle.secure_log.specs.Versioned.{ClosedParts}
use Rattle.secure_log.specs.contracts.closed.ClosedSegment.{the_row}
use Rattle.witness_spec.specs.state_spec.State.{State}
use Rattle.witness_spec.specs.state_spec.Codes.{state_code}
use Rattle.witness_spec.specs.Events.{JobParts}

-- of a closed segment with its roster
abbrev pub closed_code : Coded ClosedParts
closed_code = the_row.coded

-- of a job
abbrev pub job_code : Coded JobParts
job_code =
    code_by (ℕ × (ℕ × (State × ClosedParts)))
    (coded× coded_ℕ (coded× coded_ℕ (coded× state_code closed_code)))
    (λ j. (j.node, (j.number, (j.state, j.segment))))
    (λ p. record { node = p.0; number = p.1.0; state = p.1.1.0; segment = p.1.1.1 }) (λ _. refl)
