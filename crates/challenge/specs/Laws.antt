-- What holds of charges: each law is the contract of a function in src/laws.rt.
use Rattle.std.specs.Prelude.{◌≡◌}
use Rattle.evidence_showings.specs.evidence_spec.Evidence.{Charge, charge_value}
use Rattle.challenge.specs.Charges.{IsWritten}

-- Two charges that say no more than their texts, and of which the texts say the same, are the same.
abbrev pub OneCharge : Type 0
OneCharge =
    (one other : Charge) → IsWritten one → IsWritten other → charge_value one ≡ charge_value other → one ≡ other
