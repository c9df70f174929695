-- What became of an envelope.
use Rattle.std.specs.Prelude.{ℕ, Bool, true, false}
use Rattle.commitment.specs.declared.outcome.Received.{Received}
use Rattle.commitment.specs.declared.outcome.Received.TheVariants.{New, Repeat}

-- the number of its RECV
abbrev pub receipt_number : Received ℕ → ℕ
receipt_number (New number) = number
receipt_number (Repeat number) = number

-- whether it was logged just now
abbrev pub is_new : {T : Type 0} → Received T → Bool
is_new (New x) = true
is_new (Repeat x) = false
