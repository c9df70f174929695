-- The reply that is told is owed.
-- Serves: rows, forks and `exposed`; the laws of `limits`.
use Rattle.std.proofs.Common.{◌≡◌, false, sym}
use Rattle.std.proofs.lemmas.Bool.{true≢false}
use Rattle.witness_spec.specs.Replies.{Reply}
use Rattle.witness_spec.specs.Watched.{Watched}
use Rattle.witness_spec.specs.Steps.{Step, Past}
use Rattle.witness_spec.specs.Owing.{reply_told, IsOut, Owes}

-- a step with the reply that is told, where no job comes back
pub told : (w : Watched) (past : Past) (step : Step) (r : Reply) → ¬ IsOut w past step
    → reply_told false w past step ≡ r → Owes w past step r
told w past step r none e = record {
  is_out = false;
  decides = (λ h. absurd (true≢false (sym h)), λ h. absurd (none h));
  told = sym e;
}
