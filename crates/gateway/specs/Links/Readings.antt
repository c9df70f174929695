-- What a clock reads.
use Rattle.std.specs.Prelude.{◌≡◌, ◌+◌, ℕ, zero, suc, List, [], ◌∷◌, Option, IsSomeAnd}
use Rattle.nfs_items.specs.Timeval.{Timeval}

-- the readings of a clock from now on: the k-th of them, from 0
abbrev pub Readings : Type 0
Readings = ℕ → Timeval

-- The first n of these readings were taken, and those after them are left.
abbrev pub IsAfter : ℕ → Readings → Option Readings → Type 0
IsAfter n readings left = IsSomeAnd left (λ rest. (k : ℕ) → rest k ≡ readings (n + k))

-- a time, then each of a list, and the last of them from then on
abbrev pub readings_of : Timeval → List Timeval → Readings
readings_of time [] k = time
readings_of time (t ∷ ts) zero = time
readings_of time (t ∷ ts) (suc k) = readings_of t ts k
