-- What is counted of a reader or a writer.
use Rattle.std.specs.Prelude.{◌≡◌, ◌+◌, ◌-◌, ◌^◌, ◌<◌, min, ℕ, Result, Ok, Err}

-- a reader or a writer, and its count
pub record CountedDevice (T : Type 0) : Type 0 where
  pub inner : T
  pub count : ℕ

-- A count went up by one, or stands at the greatest number of its type.
abbrev pub Rises : ℕ → ℕ → Type 0
Rises old new = new ≡ min (old + 1) (2 ^ 64 - 1)

-- An Err is counted, and nothing else.
abbrev pub CountsErr : {A E : Type 0} → Result A E → ℕ → ℕ → Type 0
CountsErr (Ok x) old new = new ≡ old
CountsErr (Err e) old new = Rises old new

-- Of a write of len bytes an Err is counted, and where there are bytes also that none was taken.
abbrev pub CountsWrite : {E : Type 0} → Result ℕ E → ℕ → ℕ → ℕ → Type 0
CountsWrite (Ok n) len old new =
    ((0 < n) → new ≡ old) × ((len ≡ 0) → new ≡ old) × ((n ≡ 0) → (0 < len) → Rises old new)
CountsWrite (Err e) len old new = Rises old new
