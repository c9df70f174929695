-- The numbers of a log's entries.
use Rattle.std.specs.Prelude.{◌≡◌, ◌≤◌, ◌<◌, ◌+◌, ◌^◌, ℕ, zero, suc, List, [], ◌∷◌, length}
use Rattle.std.specs.Prelude.{Option, Some, None}
use Rattle.authenticator.specs.declared.member.LogVersion.{LogVersion}
use Rattle.authenticator.specs.declared.member.LogVersion.TheVariants.{One, Two}
use Rattle.secure_log.specs.LogEntries.Chain.{Logged}

-- a number of 64 bits is this one; where there is none, this one has more
abbrev pub IsNumber : Option ℕ → ℕ → Type 0
IsNumber (Some n) number = n ≡ number
IsNumber None number = 2 ^ 64 ≤ number

-- how many numbers are skipped just before the entry at a place
abbrev pub skipped_in : List Logged → (at : ℕ) → ℕ
skipped_in [] at = 0
skipped_in (l ∷ ls) zero = l.skipped
skipped_in (l ∷ ls) (suc at) = skipped_in ls at

-- the number after that of the entry before a place, where entries speak of numbers from `first` on
abbrev pub next_number : (first : ℕ) → List Logged → (at : ℕ) → ℕ
next_number first log zero = first
next_number first log (suc at) = next_number first log at + skipped_in log at + 1

-- the number of the entry at a place
abbrev pub number_at : (first : ℕ) → List Logged → (at : ℕ) → ℕ
number_at first log at = next_number first log at + skipped_in log at

-- So many entries stand before the first that has this number or a greater one.
pub record AreBelow (first : ℕ) (log : List Logged) (number count : ℕ) : Type 0 where
  pub few : count ≤ length log
  pub below : (at : ℕ) → at < count → number_at first log at < number
  pub rest : count < length log → number ≤ number_at first log count

-- The entry at a place has this number.
pub record StandsAt (first : ℕ) (log : List Logged) (number at : ℕ) : Type 0 where
  pub inside : at < length log
  pub its : number_at first log at ≡ number

-- So many numbers from one on are low enough for a log of this version: in version 1 all are below the greatest of
-- 64 bits. In version 2 what entries may skip says it.
abbrev pub AreLow : LogVersion → (first count : ℕ) → Type 0
AreLow One first count = first + count < 2 ^ 64
AreLow Two first count = Unit {0}
