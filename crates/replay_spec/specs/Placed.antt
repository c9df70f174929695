-- Entries at their places.
use Rattle.std.specs.Prelude.{ℕ, ◌+◌, ◌-◌, ◌<◌, ◌^◌, List, [], ◌∷◌}
use Rattle.secure_log.specs.authenticator.Numbers.{word_of}
use Rattle.secure_log.specs.declared.log_entries.entry.Entry.{Entry}
use Rattle.secure_log.specs.LogEntries.Chain.{Logged, hash_after, logged_link}
use Rattle.secure_log.specs.Versioned.{VersionedParts}

-- an entry with how many numbers are skipped just before it, its number in the log, and the hash before it
pub record Placed : Type 0 where
  pub skipped : ℕ
  pub number : ℕ
  pub before : List ℕ
  pub entry : Entry

-- an entry of a log at a number, after a hash
abbrev pub logged_place : (number : ℕ) (before : List ℕ) → Logged → Placed
logged_place number before l =
    record { skipped = l.skipped; number = number; before = before; entry = l.entry }

-- entries of a log, after a number and the hash there
abbrev pub logged_places : (before : ℕ) (opening : List ℕ) → List Logged → List Placed
logged_places before opening [] = []
logged_places before opening (l ∷ ls) =
    logged_place (before + 1 + l.skipped) opening l
    ∷ logged_places (before + 1 + l.skipped) (hash_after opening (logged_link (before + 1 + l.skipped) l)) ls

-- entries of a log from the number `first` on, after a hash: the number of each is that one, or the next after
-- the entry before it, and what it skips
abbrev pub places_from : (first : ℕ) (opening : List ℕ) → List Logged → List Placed
places_from first opening [] = []
places_from first opening (l ∷ ls) =
    logged_place (first + l.skipped) opening l
    ∷ places_from (first + l.skipped + 1) (hash_after opening (logged_link (first + l.skipped) l)) ls

-- the entries of a segment
abbrev pub places_in : VersionedParts → List Placed
places_in s = places_from s.first s.opening s.entries

-- A text may have its word.
abbrev pub HasWord : Placed → Type 0
HasWord p = word_of p.skipped p.number < 2 ^ 64 - 1
