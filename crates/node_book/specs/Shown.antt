-- Entries of segments, as evidence of a replay shows them.
use Rattle.std.specs.Prelude.{◌≡◌, ℕ, zero, suc, List, [], ◌∷◌, map}
use Rattle.secure_log.specs.LogEntries.Chain.{Logged}
use Rattle.node_book.specs.declared.replayed.ShownEntries.{ShownEntries}

-- how many numbers are skipped before each of so many entries: what stands in a list, or none
abbrev pub counts_of : (skips : List ℕ) → (count : ℕ) → List ℕ
counts_of skips zero = []
counts_of [] (suc count) = 0 ∷ counts_of [] count
counts_of (n ∷ skips) (suc count) = n ∷ counts_of skips count

-- They are the entries of a log, each with how many numbers are skipped before it.
pub record IsShown (s : ShownEntries) (log : List Logged) : Type 0 where
  pub skips : s.skips.items ≡ map (λ (l : Logged). l.skipped) log
  pub entries : s.entries.items ≡ map (λ (l : Logged). l.entry) log
