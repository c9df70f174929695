-- What a set or a map of a state keeps.
use Rattle.std.specs.Prelude.{ℕ, ◌≤◌, List, length}
use Rattle.std.specs.List.{AllByRecursion}
use Rattle.std.specs.List.Sorted.{IsStrictlySortedBy}
use Rattle.std.specs.declared.cmp.Ordering.{Ordering}

-- its keys are at most so many, each is below those after it, and each of what it holds has its bounds
pub record AreKept {K X : Type 0} (R : K → K → Ordering) (P : X → Type 0) (max : ℕ) (keys : List K)
    (held : List X) : Type 0 where
  pub few : length keys ≤ max
  pub rising : IsStrictlySortedBy R keys
  pub bounded : AllByRecursion P held
