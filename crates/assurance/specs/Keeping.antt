-- What an `Assurance` keeps of the events.
use Rattle.std.specs.Prelude.{◌≡◌, ℕ, ◌≤◌, List, [], Option, Some, None, All, Contains}
use Rattle.assurance.specs.Events.{History}
use Rattle.assurance.specs.Assured.{LastAnswer, last_answer, left_out, waiting}
use Rattle.assurance.specs.declared.assured.Answer.{Answer}
use Rattle.assurance.specs.declared.assured.Assurance.{Assurance}

-- The least of some numbers; none of none.
abbrev pub IsLeast : List ℕ → Option ℕ → Type 0
IsLeast xs None = xs ≡ []
IsLeast xs (Some m) = All (λ n. m ≤ n) xs × Contains xs m

-- An answer is kept, with the least number of what it leaves out.
pub record IsKept (a : LastAnswer) (kept : Answer) : Type 0 where
  pub exposed : kept.is_exposed ≡ a.exposed
  pub end : kept.end ≡ a.end
  pub least : IsLeast a.out kept.left_out

-- The last one is kept, if one came.
abbrev pub IsLast : Option LastAnswer → Option Answer → Type 0
IsLast None None = Unit {0}
IsLast None (Some kept) = ⊥
IsLast (Some a) None = ⊥
IsLast (Some a) (Some kept) = IsKept a kept

-- It stands for these events: it keeps which replies wait, the least number of what an answer would leave out, and
-- the last answer.
pub record StandsFor (h : History) (a : Assurance) : Type 0 where
  pub waits : a.waiting.items ≡ waiting h
  pub out : IsLeast (left_out h) a.left_out
  pub last : IsLast (last_answer h) a.last

-- After a call it stands for one event more.
abbrev pub GoesOn : Assurance → (event : History → History) → Assurance → Type 0
GoesOn old event new = (h : History) → StandsFor h old → StandsFor (event h) new
