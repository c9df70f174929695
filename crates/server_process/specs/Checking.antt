-- When a server logs its state.
use Rattle.std.specs.Prelude.{ℕ, ◌+◌, Bool, false, nat_le, Option, Some, None, Result, if◌then◌else◌}
use Rattle.commitment.specs.declared.refusal.Refusal.{Refusal}
use Rattle.node_logs.specs.Gaps.{Checks}
use Rattle.node_logs.specs.Nodes.{NodeParts}

-- whether it does after one more new message: where it does after so many, and this is the last of so many
abbrev pub is_due : (every : Option ℕ) → (since : ℕ) → Bool
is_due None since = false
is_due (Some every) since = nat_le every (since + 1)

-- how many are counted after it
abbrev pub counted : (every : Option ℕ) → (since : ℕ) → ℕ
counted None since = since
counted (Some every) since = if nat_le every (since + 1) then 0 else since + 1

-- A CHECK was logged, or it was refused and nothing has changed.
abbrev pub LogsCheck : (n n' : NodeParts) → Type 0
LogsCheck n n' = (logged : Result ℕ Refusal) × Checks n logged n'
