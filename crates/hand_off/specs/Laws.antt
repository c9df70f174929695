-- What holds of slots: each law is the contract of a function in src/laws.rt.
use Rattle.std.specs.Prelude.{◌≡◌, ℕ, Bool, Option, Some}
use Rattle.hand_off.specs.Seats.{JobParts}
use Rattle.hand_off.specs.Slots.{Kept, Sees, SlotState, holds, poster}
use Rattle.hand_off.specs.declared.view.Workers.{Workers}

-- A slot is with one worker at most: where the seats of two name it, they are one seat, with one job.
abbrev pub OneHolds : Type 0
OneHolds =
    (s : SlotState) → Kept s → (i j v w : ℕ) (a b : JobParts) → Sees s i (holds v a) → Sees s j (holds w b)
    → (i ≡ j) × (a ≡ b)

-- Where a worker's seat names a job, the poster's seat names it too, and no other.
abbrev pub HeldIsPosted : Type 0
HeldIsPosted =
    (s : SlotState) → Kept s → (i w : ℕ) (t : JobParts) → Sees s i (holds w t)
    → ((j : ℕ) × (home : Bool) × (c : Workers) × Sees s j (poster (Some t) home c))
    × ((j : ℕ) (job : Option JobParts) (home : Bool) (c : Workers) → Sees s j (poster job home c)
    → job ≡ Some t)
