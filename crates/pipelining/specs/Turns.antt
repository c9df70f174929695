-- The turns of calls on a connection, whose answers come in the order of the calls.
use Rattle.std.specs.Prelude.{◌≡◌, ◌+◌, ◌^◌, ◌<◌, ◌≤◌, ℕ, Bool, true, false}
use Rattle.pipelining.specs.declared.turns.Stage.TheVariants.{Closed, Opening, Open}
use Rattle.pipelining.specs.declared.turns.Standing.{Standing}
use Rattle.pipelining.specs.declared.turns.Standing.TheVariants.{Next, Later, Over}
use Rattle.pipelining.specs.declared.turns.Turn.{Turn}
use Rattle.pipelining.specs.declared.turns.Turns.{Turns}

-- There is a connection, and it has this number among those that were made.
abbrev pub IsAt : Turns → ℕ → Type 0
IsAt t n = (t.stage ≡ Open) × (t.connection ≡ n)

-- A turn was taken on the connection that there is.
abbrev pub IsTaken : Turns → Turn → Type 0
IsTaken t turn = IsAt t turn.connection × (turn.place < t.taken)

-- Its answer comes next: so many came as there are turns before it.
abbrev pub IsNext : Turns → Turn → Type 0
IsNext t turn = IsTaken t turn × (turn.place ≡ t.answered)

-- Answers to earlier turns come before its own.
abbrev pub IsLater : Turns → Turn → Type 0
IsLater t turn = IsTaken t turn × (t.answered < turn.place)

-- How a turn stands. It is over where its connection isn't the one that there is, or its answer came.
abbrev pub Stands : Turns → Turn → Standing → Type 0
Stands t turn Next = IsNext t turn
Stands t turn Later = IsLater t turn
Stands t turn Over = (¬ IsNext t turn) × (¬ IsLater t turn)

-- Somebody makes a connection from now on, where there was none and nobody made one.
abbrev pub Starts : Turns → Bool → Turns → Type 0
Starts t true t' = (t.stage ≡ Closed)
    × (t' ≡ record { stage = Opening; connection = t.connection; taken = t.taken; answered = t.answered })
Starts t false t' = (¬ (t.stage ≡ Closed)) × (t' ≡ t)

-- Nobody makes one any more, where somebody did; else nothing has changed.
pub record GivesUp (t t' : Turns) : Type 0 where
  pub opening : t.stage ≡ Opening
      → t' ≡ record { stage = Closed; connection = t.connection; taken = t.taken; answered = t.answered }
  pub stays : ¬ (t.stage ≡ Opening) → t' ≡ t

-- A connection was made by somebody who makes one: it has the next number, and no turn was taken on it. Of 2^64
-- connections the last isn't kept.
abbrev pub Opens : Turns → Bool → Turns → Type 0
Opens t true t' = (t.stage ≡ Opening)
    × (t' ≡ record { stage = Open; connection = t.connection + 1; taken = 0; answered = 0 })
Opens t false t' = (t.stage ≡ Opening → 2 ^ 64 ≤ t.connection + 1) × (t' ≡ t)

-- The next turn is taken on the connection with a number.
pub record Takes (t : Turns) (n : ℕ) (turn : Turn) (t' : Turns) : Type 0 where
  pub stands : IsAt t n
  pub last : turn ≡ record { connection = n; place = t.taken }
  pub taken : t' ≡ record { stage = Open; connection = n; taken = t.taken + 1; answered = t.answered }

-- A turn was answered, whose answer came next; or it wasn't, and nothing has changed.
abbrev pub Answers : Turns → Turn → Bool → Turns → Type 0
Answers t turn true t' = IsNext t turn
    × (t' ≡ record { stage = t.stage; connection = t.connection; taken = t.taken; answered = t.answered + 1 })
Answers t turn false t' = (¬ IsNext t turn) × (t' ≡ t)

-- The connection with a number has ended, and each turn on it is over; or it had, and nothing has changed.
abbrev pub Ends : Turns → ℕ → Bool → Turns → Type 0
Ends t n true t' = IsAt t n
    × (t' ≡ record { stage = Closed; connection = t.connection; taken = t.taken; answered = t.answered })
Ends t n false t' = (¬ IsAt t n) × (t' ≡ t)
