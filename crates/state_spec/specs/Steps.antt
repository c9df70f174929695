-- What each step does to a state.
use Rattle.std.specs.Prelude.{◌≡◌, ℕ, List, Option, Some, None}
use Rattle.std.specs.FinMap as finite
use Rattle.nfs_items.specs.Timeval.{Timeval}
use Rattle.server_spec.specs.World.{World}
use Rattle.server_spec.specs.Replies.{reply_owed, world_after}
use Rattle.state_spec.specs.State.{ReceivedMessage, with_received, SentMessage, Stage, Idle, Heard, Owes}
use Rattle.state_spec.specs.State.{Machine, Server, Client, State}

-- a message more among those received
abbrev pub having_received : State → ReceivedMessage → State
having_received s message = record s { received = with_received s.received message }

-- none such among those received
abbrev pub having_forgotten : State → ReceivedMessage → State
having_forgotten s message = record s { received = finite.remove s.received message }

-- a message more among those sent, under its number
abbrev pub having_sent : State → ℕ → SentMessage → State
having_sent s seq message = record s { sends = finite.insert s.sends seq message }

-- none under a number
abbrev pub having_acknowledged : State → ℕ → State
having_acknowledged s seq = record s { sends = finite.remove s.sends seq }

-- a server's machine at a stage; a client has none
abbrev pub machine_at : Machine → Stage → Machine
machine_at (Server w old) stage = Server w stage
machine_at (Client clock) stage = Client clock

-- a state whose server is at another stage
abbrev pub at_stage : State → Stage → State
at_stage s stage = record s { machine = machine_at s.machine stage }

-- what a server owes to a node whose message was answered: the reply, if one is owed
abbrev pub owing : ℕ → Option (List ℕ) → Stage
owing to None = Idle
owing to (Some reply) = Owes to reply

-- a server after a clock reading: a message that it heard is answered at that time
abbrev pub answered : World → Stage → Timeval → Machine
answered w Idle time = Server w Idle
answered w (Heard from body) time = Server (world_after w time body) (owing from (reply_owed w time body))
answered w (Owes to body) time = Server w (Owes to body)

-- a machine after a clock reading: a client's clock shows it
abbrev pub after_reading : Machine → Timeval → Machine
after_reading (Server w stage) time = answered w stage time
after_reading (Client clock) time = Client time

-- a state after a clock reading
abbrev pub having_read : State → Timeval → State
having_read s time = record s { machine = after_reading s.machine time }

-- ---- what a server does with a message at once

-- nothing is owed: neither a clock reading nor a reply
abbrev pub IsIdle : Machine → Type 0
IsIdle (Server w Idle) = Unit {0}
IsIdle (Server w (Heard from body)) = ⊥
IsIdle (Server w (Owes to body)) = ⊥
IsIdle (Client clock) = ⊥

-- the reply that a server owes to a message's body at a time
abbrev pub reply_by : Machine → Timeval → List ℕ → Option (List ℕ)
reply_by (Server w stage) time body = reply_owed w time body
reply_by (Client clock) time body = None

-- the machine after it
abbrev pub having_answered : Machine → Timeval → List ℕ → Machine
having_answered (Server w stage) time body = Server (world_after w time body) stage
having_answered (Client clock) time body = Client clock

-- a state after a message was taken in and answered at a time
abbrev pub having_served : State → ReceivedMessage → Timeval → List ℕ → State
having_served s message time body =
    record (having_received s message) { machine = having_answered s.machine time body }

-- A state has room under a number for a message to come: another stands there for now.
abbrev pub HasPlace : State → ℕ → State → Type 0
HasPlace s seq t = (m : SentMessage) × (t ≡ having_sent s seq m)

-- Room where a reply is owed, and none where none is.
abbrev pub HasPlaceFor : Option (List ℕ) → State → ℕ → State → Type 0
HasPlaceFor None s seq t = t ≡ s
HasPlaceFor (Some reply) s seq t = HasPlace s seq t
