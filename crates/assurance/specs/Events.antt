-- What passes between a client and a witness about the replies of one server.
use Rattle.std.specs.Prelude.{ℕ, Bool, List}

-- A reply with this number in the server's log is handed out; the witness takes its signature, as one that is new to
-- it or that it has; the witness is asked what it says of the server; and it answers: whether it calls the server
-- exposed, and the last number up to which it filed the server's log Sound.
pub data Event : Type 0 where
  HandedOut : (number : ℕ) → Event
  Taken : (number : ℕ) → Event
  Asked : Event
  Told : (exposed : Bool) (end : ℕ) → Event

-- events, the newest first
abbrev pub History : Type 0
History = List Event
