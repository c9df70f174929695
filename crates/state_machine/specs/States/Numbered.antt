-- Messages with their numbers.
use Rattle.std.specs.Prelude.{ℕ, List, map}
use Rattle.state_spec.specs.State.{SentMessage}
use Rattle.state_machine.specs.declared.states.texts.NumberedSend.{NumberedSend}

-- each message after its number
abbrev pub numbered : List NumberedSend → List (ℕ × SentMessage)
numbered messages = map (λ (s : NumberedSend). (s.seq, s.message)) messages
