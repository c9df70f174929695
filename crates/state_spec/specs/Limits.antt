-- The greatest counts and lengths of a state's text.
use Rattle.std.specs.Prelude.{ℕ}

-- messages that are known to have been received
abbrev pub max_received : ℕ
max_received = 131_072

-- messages that were sent and have no acknowledgement yet
abbrev pub max_sends : ℕ
max_sends = 131_072

-- bytes of a message's body
abbrev pub max_body : ℕ
max_body = 12_288
