-- The state that a text gives.
use Rattle.std.specs.Prelude.{ℕ, List, Option, Some, None}
use Rattle.xdr.specs.Texts.Text.{text_at}
use Rattle.state_spec.specs.State.{State, opening_server}
use Rattle.state_spec.specs.StateText.{Said, spelled_text}
use Rattle.state_spec.specs.StateValues.{state_from}

-- the state that a value gives, or any where there is no value
abbrev pub state_or_any : Option Said → State
state_or_any (Some v) = state_from v
state_or_any None = opening_server 0

-- the state whose text the bytes are, where they are the text of one
unfoldable pub state_of_text : List ℕ → State
state_of_text bytes = state_or_any (text_at spelled_text bytes)
