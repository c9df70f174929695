-- The commands that a process takes at its control socket.
use Rattle.std.specs.Prelude.{◌≡◌, ◌++◌, ◌∷◌, ℕ, List, [], codes}
use Rattle.sockets.specs.declared.control.Command.{Command}
use Rattle.sockets.specs.declared.control.Command.TheVariants.{Status, Stop}

-- the word of a command
abbrev pub word_of : Command → List ℕ
word_of Stop = codes "stop"
word_of Status = codes "status"

-- the line that gives a command: its word and a line feed (10)
abbrev pub line_of : Command → List ℕ
line_of command = word_of command ++ (10 ∷ [])

-- a line gives no command
abbrev pub IsNoCommand : List ℕ → Type 0
IsNoCommand line = (command : Command) → line ≡ line_of command → ⊥
