-- Honest entries, and what a replay finds.
use Rattle.std.specs.Prelude.{ℕ, List, [], ◌∷◌, Option, Some, None, Ok, Err}
use Rattle.secure_log.specs.authenticator.declared.member.Member.{Member}
use Rattle.secure_log.specs.authenticator.declared.authenticator.Authenticator.{Authenticator}
use Rattle.state_spec.specs.State.{State}
use Rattle.replay_spec.specs.Placed.{Placed}
use Rattle.replay_spec.specs.Steps.{Takes}
use Rattle.replay_spec.specs.Stepping.{ReplayFault, step, shown_by}

-- Entries are honest after a state: after each there is a state that it leads to from the one before.
abbrev pub Honest : List Member → State → List Placed → List State → Type 0
Honest ms s [] [] = Unit {0}
Honest ms s [] (t ∷ ts) = ⊥
Honest ms s (p ∷ ps) [] = ⊥
Honest ms s (p ∷ ps) (t ∷ ts) = Takes ms s p t × Honest ms t ps ts

-- the last of the states after a first one
abbrev pub last_state : State → List State → State
last_state s [] = s
last_state s (t ∷ ts) = last_state t ts

-- an authenticator, if there is one, before others
abbrev pub with_shown : Option Authenticator → List Authenticator → List Authenticator
with_shown None found = found
with_shown (Some a) found = a ∷ found

-- the authenticators that entries show, in order, by the states after them
abbrev pub found : State → List Placed → List State → List Authenticator
found s [] ts = []
found s (p ∷ ps) [] = []
found s (p ∷ ps) (t ∷ ts) = with_shown (shown_by s p.entry) (found t ps ts)

-- What a replay answers: the state after all entries and what they show; or the first fault, and the number
-- of the entry that has it.
pub data Verdict : Type 0 where
  Sound : State → List Authenticator → Verdict
  Fault : ReplayFault → (number : ℕ) → Verdict

-- the verdict on entries after one that shows this, if it shows something
abbrev pub behind : Option Authenticator → Verdict → Verdict
behind shown (Sound s more) = Sound s (with_shown shown more)
behind shown (Fault fault number) = Fault fault number

-- the verdict on entries after a state
abbrev pub verdict_of : List Member → State → List Placed → Verdict
verdict_of ms s [] = Sound s []
verdict_of ms s (p ∷ ps) = elim (step ms s p) [
  | Ok t ↦ behind (shown_by s p.entry) (verdict_of ms t ps)
  | Err fault ↦ Fault fault p.number
]
