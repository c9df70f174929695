-- What a step of a machine answers, and what it leaves.
use Rattle.std.specs.Prelude.{◌≡◌, ℕ, List, Result, Ok, Err}
use Rattle.authenticator.specs.declared.member.Member.{Member}
use Rattle.secure_log.specs.declared.log_entries.entry.Entry.{Entry}
use Rattle.checkpoint.specs.state_spec.State.{State}
use Rattle.replay_spec.specs.Placed.{Placed}
use Rattle.replay_spec.specs.Stepping.{step}
use Rattle.replay.specs.Faults.{fault_in}
use Rattle.replay.specs.declared.steps.StepFault.{StepFault}
use Rattle.replay.specs.declared.steps.StepFault.TheVariants.{NoMemory, Fault}

-- an entry with a word, after a hash
abbrev pub worded_place : (entry_word : ℕ) (before : List ℕ) → Entry → Placed
worded_place entry_word before e = record { skipped = 0; number = entry_word; before = before; entry = e }

-- A step from a state answers as the reference machine does: it leaves the state after the entry, or names
-- the entry's fault and leaves the state before. That it leaves where memory is refused, too.
abbrev pub Steps : {A : Type 0} → List Member → State → Placed → Result A StepFault → State → Type 0
Steps ms s p (Ok done) t = step ms s p ≡ Ok t
Steps ms s p (Err NoMemory) t = t ≡ s
Steps ms s p (Err (Fault fault)) t = (step ms s p ≡ Err (fault_in fault)) × (t ≡ s)
