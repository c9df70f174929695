-- A node's kind stays through its steps.
-- Serves: step (KindMachine).
use Rattle.std.proofs.Common.{◌≡◌, ℕ, List, Option, Some, None, Result, Ok, Err, refl, sym, ap, ◌∙◌}
use Rattle.authenticator.specs.declared.member.Member.{Member}
use Rattle.secure_log.specs.declared.log_entries.entry.Entry.{Entry}
use Rattle.secure_log.specs.declared.log_entries.entry.Entry.TheVariants.{Send, Recv, Ack, Clock, Check}
use Rattle.checkpoint.specs.state_spec.State.{Idle, Heard, Owes, Machine, Server, Client, State}
use Rattle.replay_spec.specs.Steps.{after_entry}
use Rattle.replay_spec.specs.Stepping.{ReplayFault, fault_of, step, unless_fault}
use Rattle.replay.specs.Steps.{Steps, worded_place}
use Rattle.replay_spec.specs.Opening.{kind_of}
use Rattle.replay.specs.declared.steps.StepFault.{StepFault}
use Rattle.replay.specs.declared.steps.StepFault.TheVariants.{NoMemory, Fault}

unless_ok : (s t : State) (f : Option ReplayFault) → unless_fault s f ≡ Ok t → s ≡ t
unless_ok s t None h = cc
unless_ok s t (Some fault) h = absurd (cc)

-- a step leaves the state after the entry
step_after : (ms : List Member) (s t : State) (entry_word : ℕ) (before : List ℕ) (e : Entry)
    → step ms s (worded_place entry_word before e) ≡ Ok t → after_entry s entry_word before e ≡ t
unfolding step
step_after ms s t entry_word before e h = unless_ok (after_entry s entry_word before e) t (fault_of ms s e) h

-- an entry leaves a machine of the same kind
kind_after : (s : State) (machine : Machine) (entry_word : ℕ) (before : List ℕ) (e : Entry)
    → kind_of (after_entry (record s { machine = machine }) entry_word before e).machine ≡ kind_of machine
kind_after s (Server w stage) entry_word before (Send to body) = refl
kind_after s (Server w stage) entry_word before (Recv from seq prev body signature) = refl
kind_after s (Server w stage) entry_word before (Ack to seq mine theirs prev signature) = refl
kind_after s (Server w Idle) entry_word before (Clock seconds microseconds) = refl
kind_after s (Server w (Heard from body)) entry_word before (Clock seconds microseconds) = refl
kind_after s (Server w (Owes to body)) entry_word before (Clock seconds microseconds) = refl
kind_after s (Server w stage) entry_word before (Check digest) = refl
kind_after s (Client clock) entry_word before (Send to body) = refl
kind_after s (Client clock) entry_word before (Recv from seq prev body signature) = refl
kind_after s (Client clock) entry_word before (Ack to seq mine theirs prev signature) = refl
kind_after s (Client clock) entry_word before (Clock seconds microseconds) = refl
kind_after s (Client clock) entry_word before (Check digest) = refl

-- a step leaves one, whatever it answers
pub kind_stays : {A : Type 0} (ms : List Member) (s t : State) (entry_word : ℕ) (before : List ℕ) (e : Entry)
    (result : Result A StepFault) → Steps ms s (worded_place entry_word before e) result t
    → kind_of t.machine ≡ kind_of s.machine
kind_stays ms s t entry_word before e (Ok done) h =
    ap (λ (x : State). kind_of x.machine) (sym (step_after ms s t entry_word before e h))
    ∙ kind_after s s.machine entry_word before e
kind_stays ms s t entry_word before e (Err NoMemory) h = ap (λ (x : State). kind_of x.machine) h
kind_stays ms s t entry_word before e (Err (Fault fault)) h = ap (λ (x : State). kind_of x.machine) h.1
