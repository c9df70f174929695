-- Verdicts that are worked out by computation. The roster has no members, so that no signature is looked at.
use Rattle.std.specs.Prelude.{ℕ, List, [], ◌∷◌}
use Rattle.secure_log.specs.LogEntries.Chain.{without_gaps, zeros}
use Rattle.secure_log.specs.declared.log_entries.entry.Entry.{Entry}
use Rattle.secure_log.specs.declared.log_entries.entry.Entry.TheVariants.{Send}
use Rattle.state_spec.specs.State.{Stage, Owes, State, opening_server, opening_client}
use Rattle.state_spec.specs.StateText.{state_digest}
use Rattle.state_spec.specs.Steps.{at_stage}
use Rattle.replay_spec.specs.Placed.{logged_place, logged_places}
use Rattle.replay_spec.specs.Steps.{after_entry}
use Rattle.replay_spec.specs.Replay.{Verdict, verdict_of}

-- the verdict on the first entries of a server
abbrev pub server_verdict : List Entry → Verdict
server_verdict entries = verdict_of [] (opening_server 1) (logged_places 0 zeros (without_gaps entries))

-- the verdict on the first entries of a client
abbrev pub client_verdict : List Entry → Verdict
client_verdict entries = verdict_of [] (opening_client 2) (logged_places 0 zeros (without_gaps entries))

-- the digest of the state that the client begins with
abbrev pub client_digest : List ℕ
client_digest = state_digest (opening_client 2)

-- the verdict on an entry of a server at a stage
abbrev pub verdict_at : Stage → (number : ℕ) → Entry → Verdict
verdict_at stage number e =
    verdict_of [] (at_stage (opening_server 1) stage)
    (logged_place number zeros (record { skipped = 0; entry = e }) ∷ [])

-- the state after the reply that a server owes, with this number
abbrev pub owed_sent : (to : ℕ) (body : List ℕ) (number : ℕ) → State
owed_sent to body number =
    after_entry (at_stage (opening_server 1) (Owes to body)) number zeros (Send to body)
