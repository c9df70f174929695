-- What a server logs for a message that it hears, and the state after that.
use Rattle.std.specs.Prelude.{◌≡◌, ◌≢◌, ◌+◌, ◌<◌, ℕ, false, List, [], ◌∷◌, Option, Some, None}
use Rattle.merkle_keys.specs.Signing.{SignatureParts}
use Rattle.secure_log.specs.authenticator.Signed.{IsSignedIn}
use Rattle.secure_log.specs.authenticator.declared.member.Member.{Member}
use Rattle.secure_log.specs.LogEntries.Chain.{Logged, last_hash, logged_links}
use Rattle.secure_log.specs.declared.log_entries.entry.Entry.{Entry}
use Rattle.secure_log.specs.declared.log_entries.entry.Entry.TheVariants.{Send, Recv, Clock}
use Rattle.nfs_items.specs.Timeval.{Timeval, is_before}
use Rattle.state_spec.specs.server_spec.World.{World}
use Rattle.state_spec.specs.server_spec.Replies.{reply_owed, world_after}
use Rattle.state_spec.specs.State.{is_received, with_received, Idle, Server, State}
use Rattle.replay_spec.specs.StateSteps.{having_sent}
use Rattle.replay_spec.specs.Shown.{sender_shown}
use Rattle.replay_spec.specs.Steps.{received_message, sent_message}

-- A server may hear a message, and read its clock at a time.
pub record MayHear (ms : List Member) (s : State) (w : World) (from seq : ℕ) (prev body : List ℕ)
    (signature : SignatureParts) (time : Timeval) : Type 0 where
  pub idle : s.machine ≡ Server w Idle
  pub other : from ≢ s.node
  pub signed : IsSignedIn ms (sender_shown s.node from seq prev body signature)
  pub fresh : is_received s.received (received_message s.node from seq prev body) ≡ false
  pub valid : time.microseconds < 1_000_000
  pub late : is_before time w.clock ≡ false

-- an entry before which no number is skipped
abbrev pub next_logged : Entry → Logged
next_logged e = record { skipped = 0; entry = e }

-- the entries that it logs then: RECV, before which so many numbers are skipped, CLOCK, and the SEND of a reply
-- if one is owed
abbrev pub heard_entries : (skipped from seq : ℕ) (prev body : List ℕ) → SignatureParts → Timeval
    → Option (List ℕ) → List Logged
heard_entries skipped from seq prev body signature time None =
    record { skipped = skipped; entry = Recv from seq prev body signature }
    ∷ next_logged (Clock time.seconds time.microseconds) ∷ []
heard_entries skipped from seq prev body signature time (Some reply) =
    record { skipped = skipped; entry = Recv from seq prev body signature }
    ∷ next_logged (Clock time.seconds time.microseconds) ∷ next_logged (Send from reply) ∷ []

-- the hash after the first two of them, which stand after a number and the hash there
abbrev pub hash_before_reply : (number : ℕ) (before : List ℕ) (skipped from seq : ℕ) (prev body : List ℕ)
    → SignatureParts → Timeval → List ℕ
hash_before_reply number before skipped from seq prev body signature time =
    last_hash before (logged_links number (heard_entries skipped from seq prev body signature time None))

-- the state with a reply among the messages that were sent, if there is one
abbrev pub with_reply : State → (number : ℕ) (before : List ℕ) (to : ℕ) → Option (List ℕ)
    → State
with_reply s number before to None = s
with_reply s number before to (Some reply) = having_sent s number (sent_message to before reply)

-- The state after a server heard a message, after a number and the hash there, before which so many numbers are
-- skipped: the message is taken in, the reply is kept as sent under its number, the world is that after the call,
-- and nothing is owed.
abbrev pub state_served : State → World → (skipped from seq : ℕ) (prev body : List ℕ) → SignatureParts
    → Timeval → (number : ℕ) (before : List ℕ) → State
state_served s w skipped from seq prev body signature time number before =
    with_reply
    (record s {
      received = with_received s.received (received_message s.node from seq prev body);
      machine = Server (world_after w time body) Idle;
    })
    (number + 1 + skipped + 1 + 1) (hash_before_reply number before skipped from seq prev body signature time) from
    (reply_owed w time body)
