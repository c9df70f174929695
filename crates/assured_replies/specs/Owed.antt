-- What it means that a reply in a server's log is the one that the server owed.
use Rattle.std.specs.Prelude.{◌≡◌, ℕ, ◌+◌, List, [], ◌∷◌, ◌++◌, Some}
use Rattle.merkle_keys.specs.Signing.{SignatureParts}
use Rattle.authenticator.specs.declared.member.Member.{Member}
use Rattle.secure_log.specs.LogEntries.Chain.{Logged, span}
use Rattle.secure_log.specs.declared.log_entries.entry.Entry.TheVariants.{Send, Recv, Clock}
use Rattle.nfs_items.specs.Timeval.{Timeval}
use Rattle.server_spec.specs.World.{World}
use Rattle.server_spec.specs.Replies.{reply_owed}
use Rattle.state_spec.specs.State.{State, Server, Idle}
use Rattle.replay_spec.specs.Placed.{logged_places}
use Rattle.replay_spec.specs.Replay.{Honest, last_state}
use Rattle.witness_spec.specs.Starting.{start_hash, start_number, start_state}
use Rattle.witness_spec.specs.Watched.{Watched}

-- where the audit of a log begins: the roster, a number, the hash and the state there
pub record Start : Type 0 where
  pub roster : List Member
  pub number : ℕ
  pub hash : List ℕ
  pub state : State

-- where that of a watched node does: before its first entry, or at its base
abbrev pub start_of : Watched → Start
start_of w = record {
  roster = w.roster;
  number = start_number w.base;
  hash = start_hash w.base;
  state = start_state w.member w.base;
}

-- Entries from a start on are honest, and after them a server has this world and owes nothing.
pub record LeadsTo (start : Start) (log : List Logged) (world : World) : Type 0 where
  -- the state after each entry
  pub states : List State
  pub honest : Honest start.roster start.state (logged_places start.number start.hash log) states
  pub machine : (last_state start.state states).machine ≡ Server world Idle

-- In a log there stand, one right after the other, the RECV of a call, a CLOCK, and the SEND of a reply to who sent
-- the call, which has this number. The reply is the one that a server with the world that the entries before lead
-- to owes to the call at the time of that clock reading (RFC 5531, section 9; RFC 1094, section 2.2).
pub record IsOwedIn (start : Start) (log : List Logged) (number caller : ℕ) (call reply : List ℕ) : Type 0 where
  pub before : List Logged
  pub received : Logged
  pub read : Logged
  pub sent : Logged
  pub rest : List Logged
  pub whole : log ≡ before ++ received ∷ read ∷ sent ∷ rest
  pub place : start.number + span (before ++ received ∷ read ∷ sent ∷ []) ≡ number
  -- the message that is the call
  pub seq : ℕ
  pub prev : List ℕ
  pub signature : SignatureParts
  pub is_call : received.entry ≡ Recv caller seq prev call signature
  -- the clock reading
  pub time : Timeval
  pub is_reading : read.entry ≡ Clock time.seconds time.microseconds
  pub is_reply : sent.entry ≡ Send caller reply
  -- the server's files, and what they owe
  pub world : World
  pub leads : LeadsTo start before world
  pub owed : reply_owed world time call ≡ Some reply
