-- What was audited of a node, and what was shown of it.
use Rattle.std.specs.Prelude.{◌≡◌, ◌≢◌, ◌⊎◌, ℕ, ◌+◌, ◌<◌, List, length}
use Rattle.std.specs.List.{AllByRecursion}
use Rattle.xdr.specs.Item.{Fits}
use Rattle.authenticator.specs.declared.authenticator.Authenticator.{Authenticator}
use Rattle.secure_log.specs.LogEntries.Chain.{IsAmong, Logged, logged_links, marks, span}
use Rattle.secure_log.specs.LogEntries.Entry.{entry_item, entry_value}
use Rattle.witness_spec.specs.state_spec.State.{State}
use Rattle.witness_spec.specs.replay_spec.Placed.{logged_places}
use Rattle.witness_spec.specs.replay_spec.Replay.{Honest, last_state}
use Rattle.witness_spec.specs.Replies.{Reply, Exposed}
use Rattle.witness_spec.specs.Replies as replies
use Rattle.witness_spec.specs.Starting.{Beginning, start_hash, start_number, start_state}
use Rattle.witness_spec.specs.Watched.{Watched, IsInRoster, IsWatchedFrom}
use Rattle.witness_spec.specs.Steps.{Step, Past}
use Rattle.witness_spec.specs.Steps as steps
use Rattle.witness_spec.specs.Pairs.{Pair, pair_of}
use Rattle.witness_spec.specs.Standing.{audited, end_of, indication, shown}
use Rattle.witness_spec.specs.Histories.{History, IsHistory, own_of}

-- the marks of all that was audited, from where the audit began
abbrev pub audited_marks : Watched → Past → List Pair
audited_marks w past =
    marks (start_number w.base) (start_hash w.base) (logged_links (start_number w.base) (audited w past))

-- All that was audited of a node is one log from where the audit began up to the end. It is honest from the state
-- there to that of the end, and has a mark at each number that is shown of the node: no other was shown.
pub record IsAuditedLog (w : Watched) (past : Past) : Type 0 where
  -- each entry has a text
  pub each : AllByRecursion (λ (l : Logged). Fits entry_item (entry_value l.entry)) (audited w past)
  -- where there are any, the hash before them has 32 bytes
  pub opened : 0 < length (audited w past) → length (start_hash w.base) ≡ 32
  -- they take up the numbers up to the end
  pub count : start_number w.base + span (audited w past) ≡ (end_of w past).number
  -- the state after each entry
  pub states : List State
  pub honest : Honest w.roster (start_state w.member w.base)
      (logged_places (start_number w.base) (start_hash w.base) (audited w past)) states
  -- the last is the end's
  pub last : last_state (start_state w.member w.base) states ≡ (end_of w past).state
  -- what was shown at a number is the mark there
  pub one : (number : ℕ) (mark other : List ℕ) → IsAmong (number, mark) (audited_marks w past)
      → IsAmong (number, other) (shown w past) → mark ≡ other

-- Of a node that isn't exposed, what was audited is such a log.
abbrev pub AuditedLogsAreHonest : Type 0
AuditedLogsAreHonest =
    (g : Beginning) (w : Watched) (history : History)
    → IsInRoster w → IsWatchedFrom g w → IsHistory g history
    → indication w (own_of w history) ≢ Exposed → IsAuditedLog w (own_of w history)

-- A step with its reply takes an authenticator: it learns it, and was answered Noted or Already.
pub record Takes (a : Authenticator) (step : Step) (reply : Reply) : Type 0 where
  pub learns : step ≡ steps.Learn a
  pub answer : (reply ≡ replies.Noted) ⊎ (reply ≡ replies.Already)

-- The pair of an authenticator was shown of a node: its number and its hash.
abbrev pub IsShown : Watched → Past → Authenticator → Type 0
IsShown w past a = IsAmong (pair_of w.member.log_version a) (shown w past)

-- Of a node that isn't exposed, each authenticator that was taken was shown.
abbrev pub TakenIsShown : Type 0
TakenIsShown =
    (g : Beginning) (w : Watched) (history : History) (a : Authenticator) (p : Step × Reply)
    → IsInRoster w → IsWatchedFrom g w → IsHistory g history
    → indication w (own_of w history) ≢ Exposed
    → IsAmong p (own_of w history) → Takes a p.0 p.1 → IsShown w (own_of w history) a
