-- What a witness's books say of each node, whatever the history was for which they stood.
use Rattle.std.specs.Prelude.{◌≡◌, ◌≢◌, ◌↔◌, List, ◌∷◌, map, Some, IsSome}
use Rattle.authenticator.specs.declared.member.Member.{Member}
use Rattle.secure_log.specs.LogEntries.Chain.{Logged}
use Rattle.state_spec.specs.State.{State}
use Rattle.node_book.specs.evidence_spec.Evidence.{EvidenceParts}
use Rattle.node_book.specs.evidence_spec.Proving.{IsLogOf}
use Rattle.node_book.specs.evidence_spec.replay_spec.Opening.{opening_of}
use Rattle.node_book.specs.evidence_spec.replay_spec.HonestLogs.{IsHonestLog}
use Rattle.node_book.specs.witness_spec.Events.{Event}
use Rattle.node_book.specs.witness_spec.Replies.{Reply, Exposed}
use Rattle.node_book.specs.witness_spec.Standing.{indication}
use Rattle.node_book.specs.witness_spec.Exposing.{evidence}
use Rattle.node_book.specs.witness_spec.Starting.{Beginning}
use Rattle.node_book.specs.witness_spec.Watched.{Watched, watched, IsInRoster, IsWatchedFrom}
use Rattle.node_book.specs.witness_spec.Histories.{History, own_of, IsHistory, BookParts, Stands}
use Rattle.node_book.specs.witness_spec.Contract.{joined, RunsTo}
use Rattle.node_book.specs.witness_spec.Laws.{SaysSame, HasFaultyFile, IsProof}
use Rattle.node_book.specs.witness_spec.Premises.{Unforged, NoCollisionWith}

-- A run of other books of the roster, that stood for an earlier history, in which the steps of a member that
-- has the same base at both, or none, are the same and in the same order, has the same replies to these, and
-- its witness says the same of the member.
abbrev pub AgreesWithAll : Beginning → History → Type 0
AgreesWithAll g after =
    (h : Beginning) (m : Member) (first last : List BookParts) (more : List Event) (others : List Reply)
    (earlier : History)
    → let w : Watched = watched g m in
    IsInRoster w → IsWatchedFrom h w → IsHistory h earlier → Stands h first earlier
    → RunsTo h first more others last
    → map (λ p. p.0) (own_of w after) ≡ map (λ p. p.0) (own_of w (joined more others earlier))
    → SaysSame g h w after (joined more others earlier)

-- What is said of one member after a history.
pub record SaysOf (w : Watched) (after : History) : Type 0 where
  -- who keeps an honest log is never exposed, where nobody forged its signatures and no texts collide
  pub honest : (log : List Logged) (s : State)
      → IsLogOf w.member.log_version log → (h : IsHonestLog w.roster (opening_of w.member) log s)
      → Unforged w log (own_of w after)
      → NoCollisionWith w log (opening_of w.member ∷ h.states) (own_of w after)
      → indication w (own_of w after) ≢ Exposed
  -- who differs in an audited log is exposed
  pub differs : HasFaultyFile w (own_of w after) → indication w (own_of w after) ≡ Exposed
  -- there is evidence exactly where the member is exposed
  pub shown : IsSome (evidence w (own_of w after)) ↔ (indication w (own_of w after) ≡ Exposed)
  -- it has a text, is accepted, and proves that the member keeps no honest log
  pub proves : (e : EvidenceParts) → evidence w (own_of w after) ≡ Some e → IsProof w e

-- The headline, of the history that a run leads to.
pub record IsHeadline (g : Beginning) (new : List BookParts) (after : History) : Type 0 where
  -- each event has the reply that is owed by the node's own earlier steps, or memory ran out
  pub history : IsHistory g after
  -- the books hold what each node's own steps say
  pub stands : Stands g new after
  -- lists that agree on a node answer alike
  pub alone : AgreesWithAll g after
  -- what is said of each member
  pub says : (m : Member) → IsInRoster (watched g m) → SaysOf (watched g m) after

-- A run keeps the headline, from any books and whatever the history was for which they stood.
abbrev pub KeepsHeadline : Beginning → (old : List BookParts) → List Event → List Reply
    → (new : List BookParts) → Type 0
KeepsHeadline g old events replies new =
    (history : History) → IsHistory g history → Stands g old history
    → IsHeadline g new (joined events replies history)

-- Every run does.
abbrev pub RunsKeepHeadline : Type 0
RunsKeepHeadline =
    (g : Beginning) (old new : List BookParts) (events : List Event) (replies : List Reply)
    → RunsTo g old events replies new → KeepsHeadline g old events replies new
