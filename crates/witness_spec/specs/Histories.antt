-- Histories: what was handed to a witness, with its replies, the newest first; and what its books hold after
-- one.
use Rattle.std.specs.Prelude.{◌≡◌, ◌⊎◌, ◌↔◌, ℕ, ◌==◌, List, [], ◌∷◌, ◌++◌}
use Rattle.std.specs.Prelude.{Option, Result, Ok, Err, if◌then◌else◌}
use Rattle.authenticator.specs.declared.authenticator.Authenticator.{Authenticator}
use Rattle.authenticator.specs.declared.member.Member.{Member}
use Rattle.secure_log.specs.LogEntries.Chain.{IsAmong}
use Rattle.secure_log.specs.Versioned.{VersionedParts}
use Rattle.evidence_spec.specs.Evidence.{EvidenceParts}
use Rattle.witness_spec.specs.Refusals.{Refusal, NoMemory}
use Rattle.witness_spec.specs.Events.{Event, Question, ItsIndication, ItsChallenges, ItsEvidence, IsEvent}
use Rattle.witness_spec.specs.Events as events
use Rattle.witness_spec.specs.Replies.{Reply, refused, is_want_of_memory, Challenge}
use Rattle.witness_spec.specs.Starting.{Beginning}
use Rattle.witness_spec.specs.Watched.{Watched, watched}
use Rattle.witness_spec.specs.Steps.{OwnStep, Past}
use Rattle.witness_spec.specs.Whose.{whose}
use Rattle.witness_spec.specs.Pairs.{Pair}
use Rattle.witness_spec.specs.Standing.{End, end_of, shown, kept, Stage, stage_of, begins, open_challenges}
use Rattle.witness_spec.specs.Standing.{outbox, all_accepted}
use Rattle.witness_spec.specs.Exposing.{evidence}
use Rattle.witness_spec.specs.Owing.{Owes}

-- events with their replies, the newest first
abbrev pub History : Type 0
History = List (Event × Reply)

-- ---- own steps

-- a step with its reply, if it is this node's
abbrev pub own_step : (node : ℕ) → Result OwnStep Refusal → Reply → Past
own_step node (Err refusal) reply = []
own_step node (Ok o) reply = if o.member.node == node then (o.step, reply) ∷ [] else []

-- A step that was answered as out of memory is nobody's.
abbrev pub own_one : List Member → (node : ℕ) → Event × Reply → Past
own_one ms node p = if is_want_of_memory p.1 then [] else own_step node (whose ms p.0) p.1

-- a node's own steps in a history
abbrev pub own : List Member → (node : ℕ) → History → Past
own ms node [] = []
own ms node (p ∷ history) = own_one ms node p ++ own ms node history

-- the own steps of the node that is watched
abbrev pub own_of : Watched → History → Past
own_of w history = own w.roster w.member.node history

-- ---- histories

-- the reply that is owed to an event: by event and roster alone where it is nobody's step
abbrev pub OwesTo : Beginning → History → Event → Reply → Result OwnStep Refusal → Type 0
OwesTo g history event reply (Err refusal) = reply ≡ refused event refusal
OwesTo g history event reply (Ok o) =
    Owes (watched g o.member) (own_of (watched g o.member) history) o.step reply

-- the reply is the one that is owed to the event, whose step it is told by the roster
abbrev pub IsOwed : Beginning → History → Event → Reply → Type 0
IsOwed g history event reply = OwesTo g history event reply (whose g.roster event)

-- It may run out of memory: neither an indication that is asked for does, nor a job that is put back.
abbrev pub MayWant : Event → Type 0
MayWant (events.PutBack j) = ⊥
MayWant (events.Ask node ItsIndication) = ⊥
MayWant _ = Unit {0}

-- An event is refused as out of memory.
pub record IsWanting (event : Event) (reply : Reply) : Type 0 where
  pub may : MayWant event
  pub is : reply ≡ refused event NoMemory

-- Each event is one that can be handed in, and each reply is the one that is owed after the earlier events,
-- or the refusal of an event that ran out of memory.
abbrev pub IsHistory : Beginning → History → Type 0
IsHistory g [] = Unit {0}
IsHistory g (p ∷ history) =
    IsEvent p.0 × (IsOwed g history p.0 p.1 ⊎ IsWanting p.0 p.1) × IsHistory g history

-- the same of one node's own steps
abbrev pub AreOwed : Watched → Past → Type 0
AreOwed w [] = Unit {0}
AreOwed w (p ∷ past) = Owes w past p.0 p.1 × AreOwed w past

-- ---- books

-- what a book holds of its node
pub record BookParts : Type 0 where
  pub end : End
  pub stage : Stage
  pub begun : ℕ
  pub pairs : List Pair
  pub learned : List Authenticator
  pub challenges : List Challenge
  pub outbox : List Authenticator
  pub segments : List VersionedParts
  pub evidence : Option EvidenceParts

-- The lists hold the same.
abbrev pub HoldSame : {A : Type 0} → List A → List A → Type 0
HoldSame {A} xs ys = (x : A) → IsAmong x xs ↔ IsAmong x ys

-- A book holds what a node's own steps say.
pub record StandsFor (w : Watched) (past : Past) (b : BookParts) : Type 0 where
  pub end : b.end ≡ end_of w past
  pub stage : b.stage ≡ stage_of past
  pub begun : b.begun ≡ begins past
  pub pairs : HoldSame b.pairs (shown w past)
  pub learned : HoldSame b.learned (kept w past)
  pub challenges : b.challenges ≡ open_challenges past
  pub outbox : b.outbox ≡ outbox w past
  pub segments : HoldSame b.segments (all_accepted past)
  pub evidence : b.evidence ≡ evidence w past

-- There is a book for each of these members, that holds what the member's own steps in a history say.
abbrev pub StandEach : Beginning → History → List Member → List BookParts → Type 0
StandEach g history [] [] = Unit {0}
StandEach g history [] (b ∷ books) = ⊥
StandEach g history (m ∷ members) [] = ⊥
StandEach g history (m ∷ members) (b ∷ books) =
    StandsFor (watched g m) (own_of (watched g m) history) b × StandEach g history members books

-- The books of a beginning's roster stand for a history.
abbrev pub Stands : Beginning → List BookParts → History → Type 0
Stands g books history = StandEach g history g.roster books
