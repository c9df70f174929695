-- A node's own log, and what the node showed of it, as the laws on witnesses speak of them.
use Rattle.std.specs.Prelude.{◌≡◌, ℕ, ◌-◌, List, ◌++◌, IsSome, Some, false}
use Rattle.authenticator.specs.declared.authenticator.Authenticator.{Authenticator}
use Rattle.authenticator.specs.declared.member.Member.{Member}
use Rattle.authenticator.specs.declared.member.LogVersion.{LogVersion}
use Rattle.authenticator.specs.declared.member.LogVersion.TheVariants.{One, Two}
use Rattle.authenticator.specs.Numbers.{number_in}
use Rattle.secure_log.specs.LogEntries.Chain.{IsAmong, Logged}
use Rattle.secure_log.specs.Log.{hash_at, log_pairs}
use Rattle.secure_log.specs.Part.{with_closing}
use Rattle.secure_log.specs.Versioned.{VersionedParts}
use Rattle.commitment.specs.Senders.Sender.{IsSender}
use Rattle.commitment.specs.Senders.LookUps.{authenticator_at}
use Rattle.node_logs.specs.replay_spec.HonestLogs.{IsHonestLog}
use Rattle.node_logs.specs.Steps.Nodes.{NodeParts, sender_of}
use Rattle.node_logs.specs.Nodes.{IsMemberOf}
use Rattle.node_logs.specs.Challenges.{AnswersChallenge}
use Rattle.node_logs.specs.replay_spec.Opening.{kind_of, opening_of}
use Rattle.witness_laws.specs.evidence_spec.Proving.{IsLogOf}
use Rattle.witness_laws.specs.witness_spec.Steps.{Step, Learn, Answer}

-- ---- its log

-- A member of a roster is this node: by its number, by what it does, and by its key and the version of its log.
pub record IsListedAs (n : NodeParts) (m : Member) : Type 0 where
  pub node : m.node ≡ n.node
  pub kind : m.kind ≡ kind_of n.state.machine
  pub key : IsMemberOf n m

-- The laws on witnesses speak of a node's log: its entries have texts and bodies of bytes, and their numbers are
-- such as a log of its version has; unless the node strayed it is honest from the state that a member like this
-- node begins with, and each authenticator that the node makes has its number and hash in it.
pub record KeepsALog (n : NodeParts) : Type 0 where
  pub is_log : IsLogOf n.log_version n.entries
  pub honest : n.strayed ≡ false → (m : Member) → IsListedAs n m
      → IsHonestLog n.roster (opening_of m) n.entries n.state
  pub shown : (number : ℕ) (a : Authenticator) → authenticator_at (sender_of n) number ≡ Some a
      → IsAmong (number_in n.log_version a.word, a.hash) (log_pairs n.entries)

-- A segment of a log may begin with this number: in a log of version 2 the number before it is 0 or an entry's. In
-- version 1 each is, up to the last.
abbrev pub MayBegin : LogVersion → List Logged → (first : ℕ) → Type 0
MayBegin One log first = Unit {0}
MayBegin Two log first = IsSome (hash_at log (first - 1))

-- ---- what it showed of it

-- A node is an earlier one whose log went on.
pub record WentOn (before n : NodeParts) : Type 0 where
  pub sender : IsSender (sender_of before)
  pub node : before.node ≡ n.node
  pub version : before.log_version ≡ n.log_version
  pub rest : List Logged
  pub entries : n.entries ≡ before.entries ++ rest

-- A node made this authenticator, now or when its log was shorter.
pub record IsHandedOut (n : NodeParts) (a : Authenticator) : Type 0 where
  pub before : NodeParts
  pub went_on : WentOn before n
  pub number : ℕ
  pub made : authenticator_at (sender_of before) number ≡ Some a

-- It answered a challenge with this segment, now or when its log was shorter.
pub record IsAnswered (n : NodeParts) (s : VersionedParts) : Type 0 where
  pub before : NodeParts
  pub went_on : WentOn before n
  pub first : ℕ
  pub last : ℕ
  pub bytes : List ℕ
  pub answers : AnswersChallenge before first last bytes
  pub is : s ≡ with_closing answers.answer.part answers.answer.closing

-- What a step shows of a node's log, the node showed itself.
abbrev pub ShowsItsOwn : NodeParts → Step → Type 0
ShowsItsOwn n (Learn a) = IsHandedOut n a
ShowsItsOwn n (Answer c) = IsAnswered n c.segment
ShowsItsOwn n _ = Unit {0}
