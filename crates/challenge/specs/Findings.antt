-- What is found in evidence.
use Rattle.std.specs.Prelude.{◌≡◌, ◌⊎◌, ℕ, ◌+◌, Bool, true, false, IsFalse, IsTrue, List, length}
use Rattle.std.specs.Prelude.{Option, Some, None}
use Rattle.authenticator.specs.declared.member.LogVersion.{LogVersion}
use Rattle.authenticator.specs.declared.member.Member.{Member}
use Rattle.authenticator.specs.Roster.{keeps_version, member_of}
use Rattle.authenticator.specs.Signed.{IsSignedIn}
use Rattle.secure_log.specs.LogEntries.Chain.{zeros}
use Rattle.secure_log.specs.Versioned.{VersionedParts, EndsIn, IsClosedIn}
use Rattle.replay.specs.replay_spec.Replay.{Fault, verdict_of}
use Rattle.replay.specs.replay_spec.Stepping as spec
use Rattle.replay.specs.replay_spec.Placed.{places_in}
use Rattle.replay.specs.replay_spec.Opening.{opening_of}
use Rattle.replay.specs.replay_spec.state_spec.State.{State}
use Rattle.replay.specs.Faults.{fault_in}
use Rattle.replay.specs.declared.fault.ReplayFault.{ReplayFault}
use Rattle.replay.specs.declared.outcome.Outcome.{Outcome}
use Rattle.replay.specs.declared.outcome.Outcome.TheVariants as outcomes
use Rattle.secure_log.specs.Marks.{mark_in}
use Rattle.evidence_showings.specs.Showings.{Ends}
use Rattle.secure_log.specs.declared.mark.Mark.{Mark}
use Rattle.secure_log.specs.declared.mark.Mark.TheVariants.{Hash, NoEntry}
use Rattle.evidence_showings.specs.evidence_spec.Showing.{ShowingParts, IsClosedShowing, Shows}
use Rattle.evidence_showings.specs.evidence_spec.Evidence.{Charge, Fork, Replay, Based, EvidenceParts}
use Rattle.evidence_showings.specs.evidence_spec.Evidence.{ShowsTwo, ShowsNoOpening, AcceptsReplay}
use Rattle.evidence_showings.specs.evidence_spec.Evidence.{AcceptsBased}
use Rattle.evidence_showings.specs.evidence_spec.Base.{BaseParts, IsGoodBase}
use Rattle.challenge.specs.declared.finding.Finding.{Finding}
use Rattle.challenge.specs.declared.finding.Finding.TheVariants as found
use Rattle.challenge.specs.declared.finding.NotAccepted.{NotAccepted}
use Rattle.challenge.specs.declared.finding.NotAccepted.TheVariants as reasons

-- whether what is found says that evidence is accepted
abbrev pub is_accepted : Finding → Bool
is_accepted (found.TwoMarks at one other) = true
is_accepted (found.Fault fault number) = true
is_accepted (found.NotAccepted reason) = false

-- ---- what is accepted shows

-- Two showings of a log of a version are accepted with these two marks at a number.
pub record AcceptsTwo (v : LogVersion) (ms : List Member) (node at : ℕ) (a b : ShowingParts)
    (one other : List ℕ) : Type 0 where
  pub accepted : ShowsTwo v ms node at a b
  pub is_one : accepted.one ≡ one
  pub is_other : accepted.other ≡ other

-- One showing is accepted with a hash at 0.
pub record AcceptsOne (v : LogVersion) (ms : List Member) (node : ℕ) (a : ShowingParts) (one : List ℕ)
    : Type 0 where
  pub accepted : ShowsNoOpening v ms node a
  pub is_one : accepted.hash ≡ one

-- A mark is a hash of 32 bytes, or that no entry has a number.
abbrev pub IsMark : Mark → Type 0
IsMark (Hash hash) = length hash ≡ 32
IsMark NoEntry = Unit {0}

-- A fork is accepted with two marks at a number.
abbrev pub AcceptsMarks : LogVersion → List Member → (node fork_at : ℕ) → ShowingParts → Option ShowingParts
    → (at : ℕ) (one other : Mark) → Type 0
AcceptsMarks v ms node fork_at a (Some b) at one other =
    (at ≡ fork_at) × AcceptsTwo v ms node fork_at a b (mark_in one) (mark_in other)
AcceptsMarks v ms node fork_at a None at one other =
    (at ≡ 0) × (other ≡ Hash zeros) × AcceptsOne v ms node a (mark_in one)

-- A log is accepted with a fault of the entry with a number.
pub record AcceptsFault (ms : List Member) (node : ℕ) (s : VersionedParts) (fault : ReplayFault)
    (number : ℕ) : Type 0 where
  pub accepted : AcceptsReplay ms node s
  pub is_fault : accepted.fault ≡ fault_in fault
  pub is_number : accepted.number ≡ number

-- ---- what isn't accepted lacks first
-- What is asked is asked in one order, and what is lacking first is lacking after all that is asked before
-- it: one answer is right, and no other.

-- A showing is of a node, whose log is of this version where it is a member, and closed.
pub record IsClosedOf (v : LogVersion) (ms : List Member) (node : ℕ) (s : ShowingParts) : Type 0 where
  pub of_node : s.node ≡ node
  pub version : IsTrue (keeps_version ms node v)
  pub closed : IsClosedShowing v ms s

-- A showing lacks something first, by name: it is to be of the node, whose log is to be of this version where
-- it is a member, to end in its closing, and that is to be signed.
abbrev pub ShowingLacks : LogVersion → List Member → (node : ℕ) → ShowingParts → NotAccepted → Type 0
ShowingLacks v ms node s reasons.AnotherNode = ¬ (s.node ≡ node)
ShowingLacks v ms node s reasons.OtherVersion = (s.node ≡ node) × IsFalse (keeps_version ms node v)
ShowingLacks v ms node s reasons.NotFromStart = ⊥
ShowingLacks v ms node s reasons.NotClosed =
    (s.node ≡ node) × IsTrue (keeps_version ms node v) × (¬ Ends v s)
ShowingLacks v ms node s reasons.NotSigned =
    (s.node ≡ node) × IsTrue (keeps_version ms node v) × Ends v s × (¬ IsSignedIn ms s.closing)
ShowingLacks v ms node s reasons.NoGoodBase = ⊥
ShowingLacks v ms node s reasons.NotFromBase = ⊥
ShowingLacks v ms node s reasons.NoTwoMarks = ⊥
ShowingLacks v ms node s reasons.NoFault = ⊥

-- Showings show no two marks at a number; one alone shows none but 32 zero bytes at 0.
abbrev pub HasNoTwo : (at : ℕ) → ShowingParts → Option ShowingParts → Type 0
HasNoTwo at a (Some b) = (one other : List ℕ) → Shows a at one → Shows b at other → one ≡ other
HasNoTwo at a None = (mark : List ℕ) → Shows a 0 mark → mark ≡ zeros

-- After a first showing that is closed a fork lacks something first, by name: in its second showing, if it
-- has one; after that two marks.
abbrev pub LacksAfterFirst : LogVersion → List Member → (node at : ℕ) → ShowingParts → Option ShowingParts
    → NotAccepted → Type 0
LacksAfterFirst v ms node at a (Some b) reason =
    ShowingLacks v ms node b reason
    ⊎ (IsClosedOf v ms node b × (reason ≡ reasons.NoTwoMarks) × HasNoTwo at a (Some b))
LacksAfterFirst v ms node at a None reason = (reason ≡ reasons.NoTwoMarks) × HasNoTwo at a None

-- A fork lacks something first, by name.
abbrev pub ForkLacks : LogVersion → List Member → (node at : ℕ) → ShowingParts → Option ShowingParts
    → NotAccepted → Type 0
ForkLacks v ms node at a b reason =
    ShowingLacks v ms node a reason ⊎ (IsClosedOf v ms node a × LacksAfterFirst v ms node at a b reason)

-- A log is shown from its first entry on.
pub record IsFromStart (s : VersionedParts) : Type 0 where
  pub first : s.first ≡ 1
  pub opening : s.opening ≡ zeros

-- A log is of a member, of the version that the roster gives it, from its first entry on, and closed.
pub record IsAudited (ms : List Member) (node : ℕ) (s : VersionedParts) (m : Member) : Type 0 where
  pub of_node : s.node ≡ node
  pub version : IsTrue (keeps_version ms node s.log_version)
  pub start : IsFromStart s
  pub closed : IsClosedIn ms s
  pub is_member : member_of ms node ≡ Some m

-- A replay of a member's closed log, from the state that the member begins with, finds no fault.
pub record HasNoFault (ms : List Member) (node : ℕ) (s : VersionedParts) : Type 0 where
  pub member : Member
  pub audited : IsAudited ms node s member
  pub none : (fault : spec.ReplayFault) (number : ℕ)
      → ¬ (verdict_of ms (opening_of member) (places_in s) ≡ Fault fault number)

-- A log lacks something first, by name: it is to be of the node, whose log is to be of its version where it
-- is a member, from its first entry on, to end in its closing, that is to be signed, and a replay is to find
-- a fault.
abbrev pub LogLacks : List Member → (node : ℕ) → VersionedParts → NotAccepted → Type 0
LogLacks ms node s reasons.AnotherNode = ¬ (s.node ≡ node)
LogLacks ms node s reasons.OtherVersion = (s.node ≡ node) × IsFalse (keeps_version ms node s.log_version)
LogLacks ms node s reasons.NotFromStart =
    (s.node ≡ node) × IsTrue (keeps_version ms node s.log_version) × (¬ IsFromStart s)
LogLacks ms node s reasons.NotClosed =
    (s.node ≡ node) × IsTrue (keeps_version ms node s.log_version) × IsFromStart s × (¬ EndsIn s)
LogLacks ms node s reasons.NotSigned =
    (s.node ≡ node) × IsTrue (keeps_version ms node s.log_version) × IsFromStart s × EndsIn s
    × (¬ IsSignedIn ms s.closing)
LogLacks ms node s reasons.NoGoodBase = ⊥
LogLacks ms node s reasons.NotFromBase = ⊥
LogLacks ms node s reasons.NoTwoMarks = ⊥
LogLacks ms node s reasons.NoFault = HasNoFault ms node s

-- ---- what a replay from a base lacks first

-- What is asked is lacking, by its name, or it is there and something that is asked behind it is lacking.
abbrev pub First : (asked : Type 0) → (name : NotAccepted) → (behind : NotAccepted → Type 0) → NotAccepted
    → Type 0
First asked name behind reason = ((reason ≡ name) × (¬ asked)) ⊎ (asked × behind reason)

-- nothing is asked any more
abbrev pub nothing_more : NotAccepted → Type 0
nothing_more reason = ⊥

-- A base is good under a roster, of some member and with some state.
pub record IsGood (ms : List Member) (b : BaseParts) : Type 0 where
  pub member : Member
  pub state : State
  pub good : IsGoodBase ms b member state

-- A log follows on a base: it begins right after the base's number, with the hash that the base shows there.
pub record FollowsOn (b : BaseParts) (s : VersionedParts) : Type 0 where
  pub first : s.first ≡ b.at + 1
  pub opening : Shows b.showing b.at s.opening

-- A replay of a log from the state of a good base finds a fault.
pub record HasFaultAfter (ms : List Member) (b : BaseParts) (s : VersionedParts) : Type 0 where
  pub member : Member
  pub state : State
  pub good : IsGoodBase ms b member state
  pub fault : spec.ReplayFault
  pub number : ℕ
  pub found : verdict_of ms state (places_in s) ≡ Fault fault number

-- A base, and a log after it, lack something first, by name: the base is to be of the node, whose log is to
-- be of its version where it is a member, and so is the log after it; the base's showing is to end in its
-- closing, that is to be signed, and the base to be good in all else; the log is to follow on it, to end in
-- its closing, that is to be signed, and a replay from the base's state is to find a fault.
abbrev pub BasedLacks : List Member → (node : ℕ) → BaseParts → VersionedParts → NotAccepted → Type 0
BasedLacks ms node b s =
    First (b.showing.node ≡ node) reasons.AnotherNode
    (First (IsTrue (keeps_version ms node b.log_version)) reasons.OtherVersion
    (First (s.node ≡ node) reasons.AnotherNode
    (First (Ends b.log_version b.showing) reasons.NotClosed
    (First (IsSignedIn ms b.showing.closing) reasons.NotSigned
    (First (IsGood ms b) reasons.NoGoodBase
    (First (FollowsOn b s) reasons.NotFromBase
    (First (EndsIn s) reasons.NotClosed
    (First (IsSignedIn ms s.closing) reasons.NotSigned
    (First (HasFaultAfter ms b s) reasons.NoFault nothing_more)))))))))

-- A base and the log after it are of a node whose log is of the base's version, and the base's showing is
-- closed.
pub record IsClosedBase (ms : List Member) (node : ℕ) (b : BaseParts) (s : VersionedParts) : Type 0 where
  pub base_node : b.showing.node ≡ node
  pub version : IsTrue (keeps_version ms node b.log_version)
  pub of_node : s.node ≡ node
  pub ends : Ends b.log_version b.showing
  pub signed : IsSignedIn ms b.showing.closing

-- The log follows on the base, and is closed.
pub record IsClosedAfter (ms : List Member) (b : BaseParts) (s : VersionedParts) : Type 0 where
  pub follows : FollowsOn b s
  pub ends : EndsIn s
  pub signed : IsSignedIn ms s.closing

-- A base and a log after it are accepted with a fault of the entry with a number.
pub record AcceptsFaultAfter (ms : List Member) (node : ℕ) (b : BaseParts) (s : VersionedParts) (fault : ReplayFault)
    (number : ℕ) : Type 0 where
  pub accepted : AcceptsBased ms node b s
  pub is_fault : accepted.fault ≡ fault_in fault
  pub is_number : accepted.number ≡ number

-- ---- findings

-- what is found in a fork: two marks alone of a node whose log is of this version, where it is a member
abbrev pub FindsInFork : LogVersion → List Member → (node at : ℕ) → ShowingParts → Option ShowingParts
    → Finding → Type 0
FindsInFork v ms node fork_at a b (found.TwoMarks at one other) =
    IsTrue (keeps_version ms node v) × IsMark one × IsMark other × AcceptsMarks v ms node fork_at a b at one other
FindsInFork v ms node fork_at a b (found.Fault fault number) = ⊥
FindsInFork v ms node fork_at a b (found.NotAccepted reason) = ForkLacks v ms node fork_at a b reason

-- what is found in a log
abbrev pub FindsInLog : List Member → (node : ℕ) → VersionedParts → Finding → Type 0
FindsInLog ms node s (found.TwoMarks at one other) = ⊥
FindsInLog ms node s (found.Fault fault number) = AcceptsFault ms node s fault number
FindsInLog ms node s (found.NotAccepted reason) = LogLacks ms node s reason

-- what is found in a base and a log after it: a fault alone of a node whose log is of the base's version
abbrev pub FindsInBased : List Member → (node : ℕ) → BaseParts → VersionedParts → Finding → Type 0
FindsInBased ms node b s (found.TwoMarks at one other) = ⊥
FindsInBased ms node b s (found.Fault fault number) =
    IsTrue (keeps_version ms node b.log_version) × AcceptsFaultAfter ms node b s fault number
FindsInBased ms node b s (found.NotAccepted reason) = BasedLacks ms node b s reason

-- what is found in what is shown against a node
abbrev pub FindsInCharge : List Member → (node : ℕ) → Charge → Finding → Type 0
FindsInCharge ms node (Fork f) finding = FindsInFork f.log_version ms node f.at f.a f.b finding
FindsInCharge ms node (Replay s) finding = FindsInLog ms node s finding
FindsInCharge ms node (Based b s) finding = FindsInBased ms node b s finding

-- What is found in evidence: with what it is accepted, or what it lacks first.
abbrev pub Finds : List Member → EvidenceParts → Finding → Type 0
Finds ms e finding = FindsInCharge ms e.node e.charge finding

-- what the end of a replay says of a log
abbrev pub finding_in : Outcome → Finding
finding_in (outcomes.Sound state) = found.NotAccepted reasons.NoFault
finding_in (outcomes.Fault fault number) = found.Fault fault number

-- Evidence has one finding at most.
abbrev pub OneFinding : Type 0
OneFinding =
    (ms : List Member) (e : EvidenceParts) (one other : Finding)
    → Finds ms e one → Finds ms e other → one ≡ other
