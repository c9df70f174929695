-- What evidence lacks that isn't accepted.
use Rattle.std.specs.Prelude.{◌≡◌, ◌⊎◌, ℕ, List, Option, Some, None}
use Rattle.challenge.specs.evidence_spec.Showing.{ShowingParts}
use Rattle.challenge.specs.evidence_spec.Evidence.{Charge, Fork, Replay, Based, EvidenceParts}
use Rattle.challenge.specs.evidence_spec.Evidence.{charge_version}
use Rattle.challenge.specs.evidence_showings.Showings.{Ends}
use Rattle.challenge.specs.declared.finding.NotAccepted.{NotAccepted}
use Rattle.challenge.specs.declared.finding.NotAccepted.TheVariants as reasons
use Rattle.authenticator.specs.declared.member.LogVersion.{LogVersion}
use Rattle.authenticator.specs.declared.member.LogVersion.TheVariants.{One, Two}
use Rattle.authenticator.specs.declared.member.Member.{Member}
use Rattle.authenticator.specs.Roster.{member_of}
use Rattle.explain.specs.declared.lack.Lack.{Lack}
use Rattle.explain.specs.declared.lack.Lack.TheVariants as lacks

-- the finding that a lack is told of
abbrev pub lacking : Lack → NotAccepted
lacking lacks.AnotherNode = reasons.AnotherNode
lacking lacks.OtherVersion = reasons.OtherVersion
lacking lacks.NotFromStart = reasons.NotFromStart
lacking lacks.BeginsAtZero = reasons.NotClosed
lacking lacks.NotClosed = reasons.NotClosed
lacking lacks.NoKey = reasons.NotSigned
lacking lacks.NotSigned = reasons.NotSigned
lacking lacks.NoTwoHashes = reasons.NoTwoMarks
lacking lacks.NoTwoMarks = reasons.NoTwoMarks
lacking lacks.NoGoodBase = reasons.NoGoodBase
lacking lacks.NotFromBase = reasons.NotFromBase
lacking lacks.NoFault = reasons.NoFault

-- The first showing begins at 0; or the second does, where the first ends in its closing.
abbrev pub IsZeroFork : LogVersion → ShowingParts → Option ShowingParts → Type 0
IsZeroFork v a None = a.first ≡ 0
IsZeroFork v a (Some b) = (a.first ≡ 0) ⊎ (Ends v a × (b.first ≡ 0))

-- so of what is shown
abbrev pub BeginsAtZero : Charge → Type 0
BeginsAtZero (Fork f) = IsZeroFork f.log_version f.a f.b
BeginsAtZero (Replay s) = ⊥
BeginsAtZero (Based b s) = b.showing.first ≡ 0

-- the roster has no key of the node
abbrev pub HasNoKey : List Member → ℕ → Type 0
HasNoKey ms node = member_of ms node ≡ None

-- what a lack says beside the finding
abbrev pub IsLack : List Member → EvidenceParts → Lack → Type 0
IsLack ms e lacks.AnotherNode = Unit {0}
IsLack ms e lacks.OtherVersion = Unit {0}
IsLack ms e lacks.NotFromStart = Unit {0}
IsLack ms e lacks.BeginsAtZero = BeginsAtZero e.charge
IsLack ms e lacks.NotClosed = ¬ (BeginsAtZero e.charge)
IsLack ms e lacks.NoKey = HasNoKey ms e.node
IsLack ms e lacks.NotSigned = ¬ (HasNoKey ms e.node)
IsLack ms e lacks.NoTwoHashes = charge_version e.charge ≡ One
IsLack ms e lacks.NoTwoMarks = charge_version e.charge ≡ Two
IsLack ms e lacks.NoGoodBase = Unit {0}
IsLack ms e lacks.NotFromBase = Unit {0}
IsLack ms e lacks.NoFault = Unit {0}
