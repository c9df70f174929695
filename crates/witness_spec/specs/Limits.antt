-- How much a witness keeps of a node; MAX_AUDITED, the entries audited in all, is that of evidence.
use Rattle.std.specs.Prelude.{ℕ}
pub use Rattle.evidence_spec.specs.Evidence.{MAX_AUDITED}
use Rattle.secure_log.specs.declared.segment.TheConstants.{MAX_ENTRIES}

-- learned authenticators above the end
abbrev pub MAX_LEARNED : ℕ
MAX_LEARNED = 256

-- open send challenges
abbrev pub MAX_CHALLENGES : ℕ
MAX_CHALLENGES = 16

-- entries that one audit asks for: as many as a segment has
abbrev pub MAX_ASKED : ℕ
MAX_ASKED = MAX_ENTRIES

-- authenticators in the outbox
abbrev pub MAX_OUTBOX : ℕ
MAX_OUTBOX = 4_096
