-- What holds of a book: how its parts fit together, and whose steps it is the book of.
use Rattle.std.specs.Prelude.{◌≡◌, ◌≢◌, ◌⊎◌, ℕ, ◌+◌, ◌<◌, ◌≤◌, Bool, true, false, Option, IsTrue, List, [], ◌∷◌, ◌++◌}
use Rattle.std.specs.List.{AllByRecursion}
use Rattle.std.specs.FinMap.{contains_key}
use Rattle.authenticator.specs.declared.authenticator.Authenticator.{Authenticator}
use Rattle.authenticator.specs.declared.member.LogVersion.{LogVersion}
use Rattle.authenticator.specs.Numbers.{number_in}
use Rattle.secure_log.specs.Versioned.{VersionedParts, versioned_links}
use Rattle.witness_laws.specs.state_spec.State.{State}
use Rattle.secure_log.specs.LogEntries.Chain.{IsAmong, span}
use Rattle.secure_log.specs.LogEntries.Words.{MaySkip}
use Rattle.witness_laws.specs.witness_spec.Starting.{KnownBase, start_number, start_pairs, is_below}
use Rattle.witness_laws.specs.witness_spec.Watched.{Watched}
use Rattle.witness_laws.specs.witness_spec.Steps.{Past}
use Rattle.witness_laws.specs.witness_spec.Pairs.{pair_of, number_of, first_of, last_of, marks_of}
use Rattle.witness_laws.specs.witness_spec.Standing.{Stage, NoAudit, Wanted}
use Rattle.witness_laws.specs.witness_spec.Standing.{Given, Out}
use Rattle.witness_laws.specs.witness_spec.Histories.{StandsFor}
use Rattle.witness_book_laws.specs.Books.{Book, exposed, parts_of}

-- ---- what is kept

-- No two of these, of a log of a version, have one number.
abbrev pub NumbersDiffer : LogVersion → List Authenticator → Type 0
NumbersDiffer v [] = Unit {0}
NumbersDiffer v (a ∷ rest) =
    AllByRecursion (λ c. number_of v a ≢ number_of v c) rest × NumbersDiffer v rest

-- ---- accepted segments

-- A segment begins at 1 or later, speaks of each number up to its closing's, skips as a log of its version
-- may, and ends in its pair.
pub record IsWhole (s : VersionedParts) : Type 0 where
  -- its first number is at least 1
  pub some : 0 < first_of s
  -- its entries take up so many numbers
  pub count : last_of s + 1 ≡ first_of s + span s.entries
  -- and skip what they may
  pub skips : AllByRecursion (MaySkip s.log_version) (versioned_links s)
  -- it shows its closing's pair
  pub closes : IsAmong (pair_of s.log_version s.closing) (marks_of s)

-- Segments follow on one another without a gap: from a first number up to that before the next.
abbrev pub Tile : (first : ℕ) → List VersionedParts → (next : ℕ) → Type 0
Tile first [] next = first ≡ next
Tile first (s ∷ ss) next =
    (first_of s ≡ first) × (first ≤ last_of s) × Tile (last_of s + 1) ss next

-- a segment follows on the end
pub record Follows (end : ℕ) (s : VersionedParts) : Type 0 where
  -- its first number is the one after the end
  pub first : first_of s ≡ end + 1
  -- it isn't empty
  pub some : end < last_of s

-- one segment, that follows on the end
pub record IsOne (end : ℕ) (s : VersionedParts) (more : List VersionedParts) : Type 0 where
  -- it is that one
  pub is : more ≡ s ∷ []
  -- it follows on the end
  pub follows : Follows end s

-- some segment, that follows on the end, was found faulty
pub record IsFaulty (end : ℕ) (is_exposed : Bool) (more : List VersionedParts) : Type 0 where
  -- the node is exposed
  pub exposed : is_exposed ≡ true
  -- the segment
  pub segment : VersionedParts
  -- it is the only one
  pub one : IsOne end segment more

-- what was accepted and isn't audited, by how far the audit is: the segment that is given or out
abbrev pub IsMore : (end : ℕ) (is_exposed : Bool) → Stage → List VersionedParts → Type 0
IsMore end is_exposed NoAudit more = (more ≡ []) ⊎ IsFaulty end is_exposed more
IsMore end is_exposed (Wanted first last) more = (more ≡ []) × (first ≡ end + 1) × (first ≤ last)
IsMore end is_exposed (Given c) more = IsOne end c.segment more
IsMore end is_exposed (Out c) more = IsOne end c.segment more

-- The accepted segments are those that were audited, which hold each number from where the audit began to the
-- end, and one more at most.
pub record AreTiles (b : Book) : Type 0 where
  -- those that were audited
  pub audited : List VersionedParts
  -- the one more, if there is one
  pub more : List VersionedParts
  -- all are these
  pub are : b.segments ≡ audited ++ more
  -- they follow on one another from the number after the one where the audit began to the end
  pub tile : Tile (start_number b.base + 1) audited (b.end.number + 1)
  -- the one more is the audit's
  pub rest : IsMore b.end.number (exposed b) b.stage more

-- ---- messages

-- The words under which a state of a log of a version keeps messages that were sent have numbers below one.
abbrev pub SendsLieBelowIn : LogVersion → State → (number : ℕ) → Type 0
SendsLieBelowIn v s number = (word : ℕ) → IsTrue (contains_key s.sends word) → number_in v word < number

-- ---- all parts

-- what is kept at a number in the segment that is out shows what the segment shows there
abbrev pub AgreesAt : LogVersion → Stage → List Authenticator → Type 0
AgreesAt v NoAudit learned = Unit {0}
AgreesAt v (Wanted first last) learned = Unit {0}
AgreesAt v (Given c) learned = Unit {0}
AgreesAt v (Out c) learned =
    (a : Authenticator) → IsAmong a learned → number_of v a ≤ last_of c.segment
    → IsAmong (pair_of v a) (marks_of c.segment)

-- Each number up to the one where an audit begins was shown at first, but what lies below the base.
pub record IsStart (base : Option KnownBase) : Type 0 where
  -- that number isn't below the base
  pub own : is_below base (start_number base) ≡ false
  -- each has a mark
  pub marks : (number : ℕ) → is_below base number ≡ false → number ≤ start_number base
      → (mark : List ℕ) × IsAmong (number, mark) (start_pairs base)

-- The parts of a book fit together.
pub record FitsTogether (b : Book) : Type 0 where
  -- the end is where the audit began, or after it
  pub begun : start_number b.base ≤ b.end.number
  -- what was shown at first has a mark there
  pub started : IsStart b.base
  -- what is kept lies above the end
  pub above : (a : Authenticator) → IsAmong a b.learned → b.end.number < number_of b.log_version a
  -- its numbers differ
  pub differ : NumbersDiffer b.log_version b.learned
  -- each accepted segment is whole
  pub whole : (s : VersionedParts) → IsAmong s b.segments → IsWhole s
  -- it is of a log of the book's version
  pub version : (s : VersionedParts) → IsAmong s b.segments → s.log_version ≡ b.log_version
  -- the accepted segments are tiles
  pub tiles : AreTiles b
  -- what is kept agrees with the segment that is out
  pub agrees : AgreesAt b.log_version b.stage b.learned
  -- the messages that were sent and have no acknowledgement in the end's state have words of numbers up to it
  pub sends : SendsLieBelowIn b.log_version b.end.state (b.end.number + 1)

-- ---- whose book it is

-- A book is of a member: of its node, whose log is of the member's version, and from its base, if there is one.
pub record IsOfMember (w : Watched) (b : Book) : Type 0 where
  -- the node's number
  pub node : b.node ≡ w.member.node
  -- the version of its log
  pub version : b.log_version ≡ w.member.log_version
  -- the base from which its audit began
  pub base : b.base ≡ w.base

-- A book is that of a member after these own steps: it is of that member, and holds what the steps say.
pub record IsBookOf (w : Watched) (past : Past) (b : Book) : Type 0 where
  -- it is the member's
  pub of_member : IsOfMember w b
  -- it holds what the steps say
  pub stands : StandsFor w past (parts_of b)
