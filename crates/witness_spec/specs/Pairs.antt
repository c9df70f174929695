-- Pairs of a number in a log and the mark there: which are shown, and whether two logs are.
use Rattle.std.specs.Prelude.{ℕ, Bool, false, not, ◌==◌, ◌&&◌, ◌||◌, List, [], ◌∷◌, Option, Some, None}
use Rattle.std.specs.Prelude.{if◌then◌else◌}
use Rattle.std.specs.List.{list_any}
use Rattle.secure_log.specs.LogEntries.Chain.{zeros}
use Rattle.authenticator.specs.declared.authenticator.Authenticator.{Authenticator}
use Rattle.authenticator.specs.declared.member.LogVersion.{LogVersion}
use Rattle.authenticator.specs.Numbers.{number_in}
use Rattle.authenticator.specs.Signing.{is_same}
use Rattle.secure_log.specs.Versioned.{VersionedParts, segment_marks}

-- a number and the mark there
abbrev pub Pair : Type 0
Pair = ℕ × List ℕ

-- the number at which an authenticator is in a log of a version
abbrev pub number_of : LogVersion → Authenticator → ℕ
number_of v a = number_in v a.word

-- the first number of a segment
abbrev pub first_of : VersionedParts → ℕ
first_of s = s.first

-- the last number of a segment: that of its closing
abbrev pub last_of : VersionedParts → ℕ
last_of s = number_in s.log_version s.closing.word

-- the pairs of number and mark that a segment shows; a mark is the hash there, or that no entry has the number
abbrev pub marks_of : VersionedParts → List Pair
marks_of s = segment_marks s

-- the pair of an authenticator in a log of a version: its number and its hash
abbrev pub pair_of : LogVersion → Authenticator → Pair
pair_of v a = (number_of v a, a.hash)

-- the pair before the first entry, which every log has
abbrev pub first_pair : Pair
first_pair = (0, zeros)

-- two pairs are the same
abbrev pub same_pair : Pair → Pair → Bool
same_pair p q = (p.0 == q.0) && is_same p.1 q.1

-- they are two marks at one number
abbrev pub differ : Pair → Pair → Bool
differ p q = (p.0 == q.0) && not (is_same p.1 q.1)

-- a pair is one of those shown
abbrev pub is_shown : Pair → List Pair → Bool
is_shown p pairs = list_any (λ q. same_pair p q) pairs

-- another mark is shown at its number
abbrev pub is_fork : Pair → List Pair → Bool
is_fork p pairs = list_any (λ q. differ p q) pairs

-- some number has two marks
abbrev pub has_fork : List Pair → Bool
has_fork [] = false
has_fork (p ∷ pairs) = is_fork p pairs || has_fork pairs

-- the number of the first of new pairs at which another mark is shown
abbrev pub first_fork : (new pairs : List Pair) → Option ℕ
first_fork [] pairs = None
first_fork (p ∷ new) pairs = if is_fork p pairs then Some p.0 else first_fork new pairs
