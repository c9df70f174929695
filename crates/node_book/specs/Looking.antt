-- What look-ups in a book's rows find.
use Rattle.std.specs.Prelude.{ℕ, ◌+◌, ◌==◌, Bool, true, false, nat_lt, IsTrue, List, [], ◌∷◌, Option, Some, if◌then◌else◌}
use Rattle.authenticator.specs.declared.member.LogVersion.{LogVersion}
use Rattle.secure_log.specs.LogEntries.Chain.{zeros}
use Rattle.secure_log.specs.Versioned.{VersionedParts}
use Rattle.evidence_spec.specs.Showing.{ShowingParts, links_follow, showing_value}
use Rattle.witness_spec.specs.Exposing.{segment_holding}
use Rattle.witness_spec.specs.Pairs.{last_of}
use Rattle.witness_book_laws.specs.Books.{Book}
use Rattle.witness_book_laws.specs.LookUps.{hash_held}
use Rattle.witness_book_laws.specs.Fitting.{Tile}
use Rattle.node_book.specs.declared.looking.ShownHash.{ShownHash}
use Rattle.node_book.specs.declared.looking.ShownHash.TheVariants.{Same, Another, Nothing}

-- Segments follow on one another.
pub record FollowOn (segments : List VersionedParts) : Type 0 where
  -- the first number of the first
  pub first : ℕ
  -- the number after the last
  pub next : ℕ
  -- they hold each number between them
  pub tile : Tile first segments next

-- the mark of what a book keeps at a number: zeros at 0
abbrev pub hash_kept : Book → (number : ℕ) → Option (List ℕ)
hash_kept b number =
    if number == 0 then Some zeros else hash_held (segment_holding number b.segments) b number

-- how many segments stand in front that end before a number
abbrev pub count_ended : (number : ℕ) → List VersionedParts → ℕ
count_ended number [] = 0
count_ended number (s ∷ ss) = if nat_lt (last_of s) number then count_ended number ss + 1 else 0

-- The words of a showing follow in a text of a log of a version, so a fork that it is of has a text.
abbrev pub HasWordsOf : LogVersion → ShowingParts → Type 0
HasWordsOf v s = IsTrue (links_follow v (showing_value v s))

-- the hash that was shown is the same
abbrev pub is_the_same : ShownHash → Bool
is_the_same Same = true
is_the_same Another = false
is_the_same Nothing = false

-- another hash was shown
abbrev pub is_another : ShownHash → Bool
is_another Same = false
is_another Another = true
is_another Nothing = false
