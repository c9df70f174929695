-- What a book looks up, to tell whether a pair was shown and whether another hash is at its number.
use Rattle.std.specs.Prelude.{◌≡◌, ℕ, Bool, false, not, ◌==◌, List, find, Option, Some, None, option_map}
use Rattle.std.specs.Prelude.{if◌then◌else◌}
use Rattle.authenticator.specs.Signing.{is_same}
use Rattle.secure_log.specs.LogEntries.Chain.{zeros}
use Rattle.secure_log.specs.Versioned.{VersionedParts}
use Rattle.secure_log.specs.LogEntries.Chain.{IsAmong}
use Rattle.secure_log.specs.Marks.{mark_among, segment_mark_at}
use Rattle.witness_laws.specs.witness_spec.Starting.{KnownBase}
use Rattle.witness_laws.specs.witness_spec.Pairs.{number_of}
use Rattle.witness_laws.specs.witness_spec.Exposing.{segment_holding}
use Rattle.witness_book_laws.specs.Books.{Book, exposed, base_pairs, book_shown}

-- the hash at a number in the segment that holds it, if one does, else in what is kept
abbrev pub hash_held : Option VersionedParts → Book → (number : ℕ) → Option (List ℕ)
hash_held (Some s) b number = segment_mark_at s number
hash_held None b number = option_map (λ a. a.hash) (find (λ a. number_of b.log_version a == number) b.learned)

-- the hash that the base shows at a number, if there is one
abbrev pub base_mark_at : Option KnownBase → (number : ℕ) → Option (List ℕ)
base_mark_at base number = mark_among number (base_pairs base)

-- the base's hash, if there is one, else another
abbrev pub or_else : Option (List ℕ) → Option (List ℕ) → Option (List ℕ)
or_else (Some x) other = Some x
or_else None other = other

-- the hash that a book shows at a number: the base's, if it has one there, else zeros at 0
abbrev pub hash_shown : Book → (number : ℕ) → Option (List ℕ)
hash_shown b number =
    or_else (base_mark_at b.base number)
    (if number == 0 then Some zeros else hash_held (segment_holding number b.segments) b number)

-- what was looked up is this hash
abbrev pub is_hash : List ℕ → Option (List ℕ) → Bool
is_hash x None = false
is_hash x (Some y) = is_same x y

-- what was looked up is another hash
abbrev pub is_other_hash : List ℕ → Option (List ℕ) → Bool
is_other_hash x None = false
is_other_hash x (Some y) = not (is_same x y)

-- Where a book's node isn't exposed, it shows one mark at each number.
abbrev pub HasOneMark : Book → Type 0
HasOneMark b =
    exposed b ≡ false → (number : ℕ) (x y : List ℕ)
    → IsAmong (number, x) (book_shown b) → IsAmong (number, y) (book_shown b) → x ≡ y
