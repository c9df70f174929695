-- Records in a stream (RFC 5531, section 11), of at most so many bytes as their first bytes say.
use Rattle.std.specs.Prelude.{◌≡◌, ◌<◌, ◌≤◌, ◌+◌, ◌-◌, ◌⊎◌, ◌++◌, ℕ, Bool, true, List, [], length}
use Rattle.std.specs.Prelude.{max, take}
use Rattle.std.specs.List.{concat}
use Rattle.rpc.specs.Records.Record.{mark, fragment, fragments, IsPartOfMark}
use Rattle.rpc.specs.declared.records.record.TheConstants.{MAX_FRAGMENTS}
use Rattle.frames.specs.declared.bound.TheConstants.{SHORT, FRONT}

-- how many bytes a record may have that begins with these: a short one is always taken, of a longer one the
-- first FRONT bytes tell
abbrev pub most_bytes : (List ℕ → ℕ) → List ℕ → ℕ
most_bytes most bytes = max SHORT (most (take FRONT bytes))

-- The text of a record: its fragments, of which only the last is marked so. It has no more bytes than its
-- first ones allow.
pub record IsRecord (most : List ℕ → ℕ) (text record_bytes : List ℕ) : Type 0 where
  pub pieces : List (List ℕ)
  pub last : List ℕ
  pub text_is : text ≡ fragments pieces ++ fragment true last
  pub bytes_are : record_bytes ≡ concat pieces ++ last
  pub length_fits : length record_bytes ≤ most_bytes most record_bytes
  pub count_fits : length pieces < MAX_FRAGMENTS

-- Fragments that may stand at the front of a record.
pub record AreWithin (most : List ℕ → ℕ) (pieces : List (List ℕ)) : Type 0 where
  pub length_fits : length (concat pieces) ≤ most_bytes most (concat pieces)
  pub count_fits : length pieces ≤ MAX_FRAGMENTS

-- After these bytes of its record some of a fragment came, and not all; where the bytes that tell the bound
-- are among them, it isn't passed.
pub record IsPartOfPiece (most : List ℕ → ℕ) (text : List ℕ) (len : ℕ) (came : List ℕ) : Type 0 where
  pub is_short : length came < len
  pub fits : FRONT ≤ length (text ++ came) → length text + len ≤ most_bytes most (text ++ came)

-- After these bytes of its record a fragment of this length passes the bound, and no more of it came than
-- what was missing of the bytes that tell the bound.
pub record PassesBound (most : List ℕ → ℕ) (text : List ℕ) (len : ℕ) (came : List ℕ) : Type 0 where
  pub came_is : length came ≡ FRONT - length text
  pub passes : most_bytes most (text ++ came) < length text + len

-- After some fragments a mark, and fewer bytes than it says.
pub record IsPartOfFragment (most : List ℕ → ℕ) (pieces : List (List ℕ)) (bytes : List ℕ) : Type 0 where
  pub is_last : Bool
  pub len : ℕ
  pub came : List ℕ
  pub bytes_are : bytes ≡ mark is_last len ++ came
  pub part : IsPartOfPiece most (concat pieces) len came
  pub count_fits : length pieces < MAX_FRAGMENTS

-- The bytes end within a record: after some fragments, within a mark or within what it says.
pub record IsUnfinished (most : List ℕ → ℕ) (bytes : List ℕ) : Type 0 where
  pub pieces : List (List ℕ)
  pub tail : List ℕ
  pub bytes_are : bytes ≡ fragments pieces ++ tail
  pub within : AreWithin most pieces
  pub tail_is : IsPartOfMark tail ⊎ IsPartOfFragment most pieces tail
  pub some : 0 < length bytes

-- A mark passes a limit after some fragments: there are as many as a record has, or it passes the bound.
abbrev pub Passes : (List ℕ → ℕ) → List (List ℕ) → ℕ → List ℕ → Type 0
Passes most pieces len came =
    ((MAX_FRAGMENTS ≤ length pieces) × (came ≡ [])) ⊎ PassesBound most (concat pieces) len came
