-- Records in a stream (RFC 5531, section 11).
use Rattle.std.specs.Prelude.{◌≡◌, ◌<◌, ◌≤◌, ◌+◌, ◌^◌, ◌⊎◌, ◌++◌, ℕ, Bool, true, false, List, [], length}
use Rattle.std.specs.Prelude.{if◌then◌else◌}
use Rattle.std.specs.List.{flat_map, concat}
use Rattle.byteorder.specs.Endian.{big_bytes}
use Rattle.rpc.specs.declared.records.record.TheConstants.{MAX_RECORD, MAX_FRAGMENTS}

-- the four bytes before a fragment: the highest bit says that it is the last, the others are its length
unfoldable pub mark : Bool → ℕ → List ℕ
mark is_last len = big_bytes 4 (if is_last then len + 2 ^ 31 else len)

-- a fragment after its mark
abbrev pub fragment : Bool → List ℕ → List ℕ
fragment is_last bytes = mark is_last (length bytes) ++ bytes

-- fragments that aren't the last
abbrev pub fragments : List (List ℕ) → List ℕ
fragments pieces = flat_map (fragment false) pieces

-- A record has at most MAX_RECORD bytes in at most MAX_FRAGMENTS fragments; the law `limits` says how many.
pub record AreWithin (pieces : List (List ℕ)) : Type 0 where
  pub length_fits : length (concat pieces) ≤ MAX_RECORD
  pub count_fits : length pieces ≤ MAX_FRAGMENTS

-- One more fragment of this length is within the limits too.
pub record HasRoom (pieces : List (List ℕ)) (len : ℕ) : Type 0 where
  pub length_fits : length (concat pieces) + len ≤ MAX_RECORD
  pub count_fits : length pieces < MAX_FRAGMENTS

-- One more fragment of this length passes a limit.
abbrev pub Passes : List (List ℕ) → ℕ → Type 0
Passes pieces len = (MAX_RECORD < length (concat pieces) + len) ⊎ (MAX_FRAGMENTS ≤ length pieces)

-- The text of a record: its fragments, of which only the last is marked so.
pub record IsRecord (text record_bytes : List ℕ) : Type 0 where
  pub pieces : List (List ℕ)
  pub last : List ℕ
  pub text_is : text ≡ fragments pieces ++ fragment true last
  pub bytes_are : record_bytes ≡ concat pieces ++ last
  pub fits : HasRoom pieces (length last)

-- Fewer bytes than a mark has.
abbrev pub IsPartOfMark : List ℕ → Type 0
IsPartOfMark bytes = length bytes < 4

-- A mark within the limits, and fewer bytes than it says.
pub record IsPartOfFragment (pieces : List (List ℕ)) (bytes : List ℕ) : Type 0 where
  pub is_last : Bool
  pub len : ℕ
  pub front : List ℕ
  pub bytes_are : bytes ≡ mark is_last len ++ front
  pub is_short : length front < len
  pub fits : HasRoom pieces len

-- The bytes end within a record: after some fragments, within a mark or within what it says.
pub record IsUnfinished (bytes : List ℕ) : Type 0 where
  pub pieces : List (List ℕ)
  pub tail : List ℕ
  pub bytes_are : bytes ≡ fragments pieces ++ tail
  pub within : AreWithin pieces
  pub tail_is : IsPartOfMark tail ⊎ IsPartOfFragment pieces tail
  pub some : 0 < length bytes

-- After some fragments within the limits a mark passes one of them.
pub record PassesLimit (bytes : List ℕ) : Type 0 where
  pub pieces : List (List ℕ)
  pub is_last : Bool
  pub len : ℕ
  pub more : List ℕ
  pub bytes_are : bytes ≡ fragments pieces ++ (mark is_last len ++ more)
  pub within : AreWithin pieces
  pub len_fits : len < 2 ^ 31
  pub passes : Passes pieces len

-- What may stand at the front of a stream; with a record come its text and what follows.
pub data Front : Type 0 where
  nothing : Front
  a_record : List ℕ → List ℕ → List ℕ → Front
  unfinished : Front
  too_long : Front

-- The bytes begin with it.
abbrev pub BeginsWith : List ℕ → Front → Type 0
BeginsWith bytes nothing = bytes ≡ []
BeginsWith bytes (a_record text record_bytes rest) = IsRecord text record_bytes × (bytes ≡ text ++ rest)
BeginsWith bytes unfinished = IsUnfinished bytes
BeginsWith bytes too_long = PassesLimit bytes
