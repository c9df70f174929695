-- How many names each number has, and which directory has one.
use Rattle.std.specs.Prelude.{◌≡◌, ◌<◌, ◌+◌, ℕ, List, length, slice_index, sum_by}
use Rattle.nfs_items.specs.Terms.{FileNumber}
use Rattle.nfs_laws.specs.fs_spec.Listing.{NamedEntry}
use Rattle.nfs_laws.specs.fs_spec.Files.{File, names_in, one_if}
use Rattle.tree_rules.specs.FileRules.Rules.{AreKnown, AreNamesCounted}

-- a number is one of these
abbrev pub IsAmong : List FileNumber → FileNumber → Type 0
IsAmong numbers number = (k : ℕ) × (k < length numbers) × (slice_index numbers k ≡ number)

-- the entries of a listing that name a number
abbrev pub names_listed : FileNumber → List NamedEntry → ℕ
names_listed n entries = sum_by (one_if n) entries

-- the names of a number in all
abbrev pub names_among : FileNumber → List (FileNumber × File) → ℕ
names_among n es = sum_by (λ (e : FileNumber × File). names_in n e.1) es

-- The names that entries give are added to the counts,
-- and each number that they name has their place above it.
pub record AddsNames (place : ℕ) (numbers : List FileNumber) (entries : List NamedEntry)
    (names above names' above' : List ℕ) : Type 0 where
  -- each count rises by the entries that name its number
  pub counted : (k : ℕ) → k < length numbers
      → slice_index names' k ≡ slice_index names k + names_listed (slice_index numbers k) entries
  -- what was above a number that none of them names stays
  pub kept : (k : ℕ) → k < length numbers → names_listed (slice_index numbers k) entries ≡ 0
      → slice_index above' k ≡ slice_index above k
  -- the place of these entries is above each number that one of them names
  pub placed : (k : ℕ) → k < length numbers → 0 < names_listed (slice_index numbers k) entries
      → slice_index above' k ≡ place

-- what counting over all files gives
pub record IsCount (es : List (FileNumber × File)) (names above : List ℕ) : Type 0 where
  -- each place has a count
  pub long_names : length names ≡ length es
  -- and a place above it
  pub long_above : length above ≡ length es
  -- each entry names a number that is there
  pub known : AreKnown es
  -- the counts are those of all files
  pub counted : AreNamesCounted es names above
