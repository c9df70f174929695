-- The rules of a tree, place by place, over files in a list by rising number.
use Rattle.std.specs.Prelude.{◌≡◌, ◌<◌, ◌≤◌, ◌==◌, ℕ, Bool, true, false, IsTrue, List, Some, length, map}
use Rattle.std.specs.Prelude.{slice_get, slice_index, sum_by, nat_lt, if◌then◌else◌}
use Rattle.std.specs.List.{All}
use Rattle.std.specs.FinMap as finite
use Rattle.nfs_items.specs.Terms.{FileNumber}
use Rattle.nfs_laws.specs.fs_spec.Maxima.{max_name}
use Rattle.nfs_laws.specs.fs_spec.Names.{is_name}
use Rattle.nfs_laws.specs.fs_spec.Listing.{NamedEntry, entry_name, entry_number}
use Rattle.nfs_laws.specs.fs_spec.Files.{File, Files, names_in, listing_in, is_directory}
use Rattle.nfs_laws.specs.fs_spec.Trees.{IsFile}
use Rattle.tree_rules.specs.FileRules.Climbs.{climbed}

-- the files of a list of numbers and files
abbrev pub files_listed : ℕ → FileNumber → List (FileNumber × File) → Files
files_listed fsid next es = record { fsid = fsid; next = next; files = finite.from_entries es }

-- the file at a place, with its number
abbrev pub IsAt : List (FileNumber × File) → ℕ → FileNumber → File → Type 0
IsAt es place n f = slice_get es place ≡ Some (n, f)

-- each number is above those before it
abbrev pub AreRising : List FileNumber → Type 0
AreRising numbers =
    (i j : ℕ) → i < j → j < length numbers → slice_index numbers i < slice_index numbers j

-- the numbers of a list
abbrev pub numbers_of : {X : Type 0} → List (FileNumber × X) → List FileNumber
numbers_of es = map (λ e. e.0) es

-- each name is one, and within its limit
abbrev pub AreNames : List NamedEntry → Type 0
AreNames entries = All (λ e. IsTrue (is_name (entry_name e)) × (length (entry_name e) ≤ max_name)) entries

-- what can be said of each file by itself, and that the numbers rise
pub record AreFiles (next : FileNumber) (es : List (FileNumber × File)) : Type 0 where
  -- their numbers rise
  pub rising : AreRising (numbers_of es)
  -- each number is 1 at least and below the next
  pub numbers : All (λ e. (1 ≤ e.0) × (e.0 < next)) es
  -- each file's mode has twelve bits, its times are times, and its body is within its limit
  pub files : All (λ e. IsFile e.1) es
  -- each name in a directory is one, and within its limit
  pub names : All (λ e. AreNames (listing_in e.1.body).entries) es

-- Of each place the names that its number has in all files, and the place of a directory with such a name, or
-- 0 where there is none.
pub record AreNamesCounted (es : List (FileNumber × File)) (names above : List ℕ) : Type 0 where
  -- the names of a place's number in all files
  pub counted : (k : ℕ) (n : FileNumber) (f : File) → IsAt es k n f
      → slice_index names k ≡ sum_by (λ e. names_in n e.1) es
  -- where it has a name, the place above is of a file that lists it
  pub named_by : (k : ℕ) (n : FileNumber) (f : File) → IsAt es k n f → 0 < slice_index names k
      → (m : FileNumber) × (g : File) × IsAt es (slice_index above k) m g × (0 < names_in n g)
  -- where it has none, 0 is above
  pub unnamed : (k : ℕ) (n : FileNumber) (f : File) → IsAt es k n f → slice_index names k ≡ 0
      → slice_index above k ≡ 0

-- whether a place may have so many names: the root, which is a directory, none; another directory one; a file
-- or symbolic link at least one
abbrev pub may_have : ℕ → Bool → ℕ → Bool
may_have place directory names =
    if directory then (if place == 0 then names == 0 else names == 1)
    else (if place == 0 then false else nat_lt 0 names)

-- a number stands at a place
abbrev pub StandsIn : List (FileNumber × File) → FileNumber → Type 0
StandsIn es n = (k : ℕ) × (f : File) × IsAt es k n f

-- each entry names a number that is there
abbrev pub AreKnown : List (FileNumber × File) → Type 0
AreKnown es = (k : ℕ) (n : FileNumber) (f : File) → IsAt es k n f
    → All (λ e. StandsIn es (entry_number e)) (listing_in f.body).entries

-- each place has names as it may
abbrev pub HaveNames : List (FileNumber × File) → List ℕ → Type 0
HaveNames es names = (k : ℕ) (n : FileNumber) (f : File) → IsAt es k n f
    → may_have k (is_directory f.body) (slice_index names k) ≡ true

-- each place leads up to the first
abbrev pub LeadUp : List (FileNumber × File) → List ℕ → ℕ → Type 0
LeadUp es above steps = (k : ℕ) (n : FileNumber) (f : File) → IsAt es k n f → climbed above steps k ≡ 0

-- the rules: the root is first, each name stands for a file, each file has names as it may,
-- and is below the root
pub record FollowsRules (es : List (FileNumber × File)) (names above : List ℕ) (steps : ℕ) : Type 0 where
  -- number 1 is at the first place
  pub root : (f : File) × IsAt es 0 1 f
  -- each entry names a number that is there
  pub known : AreKnown es
  -- each place has as many names as it may
  pub named : HaveNames es names
  -- each leads up to the first in so many steps
  pub below : LeadUp es above steps
