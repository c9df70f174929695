-- The rules of a state, each by itself. Bytes that are spelled as a state is are the text of one exactly
-- where all rules hold of what they say; else they are NotAState. A name's greatest length, a file's greatest
-- size and the greatest count of files, mounts and messages aren't among them: text beyond these is Garbage.
use Rattle.std.specs.Prelude.{◌≡◌, ◌≢◌, ◌<◌, ◌≤◌, ℕ, zero, suc, List, [], map, IsTrue, IsSome, Some}
use Rattle.std.specs.List.{AllByRecursion, AllPairs}
use Rattle.std.specs.List.Sorted.{IsStrictlySortedBy}
use Rattle.std.specs.Ordering.{nat_cmp}
use Rattle.xdr.specs.Item.{Value}
use Rattle.nfs_items.specs.Terms.{FileNumber, Name, Cookie}
use Rattle.nfs_items.specs.Timeval.{Timeval}
use Rattle.fs_spec.specs.Maxima.{max_entries, max_blocks}
use Rattle.fs_spec.specs.Names.{FilePath, is_name}
use Rattle.fs_spec.specs.Listing.{IsRising, HasDistinctNames}
use Rattle.fs_spec.specs.Paths.{path_at}
use Rattle.fs_spec.specs.Files.{File, Files, file_at, listing, directory_entries, names_of}
use Rattle.fs_spec.specs.Files.{IsDirectory}
use Rattle.fs_spec.specs.Trees.{IsTime}
use Rattle.fs_spec.specs.Changes.Limits.{entry_count, block_count}
use Rattle.server_spec.specs.World.{World}
use Rattle.server_spec.specs.mount_types.Mounts.{root_path}
use Rattle.server_spec.specs.FileItems.{file_item}
use Rattle.state_spec.specs.State.{received_cmp, Machine, Server, Client}
use Rattle.state_spec.specs.StateItems.{received_item, sent_item, rest_item}
use Rattle.state_spec.specs.StateText.{Said}
use Rattle.state_spec.specs.StateValues.{received_from, state_from}

-- ---- the tree

-- Number 1 is a directory.
abbrev pub RootIsADirectory : Files → Type 0
RootIsADirectory fs = IsDirectory fs 1

-- No entry names number 1.
abbrev pub NoEntryNamesTheRoot : Files → Type 0
NoEntryNamesTheRoot fs = names_of fs 1 ≡ 0

-- Every entry names a number that is there.
abbrev pub EntriesNameFiles : Files → Type 0
EntriesNameFiles fs =
    (dir : FileNumber) (name : Name) (number : FileNumber) (cookie : Cookie)
    → directory_entries fs dir name ≡ Some (number, cookie) → IsSome (file_at fs number)

-- Every other number than 1 has a name.
abbrev pub FilesHaveNames : Files → Type 0
FilesHaveNames fs = (n : FileNumber) → n ≢ 1 → IsSome (file_at fs n) → 0 < names_of fs n

-- Every other directory than number 1 has exactly one name.
abbrev pub DirectoriesHaveOneName : Files → Type 0
DirectoriesHaveOneName fs = (n : FileNumber) → n ≢ 1 → IsDirectory fs n → names_of fs n ≡ 1

-- Every number is reached from number 1.
abbrev pub FilesAreReached : Files → Type 0
FilesAreReached fs =
    (n : FileNumber) → IsSome (file_at fs n)
    → (path : FilePath) × (cookie : Cookie) × (path_at (directory_entries fs) path ≡ Some (n, cookie))

-- The names in a directory differ.
abbrev pub NamesDiffer : Files → Type 0
NamesDiffer fs = (n : FileNumber) → IsDirectory fs n → HasDistinctNames (listing fs n).entries

-- Names keep the name rule.
abbrev pub NamesKeepTheRule : Files → Type 0
NamesKeepTheRule fs =
    (dir : FileNumber) (name : Name) → IsSome (directory_entries fs dir name) → IsTrue (is_name name)

-- The cookies in a directory are at least 3, rise strictly, and are below its next cookie.
abbrev pub CookiesRise : Files → Type 0
CookiesRise fs = (n : FileNumber) → IsDirectory fs n → IsRising 3 (listing fs n).entries (listing fs n).next

-- Numbers are at least 1 and below the next number.
abbrev pub NumbersAreBelowTheNext : Files → Type 0
NumbersAreBelowTheNext fs = (n : FileNumber) → IsSome (file_at fs n) → (1 ≤ n) × (n < fs.next)

-- ---- limits

-- Modes are below 4096.
abbrev pub ModesHaveTwelveBits : Files → Type 0
ModesHaveTwelveBits fs = (n : FileNumber) (f : File) → file_at fs n ≡ Some f → f.mode < 4_096

-- The microseconds of every file's times are below 1,000,000.
abbrev pub FilesHaveTimes : Files → Type 0
FilesHaveTimes fs =
    (n : FileNumber) (f : File) → file_at fs n ≡ Some f → IsTime f.atime × IsTime f.mtime × IsTime f.ctime

-- The microseconds of the clock are below 1,000,000.
abbrev pub ClockShowsATime : Timeval → Type 0
ClockShowsATime clock = IsTime clock

-- Directory entries in all are within their limit.
abbrev pub EntriesAreWithinTheirLimit : Files → Type 0
EntriesAreWithinTheirLimit fs = entry_count fs ≤ max_entries

-- Blocks in all are within their limit.
abbrev pub BlocksAreWithinTheirLimit : Files → Type 0
BlocksAreWithinTheirLimit fs = block_count fs ≤ max_blocks

-- ---- mounts

-- Mounted directories are `/`.
abbrev pub MountsAreOfTheRoot : List (List ℕ × List ℕ) → Type 0
MountsAreOfTheRoot mounts = AllByRecursion (λ (m : List ℕ × List ℕ). m.1 ≡ root_path) mounts

-- Mounts differ.
abbrev pub MountsDiffer : List (List ℕ × List ℕ) → Type 0
MountsDiffer mounts = AllPairs (λ (m n : List ℕ × List ℕ). m ≢ n) mounts

-- ---- orders

-- Received messages rise strictly, by sender, number and hash.
abbrev pub ReceivedRise : List (Value received_item) → Type 0
ReceivedRise vs = IsStrictlySortedBy received_cmp (map received_from vs)

-- Sent messages rise strictly by their numbers.
abbrev pub SendsRise : List (Value sent_item) → Type 0
SendsRise vs = IsStrictlySortedBy nat_cmp (map (λ v. v.0) vs)

-- Files rise strictly by their numbers.
abbrev pub FilesRise : List (Value file_item) → Type 0
FilesRise vs = IsStrictlySortedBy nat_cmp (map (λ v. v.0) vs)

-- ---- all of them

-- what is said of a server's files; of a client nothing
abbrev pub files_said : (kind : ℕ) → Value (rest_item file_item kind) → List (Value file_item)
files_said zero v = []
files_said (suc zero) v = v.1.1.1
files_said (suc (suc n)) v = []

-- the three lists of a state rise strictly
pub record ListsRise (v : Said) : Type 0 where
  -- those of the messages that were received
  pub received : ReceivedRise v.1.1.1.1.0
  -- those of the messages that were sent
  pub sends : SendsRise v.1.1.1.1.1.0
  -- those of the files
  pub files : FilesRise (files_said v.1.1.0 v.1.1.1.1.1.1)

-- the rules of a tree, all of them
pub record KeepsTreeRules (fs : Files) : Type 0 where
  pub root : RootIsADirectory fs
  pub unnamed : NoEntryNamesTheRoot fs
  pub there : EntriesNameFiles fs
  pub named : FilesHaveNames fs
  pub once : DirectoriesHaveOneName fs
  pub reached : FilesAreReached fs
  pub distinct : NamesDiffer fs
  pub names : NamesKeepTheRule fs
  pub cookies : CookiesRise fs
  pub numbers : NumbersAreBelowTheNext fs

-- the rules of a server's world: those of its tree, limits and mounts
pub record KeepsServerRules (w : World) : Type 0 where
  pub tree : KeepsTreeRules w.files
  pub modes : ModesHaveTwelveBits w.files
  pub times : FilesHaveTimes w.files
  pub entries : EntriesAreWithinTheirLimit w.files
  pub blocks : BlocksAreWithinTheirLimit w.files
  pub clock : ClockShowsATime w.clock
  pub directories : MountsAreOfTheRoot w.mounts
  pub mounts : MountsDiffer w.mounts

-- a client has no files
abbrev pub KeepsMachineRules : Machine → Type 0
KeepsMachineRules (Server w stage) = KeepsServerRules w
KeepsMachineRules (Client clock) = ClockShowsATime clock

-- What is said keeps the rules: those of orders by itself, the others by the state that it gives.
pub record KeepsRules (v : Said) : Type 0 where
  -- the lists rise
  pub lists : ListsRise v
  -- the state that is given keeps the rules of its kind
  pub machine : KeepsMachineRules (state_from v).machine
