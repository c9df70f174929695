-- Checks in order, each with its stat.
use Rattle.std.specs.Prelude.{ℕ, ◌==◌, Bool, true, false, List, [], ◌∷◌, length, Option, Some, None, is_some}
use Rattle.std.specs.Prelude.{if◌then◌else◌}
use Rattle.std.specs.Option.{option_map_or}
use Rattle.nfs_items.specs.declared.stat.Stat.{Stat}
use Rattle.fs_spec.specs.Files as bodies
use Rattle.nfs_items.specs.Terms.{FileNumber, Name}
use Rattle.fs_spec.specs.Files.{Body, File, Files, file_at, listing_in, is_directory, directory_entries}

-- checks in the order in which they are made: whether each passes, and the stat if it doesn't
abbrev pub Checks : Type 0
Checks = List (Bool × Stat)

-- checks in the order written, each with its stat: the stat of the first that fails
abbrev pub first_failing : Checks → Option Stat
first_failing [] = None
first_failing (c ∷ cs) = if c.0 then first_failing cs else Some c.1

-- ---- what is tested

-- whether a number has a file
abbrev pub is_there : Files → FileNumber → Bool
is_there fs n = is_some (file_at fs n)

-- whether a number has a file that passes a test
abbrev pub holds_at : Files → FileNumber → (File → Bool) → Bool
holds_at fs n test = option_map_or test (file_at fs n) false

-- whether a name in a directory stands for a file that passes a test
abbrev pub holds_named : Files → FileNumber → Name → (File → Bool) → Bool
holds_named fs dir name test = option_map_or (λ e. holds_at fs e.0 test) (directory_entries fs dir name) false

-- whether a file is a directory
abbrev pub is_dir : File → Bool
is_dir f = is_directory f.body

-- whether a name in a directory stands for a directory
abbrev pub names_directory : Files → FileNumber → Name → Bool
names_directory fs dir name = holds_named fs dir name is_dir

-- whether what is given passes a test; what is not given does
abbrev pub if_given : {A : Type 0} → Option A → (A → Bool) → Bool
if_given o test = option_map_or test o true

-- whether it is a symbolic link
abbrev pub is_link : Body → Bool
is_link (bodies.Regular bytes) = false
is_link (bodies.Symlink target) = true
is_link (bodies.Directory l) = false

-- whether a directory lists nothing
abbrev pub lists_nothing : File → Bool
lists_nothing f = length (listing_in f.body).entries == 0

-- the bytes of a regular file, else none
abbrev pub bytes_in : Body → List ℕ
bytes_in (bodies.Regular bytes) = bytes
bytes_in (bodies.Symlink target) = []
bytes_in (bodies.Directory l) = []

-- the bytes of a number's regular file
abbrev pub bytes_at : Files → FileNumber → List ℕ
bytes_at fs n = option_map_or (λ f. bytes_in f.body) (file_at fs n) []
