-- Files that a text can hold.
use Rattle.std.specs.Prelude.{◌≤◌, length}
use Rattle.std.specs.List.{AllByRecursion}
use Rattle.fs_spec.specs.Maxima.{max_file_size, max_target, max_name, max_entries}
use Rattle.fs_spec.specs.Listing.{NamedEntry}
use Rattle.fs_spec.specs.Files.{Body, Regular, Symlink, Directory}

-- bytes, targets, counts of entries and names are within their greatest lengths
abbrev pub IsWritable : Body → Type 0
IsWritable (Regular bytes) = length bytes ≤ max_file_size
IsWritable (Symlink target) = length target ≤ max_target
IsWritable (Directory l) =
    (length l.entries ≤ max_entries) × AllByRecursion (λ (e : NamedEntry). length e.0 ≤ max_name) l.entries
