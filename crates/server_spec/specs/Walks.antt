-- What the functions along the way say of a path: whether it names the root,
-- and whether it leads to something.
use Rattle.std.specs.Prelude.{Bool, true, false, nat_lt, List, [], ◌∷◌, length, Option, Some, None, is_some}
use Rattle.std.specs.Prelude.{option_map, if◌then◌else◌}
use Rattle.mount_types.specs.nfs_items.Terms.{Name, FileNumber}
use Rattle.nfs_laws.specs.fs_spec.Listing.{file_number}
use Rattle.nfs_laws.specs.fs_spec.Paths.{DirectoryEntries, path_at}

-- names lead to the root itself
abbrev pub is_root : Option (List Name) → Bool
is_root None = false
is_root (Some []) = true
is_root (Some (name ∷ names)) = false

-- names lead to something
abbrev pub is_there : DirectoryEntries → Option (List Name) → Bool
is_there at None = false
is_there at (Some names) = is_some (path_at at names)

-- the number of what stands between slashes, in the directory of a number;
-- nothing between two is the directory itself
abbrev pub number_after : DirectoryEntries → FileNumber → Name → Option FileNumber
number_after at dir name = if nat_lt 0 (length name) then option_map file_number (at dir name) else Some dir
