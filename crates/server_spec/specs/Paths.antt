-- The names on a path of bytes (RFC 1094, appendix A.4.3, dirpath).
use Rattle.std.specs.Prelude.{ℕ, ◌==◌, nat_lt, List, [], ◌∷◌, length, Option, Some, None, if◌then◌else◌}
use Rattle.std.specs.List.{filter, slice_split}
use Rattle.mount_types.specs.nfs_items.Terms.{Name}
use Rattle.mount_types.specs.Calls.{DirPath}

-- the byte between names
abbrev pub slash : ℕ
slash = 0x2f

-- what stands between slashes, empty ones dropped
abbrev pub names_between : List ℕ → List Name
names_between bytes = filter (λ name. nat_lt 0 (length name)) (slice_split (λ byte. byte == slash) bytes)

-- the names on a path from the root; a path that doesn't begin with a slash has none
abbrev pub names_on : DirPath → Option (List Name)
names_on [] = None
names_on (byte ∷ rest) = if byte == slash then Some (names_between rest) else None
