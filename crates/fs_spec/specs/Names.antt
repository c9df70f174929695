-- Names in a directory, and paths, which are lists of them.
use Rattle.std.specs.Prelude.{ℕ, ◌==◌, ◌&&◌, not, nat_eq, Bool, List, [], codes}
use Rattle.std.specs.List.{list_all}
use Rattle.std.specs.Cmp.Lexicographic.{pointwise}
use Rattle.nfs_items.specs.Terms.{Name}

-- the names from the root, or from a directory, to what the path leads to
abbrev pub FilePath : Type 0
FilePath = List Name

-- `.`, a directory itself
abbrev pub dot : Name
dot = codes "."

-- `..`, the directory above
abbrev pub dot_dot : Name
dot_dot = codes ".."

-- neither zero nor a slash
abbrev pub is_plain_byte : ℕ → Bool
is_plain_byte byte = not (byte == 0) && not (byte == 0x2f)

-- what may stand in a directory: not empty, not `.` or `..`, and no byte of it zero or a slash
abbrev pub is_name : Name → Bool
is_name name =
    not (pointwise nat_eq name []) && (not (pointwise nat_eq name dot) && (not (pointwise nat_eq name dot_dot)
    && list_all is_plain_byte name))
