-- Which mounts may stand after others.
use Rattle.std.specs.Prelude.{Bool, ◌&&◌, not}
use Rattle.std.specs.Str.{bytes_eq}
use Rattle.mount_types.specs.Calls.{Mount}
use Rattle.mount_types.specs.Mounts.{Mounts, root_path, is_listed}

-- whether a mount may be taken after others: it is of the root, and none of them
abbrev pub may_take : Mounts → Mount → Bool
may_take mounts m = bytes_eq m.1 root_path && not (is_listed mounts m)
