-- Within what bounds a call is that was read from bytes (RFC 1094, appendix A.3).
use Rattle.std.specs.Prelude.{◌≤◌, length}
use Rattle.mount_types.specs.declared.limits.TheConstants.{MNTPATHLEN}
use Rattle.mount_types.specs.Calls.{MountCall, DirPath, Null, Mnt, Dump, Umnt, Umntall, Export}

-- a path of at most 1,024 bytes
abbrev pub IsDirPath : DirPath → Type 0
IsDirPath path = length path ≤ MNTPATHLEN

-- a path has at most 1,024 bytes
abbrev pub HasBounds : MountCall → Type 0
HasBounds Null = Unit {0}
HasBounds (Mnt path) = IsDirPath path
HasBounds Dump = Unit {0}
HasBounds (Umnt path) = IsDirPath path
HasBounds Umntall = Unit {0}
HasBounds Export = Unit {0}
