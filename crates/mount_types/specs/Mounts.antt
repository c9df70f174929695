-- What is mounted, in order of mounting: machines, and the directories that they have mounted (RFC 1094,
-- appendix A.5.3, mountlist).
use Rattle.std.specs.Prelude.{◌≡◌, ℕ, ◌≤◌, Bool, ◌&&◌, not, nat_lt, List, length, codes}
use Rattle.std.specs.List.{AllByRecursion, IsDistinct, filter, list_any}
use Rattle.std.specs.Str.{bytes_eq}
use Rattle.mount_types.specs.declared.limits.TheConstants.{MNTNAMLEN}
use Rattle.mount_types.specs.Calls.{HostName, DirPath, Mount}

-- the mounts of a server
abbrev pub Mounts : Type 0
Mounts = List Mount

-- the one directory that may be mounted
abbrev pub root_path : DirPath
root_path = codes "/"

-- the most mounts that are listed
abbrev pub max_mounts : ℕ
max_mounts = 40

-- the root, as a machine has it mounted
abbrev pub root_of : HostName → Mount
root_of host = (host, root_path)

-- whether two mounts are one: the same machine and the same directory
abbrev pub same_mount : Mount → Mount → Bool
same_mount a b = bytes_eq a.0 b.0 && bytes_eq a.1 b.1

-- whether a mount is among those listed
abbrev pub is_listed : Mounts → Mount → Bool
is_listed mounts m = list_any (same_mount m) mounts

-- whether one more mount may be listed: it isn't yet, and there are fewer than the most
abbrev pub may_list : Mounts → Mount → Bool
may_list mounts m = not (is_listed mounts m) && nat_lt (length mounts) max_mounts

-- without a mount
abbrev pub without_mount : Mounts → Mount → Mounts
without_mount mounts m = filter (λ listed. not (same_mount m listed)) mounts

-- without all that a machine has mounted
abbrev pub without_host : Mounts → HostName → Mounts
without_host mounts host = filter (λ listed. not (bytes_eq host listed.0)) mounts

-- a machine's name has at most 255 bytes (A.3), and the root is what it has mounted
abbrev pub IsMount : Mount → Type 0
IsMount m = (length m.0 ≤ MNTNAMLEN) × (m.1 ≡ root_path)

-- at most 40 mounts, each of the root, and no two of one machine
pub record AreMounts (mounts : Mounts) : Type 0 where
  pub count : length mounts ≤ max_mounts
  pub each : AllByRecursion IsMount mounts
  pub differ : IsDistinct same_mount mounts
