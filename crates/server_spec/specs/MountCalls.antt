-- What each call does to the mounts of a server (RFC 1094, appendix A.5): its answer, and the mounts after
-- it. The files stay, and permissions aren't looked at.
use Rattle.std.specs.Prelude.{List, [], ◌∷◌, ◌++◌, length, nat_lt, Option, Some, None, Ok, Err, is_some}
use Rattle.std.specs.Prelude.{unwrap_or, if◌then◌else◌}
use Rattle.mount_types.specs.nfs_items.Handle.{handle_of}
use Rattle.mount_types.specs.nfs_items.Caller.{Caller}
use Rattle.mount_types.specs.nfs_items.Terms.{Name}
use Rattle.mount_types.specs.nfs_items.declared.stat.Stat.TheVariants.{NoEnt, Acces, NoSpc}
use Rattle.nfs_laws.specs.fs_spec.Files.{Files, directory_entries}
use Rattle.nfs_laws.specs.fs_spec.Paths.{path_at}
use Rattle.mount_types.specs.Calls.{HostName, MountCall, Null, Mnt, Dump, Umnt, Umntall, Export, MountAnswer}
use Rattle.mount_types.specs.Calls.{Nothing, Mounted, Mounts as Listed, Exports}
use Rattle.mount_types.specs.Mounts.{Mounts, root_path, max_mounts, root_of, is_listed, without_mount}
use Rattle.mount_types.specs.Mounts.{without_host}
use Rattle.server_spec.specs.Paths.{names_on}

-- the name of the caller's machine; AUTH_NONE gives none
abbrev pub host_of : Caller → HostName
host_of who = unwrap_or who.machine_name []

-- the root's file handle: the root has number 1
abbrev pub root_handle : Files → MountAnswer
root_handle fs = Mounted (Ok (handle_of fs.fsid 1))

-- A machine mounts the root. Where it has it mounted already the mounts stay;
-- a mount beyond the most is ENOSPC.
abbrev pub mount_root : Files → Mounts → HostName → MountAnswer × Mounts
mount_root fs mounts host =
    if is_listed mounts (root_of host) then (root_handle fs, mounts)
    else (if nat_lt (length mounts) max_mounts then (root_handle fs, mounts ++ root_of host ∷ [])
    else (Mounted (Err NoSpc), mounts))

-- A machine mounts what names lead to: the root, where there is none. What else is in the tree is EACCES, and
-- what isn't is ENOENT.
abbrev pub mount_at : Files → Mounts → HostName → Option (List Name) → MountAnswer × Mounts
mount_at fs mounts host None = (Mounted (Err NoEnt), mounts)
mount_at fs mounts host (Some []) = mount_root fs mounts host
mount_at fs mounts host (Some (name ∷ names)) =
    (Mounted (Err (if is_some (path_at (directory_entries fs) (name ∷ names)) then Acces else NoEnt)), mounts)

-- a machine unmounts what names lead to: only the root can be mounted
abbrev pub unmount_at : Mounts → HostName → Option (List Name) → Mounts
unmount_at mounts host None = mounts
unmount_at mounts host (Some []) = without_mount mounts (root_of host)
unmount_at mounts host (Some (name ∷ names)) = mounts

-- the answer to a call, and the mounts after it
abbrev pub mount_does : Files → Mounts → Caller → MountCall → MountAnswer × Mounts
mount_does fs mounts who Null = (Nothing, mounts)
mount_does fs mounts who (Mnt path) = mount_at fs mounts (host_of who) (names_on path)
mount_does fs mounts who Dump = (Listed mounts, mounts)
mount_does fs mounts who (Umnt path) = (Nothing, unmount_at mounts (host_of who) (names_on path))
mount_does fs mounts who Umntall = (Nothing, without_host mounts (host_of who))
mount_does fs mounts who Export = (Exports ((root_path, []) ∷ []), mounts)
