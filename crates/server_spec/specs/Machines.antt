-- Callers of the worked calls.
use Rattle.std.specs.Prelude.{[], Some, codes}
use Rattle.mount_types.specs.nfs_items.Caller.{Caller}
use Rattle.mount_types.specs.Calls.{HostName}

-- a machine
abbrev pub m : HostName
m = codes "m"

-- another machine
abbrev pub n : HostName
n = codes "n"

-- the superuser of a machine
abbrev pub by : HostName → Caller
by host = record { uid = 0; gid = 0; gids = []; machine_name = Some host }
