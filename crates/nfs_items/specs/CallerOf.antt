-- A caller without where it lies in memory.
use Rattle.std.specs.Prelude.{option_map}
use Rattle.nfs_items.specs.declared.who.Who.{Who}
use Rattle.nfs_items.specs.Caller.{Caller}

-- the caller that a value of the program stands for
abbrev pub caller_of : Who → Caller
caller_of w = record {
  uid = w.uid;
  gid = w.gid;
  gids = w.gids;
  machine_name = option_map (λ name. name.now) w.machine_name;
}
