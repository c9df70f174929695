use Rattle.server_spec.proofs.Listed.{no_mounts}
use Rattle.mount.proofs.table.MountTable.new.Goals as goal

pub invariant_of-result : goal.invariant_of-result
invariant_of-result c = rw (c.new.ensures.items) no_mounts
