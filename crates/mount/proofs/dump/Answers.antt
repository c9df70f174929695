use Rattle.std.proofs.Common.{arith}
use Rattle.server_spec.proofs.Listed.{hosts_are_short}
use Rattle.mount.proofs.dump.Goals as goal

pub write_mount_result-requires : goal.write_mount_result-requires
write_mount_result-requires c = (
  hosts_are_short (λ h. h.items) c.hosts.result.now c.args.mounts.now c.hosts.ensures c.are_mounts.ensures,
  rw (c.root_path.ensures) (omega arith),
)
