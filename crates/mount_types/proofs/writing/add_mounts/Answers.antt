use Rattle.mount_types.proofs.AnswersSaid.{mounts_break}
use Rattle.mount_types.proofs.writing.add_mounts.Goals as goal

pub returns-in_err-add_mount : goal.returns-in_err-add_mount
returns-in_err-add_mount c =
    mounts_break (λ h. h.items) c.args.directory.now c.args.hosts.now c.loop-host.host-index
    c.args.out.now.items c.loop-host.out.items c.add_mount.new.out.items
    c.from_residual.result c.from_residual.ensures.0 c.loop-host.invariant c.in_err-add_mount.ensures
