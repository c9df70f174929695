use Rattle.std.proofs.Common.{List, sym, subst}
use Rattle.std.specs.List.{AllByRecursion}
use Rattle.xdr.specs.Item.{array, spelling}
use Rattle.xdr.specs.Writing.{Adds}
use Rattle.mount_types.specs.Calls.{Mount}
use Rattle.mount_types.specs.Mounts.{max_mounts, root_of, IsMount}
use Rattle.state_machine.proofs.file_texts.Arrays.{adds_counted}
use Rattle.state_spec.specs.StateItems.{mount_item}
use Rattle.checkpoint.proofs.MountedHosts.{short_at}
use Rattle.checkpoint.proofs.mounts.add_mounts.Goals as goal

pub add_each-requires : goal.add_each-requires
add_each-requires c =
    short_at (λ host. host.items) c.hosts-hosts.result.now
    (subst (AllByRecursion IsMount) (sym c.hosts-hosts.ensures) c.are_mounts.ensures.each)

-- the mounts stand after their count
pub returns : goal.returns
returns c =
    subst (λ (ms : List Mount). Adds (spelling (array max_mounts mount_item) ms) c.args.out.now.items
    c.add_each.result c.add_each.new.out.items) c.hosts-hosts.ensures
    (adds_counted mount_item (λ host. root_of host.items) max_mounts c.hosts-hosts.result.now
    c.args.out.now.items _ _ c.add_each.result c.in_ok-put_u32.ensures.writes c.add_each.ensures)
