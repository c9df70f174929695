use Rattle.std.proofs.Common.{drop}
use Rattle.mount_types.specs.Mounts.{root_of}
use Rattle.state_machine.proofs.file_texts.Arrays.{AddsRest}
use Rattle.state_spec.specs.StateItems.{mount_item}
use Rattle.checkpoint.proofs.mounts.add_each.Given as goal

abbrev pub invariant-loop-host : goal.invariant-loop-host
invariant-loop-host l =
    AddsRest mount_item (λ host. root_of host.items) l.hosts (drop l.host-index l.hosts) l.initial.out.items
    l.out.items
