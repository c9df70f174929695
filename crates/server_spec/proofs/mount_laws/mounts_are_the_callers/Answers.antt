use Rattle.server_spec.specs.Paths.{names_on}
use Rattle.server_spec.specs.MountCalls.{host_of}
use Rattle.server_spec.proofs.MountSteps.{others_stay, has_mounted, has_unmounted, has_unmounted_all}
use Rattle.server_spec.proofs.mount_laws.mounts_are_the_callers.Goals as goal

pub returns-clause-others : goal.returns-clause-others
returns-clause-others c = others_stay

pub returns-clause-mounted : goal.returns-clause-mounted
returns-clause-mounted c fs mounts who path handle given =
    has_mounted fs mounts (host_of who) (names_on path) handle given

pub returns-clause-unmounted : goal.returns-clause-unmounted
returns-clause-unmounted c fs mounts who path root =
    has_unmounted fs mounts (host_of who) (names_on path) root

pub returns-clause-all_unmounted : goal.returns-clause-all_unmounted
returns-clause-all_unmounted c fs mounts who = has_unmounted_all fs mounts (host_of who)
