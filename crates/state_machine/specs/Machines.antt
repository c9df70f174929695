-- What a machine in memory says, and the states that are made of its parts.
use Rattle.std.specs.Prelude.{◌≡◌, ℕ, List, []}
use Rattle.std.specs.Ordering.{nat_cmp}
use Rattle.std.specs.FinMap as finite
use Rattle.std.specs.FinSet.{FinSet}
use Rattle.xdr.specs.Item.{Fits}
use Rattle.service.specs.nfs_items.Terms.{FileNumber}
use Rattle.service.specs.nfs_items.Timeval.{Timeval, timeval, timeval_value}
use Rattle.state_spec.specs.server_spec.World.{World}
use Rattle.state_spec.specs.server_spec.FileItems.{file_item, file_value}
use Rattle.state_spec.specs.State.{received_cmp, SentMessage, Stage, State}
use Rattle.state_spec.specs.State as spec
use Rattle.state_spec.specs.StateItems.{rest_item, world_value}
use Rattle.state_machine.specs.declared.machine.Machine.{Machine}
use Rattle.state_machine.specs.declared.machine.Machine.TheVariants.{Server, Client}
use Rattle.state_machine.specs.Stages.{stage_in}

-- the machine of a node
abbrev pub machine_in : Machine → spec.Machine
machine_in (Server service stage) = spec.Server service.world (stage_in stage)
machine_in (Client clock) = spec.Client clock

-- the numbers of the files of a machine whose digest isn't kept; a client has no files
abbrev pub missing_in : Machine → List FileNumber
missing_in (Server service stage) = service.missing
missing_in (Client clock) = []

-- a server's files have its number
abbrev pub IsOf : ℕ → spec.Machine → Type 0
IsOf node (spec.Server w stage) = w.files.fsid ≡ node
IsOf node (spec.Client clock) = Unit {0}

-- what is said of a machine can be spelled
abbrev pub MachineFits : spec.Machine → Type 0
MachineFits (spec.Server w stage) =
    Fits timeval (timeval_value w.clock)
    × Fits (rest_item file_item 1) (world_value file_item file_value w stage)
MachineFits (spec.Client clock) = Fits timeval (timeval_value clock)

-- the state of a server, whose number is that of its files
abbrev pub server_state : World → Stage → FinSet received_cmp → finite.FinMap nat_cmp SentMessage → State
server_state w stage received sends = record {
  node = w.files.fsid;
  received = received;
  sends = sends;
  machine = spec.Server w stage;
}

-- the state of a client
abbrev pub client_state : ℕ → Timeval → FinSet received_cmp → finite.FinMap nat_cmp SentMessage → State
client_state node clock received sends = record {
  node = node;
  received = received;
  sends = sends;
  machine = spec.Client clock;
}
