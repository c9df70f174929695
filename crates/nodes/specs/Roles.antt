-- What a node of a kind is: its reference machine.
use Rattle.authenticator.specs.declared.member.Kind.{Kind}
use Rattle.authenticator.specs.declared.member.Kind.TheVariants as kinds
use Rattle.state_spec.specs.State.{Machine}
use Rattle.node_logs.specs.Steps.Nodes.{IsClient, IsServer}

-- A machine is of a kind.
abbrev pub IsMachineOf : Kind → Machine → Type 0
IsMachineOf kinds.Server = IsServer
IsMachineOf kinds.Client = IsClient
