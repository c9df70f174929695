-- The states that members begin with, and the kind of a state's node.
use Rattle.std.specs.Prelude.{ℕ}
use Rattle.secure_log.specs.authenticator.declared.member.Kind.{Kind}
use Rattle.secure_log.specs.authenticator.declared.member.Kind.TheVariants as kinds
use Rattle.secure_log.specs.authenticator.declared.member.Member.{Member}
use Rattle.state_spec.specs.State.{State, Machine, Server, Client, opening_server, opening_client}

-- what the node of a machine does
abbrev pub kind_of : Machine → Kind
kind_of (Server w stage) = kinds.Server
kind_of (Client clock) = kinds.Client

-- by what the node does
abbrev pub opening_by : Kind → ℕ → State
opening_by kinds.Server node = opening_server node
opening_by kinds.Client node = opening_client node

-- the state that a member of a roster begins with
abbrev pub opening_of : Member → State
opening_of m = opening_by m.kind m.node
