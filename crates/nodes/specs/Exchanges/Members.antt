-- Nodes that a roster lists.
use Rattle.std.specs.Prelude.{◌≡◌, List, IsSomeAnd}
use Rattle.authenticator.specs.Roster.{member_of}
use Rattle.authenticator.specs.declared.member.Kind.{Kind}
use Rattle.authenticator.specs.declared.member.Member.{Member}
use Rattle.node_logs.specs.Steps.Nodes.{NodeParts}
use Rattle.node_logs.specs.Nodes.{IsMemberOf}

-- A member is of this kind, and has a node's root, height and version of the log.
pub record IsMemberAs (kind : Kind) (n : NodeParts) (m : Member) : Type 0 where
  pub kind_of : m.kind ≡ kind
  pub keys : IsMemberOf n m

-- A roster lists a node by its number as of this kind, with its root and height and the version of its log.
abbrev pub IsListed : List Member → Kind → NodeParts → Type 0
IsListed ms kind n = IsSomeAnd (member_of ms n.node) (IsMemberAs kind n)
