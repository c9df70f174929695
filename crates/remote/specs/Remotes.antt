-- A client that calls a server on another host, of which nothing is known but the bytes that come back.
use Rattle.std.specs.Prelude.{◌≡◌, ◌≢◌, ℕ, false, IsSomeAnd, refl}
use Rattle.std.specs.Coded.{Coded, code_by, coded×, coded_ℕ}
use Rattle.authenticator.specs.Roster.{member_of}
use Rattle.authenticator.specs.declared.member.Kind.TheVariants as kinds
use Rattle.envelopes.specs.declared.envelope.Envelope.{Envelope}
use Rattle.envelopes.specs.declared.acknowledgement.Ack.{Ack}
use Rattle.node_logs.specs.Nodes.{NodeParts, node_code}
use Rattle.node_logs.specs.Sending.{with_send, with_receipt}
use Rattle.node_logs.specs.AckTaking.{with_ack}
use Rattle.std.specs.Prelude.{List}

-- what it is: the client's node, and the number of the server that it calls
pub record RemoteParts : Type 0 where
  pub client : NodeParts
  pub server : ℕ

-- such values, coded by others
abbrev pub remote_code : Coded RemoteParts
remote_code =
    code_by (NodeParts × ℕ) (coded× node_code coded_ℕ) (λ r. (r.client, r.server))
    (λ p. record { client = p.0; server = p.1 }) (λ _. refl)

-- The client hasn't strayed, and its roster lists a server of that number, which is another node.
pub record IsRemote (r : RemoteParts) : Type 0 where
  pub straight : r.client.strayed ≡ false
  pub two : r.server ≢ r.client.node
  pub listed : IsSomeAnd (member_of r.client.roster r.server) (λ m. m.kind ≡ kinds.Server)

-- a client with the server that it calls
abbrev pub remote_of : NodeParts → (server : ℕ) → RemoteParts
remote_of client server = record { client = client; server = server }

-- ---- what its log may come to have more

-- the SEND of a body to the server
abbrev pub having_called : RemoteParts → (body : List ℕ) → RemoteParts
having_called r body = record { client = with_send r.client r.server body; server = r.server }

-- the ACK that an acknowledgement makes
abbrev pub having_acknowledged : RemoteParts → Ack → RemoteParts
having_acknowledged r a = record { client = with_ack r.client a; server = r.server }

-- the RECV that an envelope makes
abbrev pub having_received : RemoteParts → Envelope → RemoteParts
having_received r e = record { client = with_receipt r.client e; server = r.server }
