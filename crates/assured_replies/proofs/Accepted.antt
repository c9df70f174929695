-- A client that took an acknowledgement has the roster, the number and the server that it had.
-- Serves: assured_replies_are_owed.
use Rattle.std.proofs.Common.{◌≡◌, ℕ, ◌+◌, List, Some, sym, ap, subst, ◌∙◌}
use Rattle.std.specs.Prelude.{IsSomeAnd}
use Rattle.authenticator.specs.Numbers.{number_in}
use Rattle.authenticator.specs.Roster.{member_of}
use Rattle.authenticator.specs.declared.member.Member.{Member}
use Rattle.envelopes.specs.declared.acknowledgement.Ack.{Ack}
use Rattle.envelopes.specs.declared.envelope.Envelope.{Envelope}
use Rattle.witness_spec.specs.Watched.{Watched, IsInRoster}
use Rattle.remote.specs.Remotes.{RemoteParts}
use Rattle.remote.specs.Replies.{IsAcknowledged, IsReplyTo, Stands, already, logged}
use Rattle.assured_replies.specs.Laws.{sent_number}

-- two clients are one, but for their logs
pub record IsSameClient (r s : RemoteParts) : Type 0 where
  pub roster : s.client.roster ≡ r.client.roster
  pub node : s.client.node ≡ r.client.node
  pub server : s.server ≡ r.server

stands_same : (r : RemoteParts) (a : Ack) (s : RemoteParts) → Stands r a s → IsSameClient r s
stands_same r a s (logged awaits numbers is) = record {
  roster = ap (λ (x : RemoteParts). x.client.roster) is;
  node = ap (λ (x : RemoteParts). x.client.node) is;
  server = ap (λ (x : RemoteParts). x.server) is;
}
stands_same r a s (already has is) = record {
  roster = ap (λ (x : RemoteParts). x.client.roster) is;
  node = ap (λ (x : RemoteParts). x.client.node) is;
  server = ap (λ (x : RemoteParts). x.server) is;
}

pub same_client : (r : RemoteParts) (number : ℕ) (bytes : List ℕ) (call : Envelope) (a : Ack) (s : RemoteParts)
    → IsAcknowledged r number bytes call a s → IsSameClient r s
same_client r number bytes call a s h = stands_same r a s h.stands

-- the reply's place, by the member that is watched
pub place_of : (w : Watched) (r s : RemoteParts) (call : Envelope) (a : Ack) (e : Envelope) → IsSameClient r s
    → w.roster ≡ r.client.roster → w.member.node ≡ r.server → IsInRoster w → IsReplyTo s call a e
    → sent_number w e ≡ number_in w.member.log_version a.number + 2
place_of w r s call a e same roster server is reply =
    let member : member_of s.client.roster s.server ≡ Some w.member =
    ap (λ ms. member_of ms s.server) (same.roster ∙ sym roster)
    ∙ ap (member_of w.roster) (same.server ∙ sym server) ∙ is.is_member in
    subst (λ o. IsSomeAnd o (λ (m : Member). number_in m.log_version e.seq ≡ number_in m.log_version a.number + 2)) member
    reply.place
