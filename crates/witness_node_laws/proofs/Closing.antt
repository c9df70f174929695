-- The acknowledgement of a received message closes the challenge with it.
-- Serves: acknowledgements_of_nodes_close.
use Rattle.std.proofs.Common.{◌≡◌, ℕ, Option, Some, None, IsSomeAnd, refl, sym, ap, ◌∙◌}
use Rattle.secure_log.specs.LogEntries.Chain.{IsAmong}
use Rattle.authenticator.specs.Roster.{member_of}
use Rattle.authenticator.specs.Signed.{IsSignedBy}
use Rattle.envelopes.specs.Envelope.{envelope_message}
use Rattle.envelopes.specs.Acknowledgement.{ack_shows}
use Rattle.envelopes.specs.declared.envelope.Envelope.{Envelope}
use Rattle.envelopes.specs.declared.acknowledgement.Ack.{Ack}
use Rattle.packets.specs.Laws.{JudgedAsMeant}
use Rattle.commitment.specs.Senders.Sender.{SenderParts, IsSender}
use Rattle.commitment.specs.Senders.LookUps.{ack_at, authenticator_at}
use Rattle.commitment.specs.Received.{IsReceiptAt}
use Rattle.node_logs.specs.Steps.Nodes.{NodeParts, log_of, sender_of}
use Rattle.node_logs.specs.Nodes.{IsMemberOf}
use Rattle.witness_laws.specs.witness_spec.Events as events
use Rattle.witness_laws.specs.witness_spec.Replies.{SendOf}
use Rattle.witness_laws.specs.witness_spec.Starting.{Beginning}
use Rattle.witness_laws.specs.witness_spec.Watched.{Watched, IsInRoster, IsWatchedFrom}
use Rattle.witness_laws.specs.witness_spec.Standing.{open_challenges}
use Rattle.witness_laws.specs.witness_spec.Histories.{History, own_of}
use Rattle.witness_laws.specs.witness_spec.Laws.{AcksClose}
use Rattle.witness_node_laws.specs.Laws.{AckCloses}
use Rattle.witness_node_laws.proofs.Acknowledged.{IsAckOf, acknowledged}
use Rattle.witness_node_laws.proofs.Own.{OfItsLog}
use Rattle.witness_node_laws.proofs.Packets.{ack_packet}

-- what tells that an acknowledgement shows the authenticator of its place
abbrev pub ShowsItsPlace : Type 0
ShowsItsPlace =
    (s : SenderParts) (number : ℕ) (a : Ack) → ack_at s number ≡ Some a
    → authenticator_at s number ≡ Some (ack_shows a)

-- Where a message's RECV stands in a node's log, its acknowledgement closes the challenge with the message.
pub closing : AcksClose → JudgedAsMeant → OfItsLog → ShowsItsPlace
    → (g : Beginning) (w : Watched) (history : History) (n : NodeParts) (number : ℕ) (e : Envelope)
    → IsInRoster w → IsWatchedFrom g w → w.member.node ≡ n.node → IsMemberOf n w.member → IsSender (sender_of n)
    → IsReceiptAt (log_of n) (envelope_message e) number
    → IsAmong (SendOf e) (open_challenges (own_of w history)) → AckCloses g w history n number
closing close meant of_log shows g w history n number e is from node key sender there opened =
    by (ack_at (sender_of n) number) refl
    (acknowledged (sender_of n) (envelope_message e) number sender there)
  where
    by : (o : Option Ack) → ack_at (sender_of n) number ≡ o
        → IsSomeAnd o (IsAckOf n.node (envelope_message e))
        → AckCloses g w history n number
    by None at k = absurd k
    by (Some a) at k =
        let signed : IsSignedBy w.member (ack_shows a) =
        (of_log (sender_of n) number (ack_shows a) sender
        (shows (sender_of n) number a at)).signed w.member key.root
        key.height in
        let member : member_of w.roster a.by ≡ Some w.member =
        ap (member_of w.roster) (k.by ∙ sym node) ∙ is.is_member in
        record {
          ack = a;
          is = at;
          signed = signed;
          closes = λ its key_is. close g w history e a its is from key_is (k.by ∙ sym node) opened k.of;
          packet = λ its text key_is spelled bound.
              ack_packet meant g w history a (events.AckIn a its) text from bound spelled member signed
              (close g w history e a its is from key_is (k.by ∙ sym node) opened k.of).its;
        }
