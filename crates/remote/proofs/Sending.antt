-- What sending a call gives.
-- Serves: begin, send.
use Rattle.std.proofs.Common.{◌≡◌, inr, ℕ, List, [], Result, Ok, Err, Some, refl, sym, ap, subst, ◌∙◌}
use Rattle.std.specs.Prelude.{IfErr, OnOk}
use Rattle.authenticator.specs.Numbers.{number_in}
use Rattle.envelopes.specs.Envelope.{envelope_text, envelope_value}
use Rattle.envelopes.specs.declared.envelope.Envelope.{Envelope}
use Rattle.commitment.specs.Senders.LookUps.{envelope_at}
use Rattle.commitment.specs.Senders.Sender.{IsSender}
use Rattle.gateway.specs.declared.links.fault.LinkFault.{LinkFault}
use Rattle.gateway.specs.declared.links.fault.LinkFault.TheVariants.{KeysUsedUp, NoMemory, Failed}
use Rattle.node_logs.specs.Nodes.{NodeParts, next_number, sender_of}
use Rattle.node_logs.specs.Sending.{with_send}
use Rattle.nodes.specs.Delivery.{WritesText}
use Rattle.nodes.proofs.OfExchanges.Shown.{IsEnvelopeOf, envelope_shown}
use Rattle.remote.specs.Remotes.{RemoteParts, remote_of}
use Rattle.remote.specs.Calls.{Begins, IsBegun, IsCallAt, StopsBeginning}

-- the envelope of the SEND that was logged
call_shown : (n n' : NodeParts) (server : ℕ) (body : List ℕ) → n' ≡ with_send n server body
    → IsSender (sender_of n')
    → (e : Envelope) × IsEnvelopeOf (sender_of (with_send n server body)) (next_number n) n.pending server
    body e
call_shown n n' server body sent is =
    envelope_shown (sender_of (with_send n server body)) n.entries [] n.pending server body
    (subst (λ (m : NodeParts). IsSender (sender_of m)) sent is) refl

-- The call is begun, or memory was refused for its text.
pub begun_or_stops : (n n' : NodeParts) (server : ℕ) (body : List ℕ) (number : ℕ) (text : List ℕ)
    (result : Result (Unit {0}) LinkFault)
    → Begins (remote_of n server) body (Ok number) (remote_of n' server)
    → IsSender (sender_of n')
    → ((call : Envelope) → envelope_at (sender_of n') number ≡ Some call
    → WritesText envelope_text (envelope_value call) result text)
    → OnOk result (IsBegun (remote_of n server) body number text (remote_of n' server))
    × IfErr result (λ f. StopsBeginning (remote_of n server) body f (remote_of n' server))
begun_or_stops n n' server body number text result begins is written = by result (written call shown)
  where
    sent : n' ≡ with_send n server body
    sent = ap (λ (r : RemoteParts). r.client) begins.2

    call : Envelope
    call = (call_shown n n' server body sent is).0

    h : IsEnvelopeOf (sender_of (with_send n server body)) (next_number n) n.pending server body call
    h = (call_shown n n' server body sent is).1

    shown : envelope_at (sender_of n') number ≡ Some call
    shown =
        ap (λ (m : NodeParts). envelope_at (sender_of m) number) sent
        ∙ ap (envelope_at (sender_of (with_send n server body))) begins.3 ∙ h.there

    stands : IsCallAt (remote_of n' server) number call
    stands = record {
      shown = shown;
      receiver = h.receiver;
      stands = ap (λ (m : NodeParts). number_in m.log_version call.seq) sent ∙ h.stands ∙ sym begins.3;
    }

    by : (r : Result (Unit {0}) LinkFault) → WritesText envelope_text (envelope_value call) r text
        → OnOk r (IsBegun (remote_of n server) body number text (remote_of n' server))
        × IfErr r (λ f. StopsBeginning (remote_of n server) body f (remote_of n' server))
    by (Ok x) w = (
      record {
        left = begins.0;
        numbers = begins.1;
        sent = begins.2;
        numbered = begins.3;
        call = call;
        stands = stands;
        sender = h.sender;
        says = h.says;
        written = w;
      },
      tt,
    )
    by (Err KeysUsedUp) w = absurd w
    by (Err Failed) w = absurd w
    by (Err NoMemory) w = (tt, (begins.0, inr (begins.1, begins.2)))
