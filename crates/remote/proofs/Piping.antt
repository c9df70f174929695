-- A call through a pipe to a server in the same process.
-- Serves: answer, call_through_pipe.
use Rattle.std.proofs.Common.{◌≡◌, ℕ, false, List, Result, Ok, Err, Option, Some, None, sym, ap, subst}
use Rattle.std.proofs.Common.{◌∙◌}
use Rattle.std.specs.Prelude.{IfOk}
use Rattle.std.specs.Option.{option_map}
use Rattle.envelopes.specs.Envelope.{envelope_text, envelope_value}
use Rattle.envelopes.specs.declared.envelope.Envelope.{Envelope}
use Rattle.commitment.specs.Senders.Sender.{IsSender}
use Rattle.commitment.specs.declared.outcome.Received.{Received}
use Rattle.commitment.specs.declared.outcome.Received.TheVariants.{New}
use Rattle.nfs_items.specs.Timeval.{Timeval}
use Rattle.gateway.specs.declared.links.fault.LinkFault.{LinkFault}
use Rattle.node_logs.specs.Nodes.{NodeParts, sender_of}
use Rattle.node_logs.specs.Receiving.{Receives, ReceivesEnvelope}
use Rattle.node_logs.specs.declared.outcome.Receipt.{Receipt}
use Rattle.nodes.specs.Exchanges.Exchanges.{IsServed}
use Rattle.nodes.specs.Sides.{IsEnvelopeText, IsReplyAt}
use Rattle.nodes.proofs.OfExchanges.Texts.{one_envelope, reads_back}
use Rattle.nodes.proofs.OfSides.{IsServedAs, served_as}
use Rattle.remote.specs.Remotes.{RemoteParts}
use Rattle.remote.specs.Calls.{IsBegun}
use Rattle.remote.specs.Answers.{Accepts}
use Rattle.remote.specs.Links.{IsExchanged}
use Rattle.remote.specs.Pipes.{Gives, IsTextIn, reply_in}
use Rattle.remote.specs.declared.courier.Carried.{Carried}
use Rattle.remote.specs.declared.courier.Carried.TheVariants.{Acknowledged, Answered}

-- a server received the envelope whose text this is
received : (s s' : NodeParts) (time : Timeval) (bytes : List ℕ) (e : Envelope) (r : Receipt)
    (h : Received Receipt)
    → IsEnvelopeText e bytes
    → h ≡ New r
    → Receives s time bytes (Ok h) s'
    → ReceivesEnvelope s time e r s'
received s s' time bytes e r h text new takes =
    let x : Receives s time bytes (Ok (New r)) s' =
    subst (λ (y : Received Receipt). Receives s time bytes (Ok y) s') new takes in
    let same : x.0 ≡ e =
    one_envelope bytes x.0 e x.1.0.opened.0.text (reads_back envelope_text (envelope_value e) bytes text) in
    subst (λ (f : Envelope). ReceivesEnvelope s time f r s') same x.1.3

-- what the envelope that it shows says, in what came
gives : (s s' : NodeParts) (time : Timeval) (e : Envelope) (r : Receipt) (carried : Carried) (bytes : List ℕ)
    → (h : IsServedAs s time e r s')
    → IsTextIn h.envelope carried bytes
    → Gives s time e carried bytes s'
gives s s' time e r carried bytes h text = by h.envelope carried text h.served
  where
    by : (o : Option Envelope) (c : Carried) → IsTextIn o c bytes
        → (s.lies ≡ false → IsServed s time e.body (option_map (λ (f : Envelope). f.body) o) s')
        → Gives s time e c bytes s'
    by None Acknowledged t served = λ plain. served plain
    by None Answered t served = absurd t
    by (Some f) Acknowledged t served = absurd t
    by (Some f) Answered t served = (f, (t, λ plain. served plain))

-- What it gives for a call.
pub gives_for : (s s' : NodeParts) (time : Timeval) (call bytes : List ℕ) (e : Envelope) (r : Receipt)
    (h : Received Receipt) (result : Result Carried LinkFault)
    → IsEnvelopeText e call
    → h ≡ New r
    → Receives s time call (Ok h) s'
    → IsSender (sender_of s')
    → ((o : Option Envelope) → IsReplyAt (sender_of s') r.reply o → IfOk result (λ c. IsTextIn o c bytes))
    → IfOk result (λ c. Gives s time e c bytes s')
gives_for s s' time call bytes e r h (Err f) text new takes is written = tt
gives_for s s' time call bytes e r h (Ok c) text new takes is written =
    let x = served_as s s' time e r (received s s' time call e r h text new takes) is in
    gives s s' time e r c bytes x (written x.envelope x.shown.at)

-- ---- the client's half

-- What is handed out is what the server owed.
pub is_served : (s s' : NodeParts) (time : Timeval) (r m r' : RemoteParts) (body : List ℕ) (number : ℕ)
    (text ack bytes receipt : List ℕ) (carried : Carried) (reply : Option (List ℕ))
    → s.lies ≡ false
    → (h : IsBegun r body number text m)
    → Gives s time h.call carried bytes s'
    → Accepts m number ack (reply_in carried bytes) reply receipt r'
    → IsServed s time body reply s'
is_served s s' time r m r' body number text ack bytes receipt carried reply plain h given accepted =
    subst (λ (b : List ℕ). IsServed s time b reply s') h.says (by carried reply given accepted)
  where
    by : (c : Carried) (o : Option (List ℕ)) → Gives s time h.call c bytes s'
        → Accepts m number ack (reply_in c bytes) o receipt r'
        → IsServed s time h.call.body o s'
    by Acknowledged None g x = g plain
    by Acknowledged (Some b) g x = absurd x
    by Answered None g x = absurd x
    by Answered (Some b) g x =
        let same : g.0 ≡ x.replied.envelope =
        one_envelope bytes g.0 x.replied.envelope (reads_back envelope_text (envelope_value g.0) bytes g.1.0)
        x.replied.received.from.opens.0.text in
        subst (λ (y : List ℕ). IsServed s time h.call.body (Some y) s')
        (ap (λ (f : Envelope). f.body) same ∙ sym x.replied.says) (g.1.1 plain)

-- It is an exchange of one round.
pub one_round : (r m r' : RemoteParts) (body : List ℕ) (number : ℕ) (text ack receipt : List ℕ)
    (bytes reply : Option (List ℕ))
    → IsBegun r body number text m
    → Accepts m number ack bytes reply receipt r'
    → IsExchanged r body reply r'
one_round r m r' body number text ack receipt bytes reply begun accepted = record {
  number = number;
  text = text;
  between = m;
  begun = begun;
  ack = ack;
  bytes = bytes;
  receipt = receipt;
  accepted = accepted;
}
