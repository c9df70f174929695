-- What is logged of all that came back for a call.
-- Serves: RemoteClient::accept.
use Rattle.std.proofs.Common.{◌≡◌, ◌⊎◌, inl, inr, ℕ, List, Result, Ok, Err, Option, Some, None, refl}
use Rattle.std.specs.Prelude.{IfErr, IfOk}
use Rattle.std.specs.Option.{option_map}
use Rattle.envelopes.specs.declared.acknowledgement.Ack.{Ack}
use Rattle.envelopes.specs.declared.envelope.Envelope.{Envelope}
use Rattle.remote.specs.Remotes.{RemoteParts}
use Rattle.remote.specs.Replies.{IsAcknowledged, IsReceived, RefusesAck, RefusesReply, Stands, already}
use Rattle.remote.specs.Replies.{logged}
use Rattle.remote.specs.Answers.{Accepts, LogsAck, LogsNoMore, LogsReply, Refuses, StopsAtReply}
use Rattle.remote.specs.declared.fault.AcceptFault.{AcceptFault}
use Rattle.remote.specs.declared.fault.AcceptFault.TheVariants.{NotAcknowledged, AcknowledgedTwice}
use Rattle.remote.specs.declared.fault.AcceptFault.TheVariants.{Unanswered}
use Rattle.remote.specs.declared.fault.AcceptFault.TheVariants.{NotOwed, AnotherCall, Repeated, KeysUsedUp}
use Rattle.remote.specs.declared.fault.AcceptFault.TheVariants.{NoNumbers, NoMemory}

-- nothing is logged
nothing : (r : RemoteParts) (number : ℕ) (r' : RemoteParts) → r' ≡ r → LogsNoMore r number r'
nothing r number r' same = record { between = r; first = inl refl; second = inl same }

-- of the acknowledgement
of_ack : (r : RemoteParts) (number : ℕ) (bytes : List ℕ) (call : Envelope) (a : Ack) (r' : RemoteParts)
    → IsAcknowledged r number bytes call a r'
    → (r' ≡ r) ⊎ LogsAck r number r'
of_ack r number bytes call a r' h = by h.stands
  where
    by : Stands r a r' → (r' ≡ r) ⊎ LogsAck r number r'
    by (logged awaited numbers is) = inr (record {
      call = call;
      is_call = h.is_call;
      bytes = bytes;
      ack = a;
      acknowledges = h.acknowledges;
      logged = is;
    })
    by (already there same) = inl same

-- of the reply
of_reply : (r : RemoteParts) (bytes : List ℕ) (e : Envelope) (place : ℕ) (r' : RemoteParts)
    → IsReceived r bytes e place r'
    → (r' ≡ r) ⊎ LogsReply r r'
of_reply r bytes e place r' h =
    inr (record { bytes = bytes; envelope = e; from = h.from; new = h.new; logged = h.received })

-- where it isn't taken
of_refused : (r : RemoteParts) (call : Envelope) (a : Ack) (bytes : List ℕ) (fault : AcceptFault)
    (r' : RemoteParts)
    → RefusesReply r call a bytes fault r'
    → (r' ≡ r) ⊎ LogsReply r r'
of_refused r call a bytes Unanswered r' x = inl x.1
of_refused r call a bytes (AnotherCall place) r' x = of_reply r bytes x.0 place r' x.1.0
of_refused r call a bytes (Repeated place) r' x = inl x.1.2
of_refused r call a bytes KeysUsedUp r' x = inl x.1.3
of_refused r call a bytes NoNumbers r' x = inl x.1.4
of_refused r call a bytes NoMemory r' (inl same) = inl same
of_refused r call a bytes NoMemory r' (inr x) = of_reply r bytes x.0 x.1.0 r' x.1.1.0
of_refused r call a bytes NotAcknowledged r' x = absurd x
of_refused r call a bytes AcknowledgedTwice r' x = absurd x
of_refused r call a bytes NotOwed r' x = absurd x

-- where none came, or none was owed, or it isn't taken
of_stop : (r : RemoteParts) (call : Envelope) (a : Ack) (bytes : Option (List ℕ)) (fault : AcceptFault)
    (r' : RemoteParts)
    → StopsAtReply r call a bytes fault r'
    → (r' ≡ r) ⊎ LogsReply r r'
of_stop r call a None Unanswered r' x = inl x.1
of_stop r call a None (AnotherCall place) r' x = absurd x
of_stop r call a None (Repeated place) r' x = absurd x
of_stop r call a None KeysUsedUp r' x = absurd x
of_stop r call a None NoNumbers r' x = absurd x
of_stop r call a None NoMemory r' x = absurd x
of_stop r call a None NotAcknowledged r' x = absurd x
of_stop r call a None AcknowledgedTwice r' x = absurd x
of_stop r call a None NotOwed r' x = absurd x
of_stop r call a (Some bytes) NotOwed r' x = inl x.1
of_stop r call a (Some bytes) Unanswered r' x = of_refused r call a bytes Unanswered r' x.1
of_stop r call a (Some bytes) (AnotherCall place) r' x = of_refused r call a bytes (AnotherCall place) r' x.1
of_stop r call a (Some bytes) (Repeated place) r' x = of_refused r call a bytes (Repeated place) r' x.1
of_stop r call a (Some bytes) KeysUsedUp r' x = of_refused r call a bytes KeysUsedUp r' x.1
of_stop r call a (Some bytes) NoNumbers r' x = of_refused r call a bytes NoNumbers r' x.1
of_stop r call a (Some bytes) NoMemory r' x = of_refused r call a bytes NoMemory r' x.1
of_stop r call a (Some bytes) NotAcknowledged r' x = absurd x.1
of_stop r call a (Some bytes) AcknowledgedTwice r' x = absurd x.1

-- where the acknowledgement isn't taken
of_ack_refused : (r : RemoteParts) (number : ℕ) (bytes : List ℕ) (fault : AcceptFault) (r' : RemoteParts)
    → RefusesAck r number bytes fault r'
    → r' ≡ r
of_ack_refused r number bytes NotAcknowledged r' x = x.1
of_ack_refused r number bytes AcknowledgedTwice r' x = x.1.1.4
of_ack_refused r number bytes NoNumbers r' x = x.1.1.3
of_ack_refused r number bytes NoMemory r' x = x
of_ack_refused r number bytes Unanswered r' x = absurd x
of_ack_refused r number bytes NotOwed r' x = absurd x
of_ack_refused r number bytes (AnotherCall place) r' x = absurd x
of_ack_refused r number bytes (Repeated place) r' x = absurd x
of_ack_refused r number bytes KeysUsedUp r' x = absurd x

-- after an answer
of_answer : (r : RemoteParts) (number : ℕ) (ack : List ℕ) (bytes body : Option (List ℕ)) (receipt : List ℕ)
    (r' : RemoteParts)
    → Accepts r number ack bytes body receipt r'
    → LogsNoMore r number r'
of_answer r number ack None None receipt r' x = record {
  between = r';
  first = of_ack r number ack x.call x.acknowledgement r' x.acknowledged;
  second = inl refl;
}
of_answer r number ack None (Some body) receipt r' x = absurd x
of_answer r number ack (Some bytes) None receipt r' x = absurd x
of_answer r number ack (Some bytes) (Some body) receipt r' x = record {
  between = x.between;
  first = of_ack r number ack x.call x.acknowledgement x.between x.acknowledged;
  second = of_reply x.between bytes x.replied.envelope x.replied.place r' x.replied.received;
}

-- after a fault
of_fault : (r : RemoteParts) (number : ℕ) (ack : List ℕ) (bytes : Option (List ℕ)) (fault : AcceptFault)
    (r' : RemoteParts)
    → Refuses r number ack bytes fault r'
    → LogsNoMore r number r'
of_fault r number ack bytes fault r' (inl x) =
    nothing r number r' (of_ack_refused r number ack fault r' x)
of_fault r number ack bytes fault r' (inr x) = record {
  between = x.between;
  first = of_ack r number ack x.call x.acknowledgement x.between x.acknowledged;
  second = of_stop x.between x.call x.acknowledgement bytes fault r' x.stops;
}

-- Whatever the bytes are, nothing is logged but the ACK of the call and then the RECV of the server's
-- envelope.
pub logs_no_more : {X : Type 0} (items : X → List ℕ) (r : RemoteParts) (number : ℕ) (ack : List ℕ)
    (bytes : Option (List ℕ)) (result : Result (Option X) AcceptFault) (receipt : List ℕ) (r' : RemoteParts)
    → IfOk result (λ o. Accepts r number ack bytes (option_map items o) receipt r')
    → IfErr result (λ f. Refuses r number ack bytes f r')
    → LogsNoMore r number r'
logs_no_more items r number ack bytes (Ok o) receipt r' x y =
    of_answer r number ack bytes (option_map items o) receipt r' x
logs_no_more items r number ack bytes (Err f) receipt r' x y = of_fault r number ack bytes f r' y
