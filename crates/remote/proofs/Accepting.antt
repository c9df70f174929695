-- What a client makes of all that came back for a call.
-- Serves: accept.
use Rattle.std.proofs.Common.{◌≡◌, inr, ℕ, List, Result, Ok, Err, Option, Some, None, refl, sym, subst}
use Rattle.std.proofs.lemmas.Bool.{false≢true}
use Rattle.std.specs.Prelude.{IfErr, IsSome, take}
use Rattle.envelopes.specs.declared.acknowledgement.Ack.{Ack}
use Rattle.envelopes.specs.declared.envelope.Envelope.{Envelope}
use Rattle.remote.specs.Remotes.{RemoteParts}
use Rattle.remote.specs.Replies.{IsAcknowledged, IsOwed, IsReplied, RefusesReply}
use Rattle.remote.specs.Answers.{Accepts, Refuses, StopsAtReply}
use Rattle.remote.specs.Sent.{IsKeptOf, IsXidOwed}
use Rattle.remote.specs.declared.sent.Sent.{Sent}
use Rattle.remote.specs.declared.fault.AcceptFault.{AcceptFault}
use Rattle.remote.specs.declared.fault.AcceptFault.TheVariants.{NotAcknowledged, AcknowledgedTwice}
use Rattle.remote.specs.declared.fault.AcceptFault.TheVariants.{Unanswered}
use Rattle.remote.specs.declared.fault.AcceptFault.TheVariants.{NotOwed, AnotherCall, Repeated, KeysUsedUp}
use Rattle.remote.specs.declared.fault.AcceptFault.TheVariants.{NoNumbers, NoMemory}

-- no reply is owed to a call of which no transaction id is kept
pub none_owed : (call : Envelope) (s : Sent) → IsKeptOf call s → s.xid ≡ None → IsOwed call.body → ⊥
none_owed call s kept none = subst (IsXidOwed call.body) none kept.xid

-- one is owed where it is kept, and it is the call's
pub one_owed : (call : Envelope) (s : Sent) (xid : List ℕ) → IsKeptOf call s → s.xid ≡ Some xid
    → IsOwed call.body × (xid ≡ take 4 call.body)
one_owed call s xid kept some = subst (IsXidOwed call.body) some kept.xid

-- a reply came where none is owed
not_owed : (r : RemoteParts) (call : Envelope) (a : Ack) (bytes : Option (List ℕ)) → (IsOwed call.body → ⊥)
    → IsSome bytes
    → StopsAtReply r call a bytes NotOwed r
not_owed r call a None none some = absurd (false≢true some)
not_owed r call a (Some bytes) none some = (none, refl)

-- Of a call to which none is owed.
pub unowed_refused : {X : Type 0} (r m : RemoteParts) (number : ℕ) (ack : List ℕ) (bytes : Option (List ℕ))
    (call : Envelope) (a : Ack) (s : Sent) (result : Result X AcceptFault)
    → IsAcknowledged r number ack call a m
    → IsKeptOf call s
    → s.xid ≡ None
    → IfErr result (λ f. (f ≡ NotOwed) × IsSome bytes)
    → IfErr result (λ f. Refuses r number ack bytes f m)
unowed_refused r m number ack bytes call a s (Ok x) acknowledged kept none some = tt
unowed_refused r m number ack bytes call a s (Err f) acknowledged kept none some =
    subst (λ (g : AcceptFault). Refuses r number ack bytes g m) (sym some.0) (inr (record {
      call = call;
      acknowledgement = a;
      between = m;
      acknowledged = acknowledged;
      stops = not_owed m call a bytes (none_owed call s kept none) some.1;
    }))

-- None came where one is owed.
pub none_came : (r m : RemoteParts) (number : ℕ) (ack : List ℕ) (bytes : Option (List ℕ)) (call : Envelope)
    (a : Ack) (s : Sent) (xid : List ℕ)
    → IsAcknowledged r number ack call a m
    → IsKeptOf call s
    → s.xid ≡ Some xid
    → bytes ≡ None
    → Refuses r number ack bytes Unanswered m
none_came r m number ack bytes call a s xid acknowledged kept some none =
    subst (λ (o : Option (List ℕ)). Refuses r number ack o Unanswered m) (sym none) (inr (record {
      call = call;
      acknowledgement = a;
      between = m;
      acknowledged = acknowledged;
      stops = ((one_owed call s xid kept some).0, refl);
    }))

-- It is answered.
pub is_answered : (r m r' : RemoteParts) (number : ℕ) (ack : List ℕ) (bytes : Option (List ℕ))
    (call : Envelope)
    (a : Ack) (s : Sent) (xid reply body receipt : List ℕ)
    → IsAcknowledged r number ack call a m
    → IsKeptOf call s
    → s.xid ≡ Some xid
    → bytes ≡ Some reply
    → IsReplied m call a reply body receipt r'
    → Accepts r number ack bytes (Some body) receipt r'
is_answered r m r' number ack bytes call a s xid reply body receipt acknowledged kept some came replied =
    subst (λ (o : Option (List ℕ)). Accepts r number ack o (Some body) receipt r') (sym came) (record {
      call = call;
      acknowledgement = a;
      between = m;
      acknowledged = acknowledged;
      owed = (one_owed call s xid kept some).0;
      replied = replied;
    })

-- where a reply is owed, why it isn't taken
at_reply : (m : RemoteParts) (call : Envelope) (a : Ack) (bytes : List ℕ) (fault : AcceptFault)
    (r' : RemoteParts)
    → IsOwed call.body
    → RefusesReply m call a bytes fault r'
    → StopsAtReply m call a (Some bytes) fault r'
at_reply m call a bytes NotAcknowledged r' owed x = (owed, x)
at_reply m call a bytes AcknowledgedTwice r' owed x = (owed, x)
at_reply m call a bytes Unanswered r' owed x = (owed, x)
at_reply m call a bytes NotOwed r' owed x = absurd x
at_reply m call a bytes (AnotherCall place) r' owed x = (owed, x)
at_reply m call a bytes (Repeated place) r' owed x = (owed, x)
at_reply m call a bytes KeysUsedUp r' owed x = (owed, x)
at_reply m call a bytes NoNumbers r' owed x = (owed, x)
at_reply m call a bytes NoMemory r' owed x = (owed, x)

-- It isn't answered.
pub not_answered : (r m r' : RemoteParts) (number : ℕ) (ack : List ℕ) (bytes : Option (List ℕ))
    (call : Envelope)
    (a : Ack) (s : Sent) (xid reply : List ℕ) (fault : AcceptFault)
    → IsAcknowledged r number ack call a m
    → IsKeptOf call s
    → s.xid ≡ Some xid
    → bytes ≡ Some reply
    → RefusesReply m call a reply fault r'
    → Refuses r number ack bytes fault r'
not_answered r m r' number ack bytes call a s xid reply fault acknowledged kept some came refused =
    subst (λ (o : Option (List ℕ)). Refuses r number ack o fault r') (sym came) (inr (record {
      call = call;
      acknowledgement = a;
      between = m;
      acknowledged = acknowledged;
      stops = at_reply m call a reply fault r' (one_owed call s xid kept some).0 refused;
    }))
