-- Calls of a client that lies under a lock.
-- Serves: Caller::begin, take, SharedRemote::call_once, call, carry.
use Rattle.std.proofs.Common.{◌≡◌, refl, subst, sym, ℕ, List, Result, Ok, Err, Option}
use Rattle.std.specs.Option.{option_map}
use Rattle.std.specs.Prelude.{IfErr, IfOk}
use Rattle.gateway.specs.declared.links.fault.LinkFault.{LinkFault}
use Rattle.gateway.specs.declared.links.fault.LinkFault.TheVariants as link_faults
use Rattle.nodes.specs.Shareds.{HasNotStrayed}
use Rattle.remote.specs.Answers.{Accepts, Refuses}
use Rattle.remote.specs.Links.{call_fault}
use Rattle.remote.specs.declared.call_fault.CallFault.{CallFault}
use Rattle.remote.specs.declared.call_fault.CallFault.TheVariants.{NotBegun, Uncarried, Refused}
use Rattle.remote.specs.declared.fault.AcceptFault.{AcceptFault}
use Rattle.remote_sharing.specs.Clients.{BeginsBeside, ClientParts, IsInFlight, StopsBeside}
use Rattle.remote_sharing.specs.Shared.{IsBegunUnderLock, IsExchangedUnderLock, IsUnaccepted, IsUnbegun}
use Rattle.remote_sharing.specs.Shared.{BeginsNone, BeginsOne, LinkParts, StopsCall, StopsUnderLock, stopped, passed_since}
use Rattle.remote_sharing.specs.Rounds.{StopsCarrying}

-- A call is begun.
pub begun_under_lock : {X : Type 0} (number : X → ℕ) (c c' : ClientParts) (body text : List ℕ)
    (result : Result X LinkFault)
    → IfOk result (λ p. BeginsBeside c body (number p) text c')
    → IfOk result (λ p. IsBegunUnderLock body (number p))
begun_under_lock number c c' body text (Err f) begun = tt
begun_under_lock number c c' body text (Ok p) begun =
    record { before = c; after = c'; text = text; begun = begun }

-- None is begun.
pub unbegun : {X : Type 0} (c c' : ClientParts) (body : List ℕ) (result : Result X LinkFault)
    → IfErr result (λ f. StopsBeside c body f c')
    → IfErr result (λ f. IsUnbegun body f)
unbegun c c' body (Ok p) stops = tt
unbegun c c' body (Err f) stops = record { before = c; after = c'; stops = stops }

-- It is answered.
pub exchanged_under_lock : {X : Type 0} (items : X → List ℕ) (c c' : ClientParts) (body : List ℕ) (number : ℕ)
    (ack : List ℕ) (bytes : Option (List ℕ)) (receipt : List ℕ) (result : Result (Option X) AcceptFault)
    → IsBegunUnderLock body number
    → IsInFlight c number body
    → HasNotStrayed c'.remote.client
    → IfOk result (λ o. Accepts c.remote number ack bytes (option_map items o) receipt c'.remote)
    → IfOk result (λ o. IsExchangedUnderLock body (option_map items o))
exchanged_under_lock items c c' body number ack bytes receipt (Err f) begun in_flight honest accepted = tt
exchanged_under_lock items c c' body number ack bytes receipt (Ok o) begun in_flight honest accepted = ∣ record {
  number = number;
  begun = begun;
  before = c;
  after = c';
  in_flight = in_flight;
  ack = ack;
  bytes = bytes;
  receipt = receipt;
  accepted = accepted;
  honest = honest;
} ∣₁

-- What came back is refused.
pub unaccepted : {X : Type 0} (c c' : ClientParts) (body : List ℕ) (number : ℕ) (ack : List ℕ)
    (bytes : Option (List ℕ)) (result : Result X AcceptFault)
    → IsBegunUnderLock body number
    → IsInFlight c number body
    → HasNotStrayed c'.remote.client
    → IfErr result (λ why. Refuses c.remote number ack bytes why c'.remote)
    → IfErr result (λ why. IsUnaccepted body why)
unaccepted c c' body number ack bytes (Ok o) begun in_flight honest refused = tt
unaccepted c c' body number ack bytes (Err why) begun in_flight honest refused = record {
  number = number;
  begun = begun;
  before = c;
  after = c';
  in_flight = in_flight;
  refused = record { ack = ack; bytes = bytes; refused = refused };
  honest = honest;
}

-- A call that was begun gave no answer.
pub stops_begun : (l l' : LinkParts) (body : List ℕ) (number : ℕ) (why : CallFault)
    → IsBegunUnderLock body number
    → BeginsOne l l'
    → StopsCarrying body why
    → StopsCall l body why l'
stops_begun l l' body number (NotBegun fault) begun one stops = absurd stops
stops_begun l l' body number (Uncarried fault) begun one stops = (one, (number, begun))
stops_begun l l' body number (Refused why) begun one stops = (one, stops)

-- Its fault, as one of the link, which begins no other.
pub stops_under_lock : (l between l' : LinkParts) (body : List ℕ) (why : CallFault) (fault : LinkFault)
    → StopsCall l body why between
    → BeginsNone between l'
    → fault ≡ call_fault why
    → StopsUnderLock l body fault l'
stops_under_lock l between l' body why fault stops none told =
    stopped why (subst (λ (x : LinkParts). StopsCall l body why x) (sym none) stops) told

-- Another connection gets its reply.
pub passed_on : (l l' : LinkParts) (body : List ℕ) (reply : Option (List ℕ))
    → BeginsOne l l'
    → IsExchangedUnderLock body reply
    → StopsUnderLock l body link_faults.Failed l'
passed_on l l' body reply one exchanged = passed_since one reply exchanged refl
