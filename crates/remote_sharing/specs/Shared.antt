-- Calls of a client under a lock that several local programs use: what lies there where a call is begun, and where its
-- answer is taken. What others do to it between the two is open.
use Rattle.std.specs.Prelude.{◌≡◌, ◌⊎◌, ◌+◌, ◌%◌, ◌^◌, ℕ, List, Option, refl}
use Rattle.std.specs.Coded.{Coded, code_by, coded×, coded_ℕ}
use Rattle.nfs_items.specs.Timeval.{Timeval}
use Rattle.gateway.specs.declared.links.fault.LinkFault.{LinkFault}
use Rattle.gateway.specs.declared.links.fault.LinkFault.TheVariants as link_faults
use Rattle.nodes.specs.Shareds.{HasNotStrayed}
use Rattle.remote.specs.Answers.{Accepts}
use Rattle.remote.specs.Links.{IsRefused, call_fault}
use Rattle.remote.specs.declared.call_fault.CallFault.{CallFault}
use Rattle.remote.specs.declared.call_fault.CallFault.TheVariants.{NotBegun, Uncarried, Refused}
use Rattle.remote.specs.declared.fault.AcceptFault.{AcceptFault}
use Rattle.remote_sharing.specs.Clients.{BeginsBeside, ClientParts, IsInFlight, StopsBeside}

-- Under the lock lay a client that began a call of this body, with this number.
pub record IsBegunUnderLock (body : List ℕ) (number : ℕ) : Type 0 where
  pub before : ClientParts
  pub after : ClientParts
  pub text : List ℕ
  pub begun : BeginsBeside before body number text after

-- The call was begun. Later a client lay under the lock that has it in flight, and in whose log it stands, as a SEND of
-- this very body; and which handed this out of what came back.
pub record MakesExchange (body : List ℕ) (reply : Option (List ℕ)) : Type 0 where
  pub number : ℕ
  pub begun : IsBegunUnderLock body number
  pub before : ClientParts
  pub after : ClientParts
  pub in_flight : IsInFlight before number body
  pub ack : List ℕ
  pub bytes : Option (List ℕ)
  pub receipt : List ℕ
  pub accepted : Accepts before.remote number ack bytes reply receipt after.remote
  pub honest : HasNotStrayed after.remote.client

-- There is such an exchange. Which one isn't kept: one connection may hand its reply to another, and of what comes
-- from another thread its type says no more.
abbrev pub IsExchangedUnderLock : (body : List ℕ) (reply : Option (List ℕ)) → Type 0
IsExchangedUnderLock body reply = ∥ MakesExchange body reply ∥₁

-- Under the lock lay a client that began no call of this body, with this fault.
pub record IsUnbegun (body : List ℕ) (fault : LinkFault) : Type 0 where
  pub before : ClientParts
  pub after : ClientParts
  pub stops : StopsBeside before body fault after

-- The call was begun. Later a client lay under the lock that has it in flight, and which refused what came back.
pub record IsUnaccepted (body : List ℕ) (why : AcceptFault) : Type 0 where
  pub number : ℕ
  pub begun : IsBegunUnderLock body number
  pub before : ClientParts
  pub after : ClientParts
  pub in_flight : IsInFlight before number body
  pub refused : IsRefused before.remote number why after.remote
  pub honest : HasNotStrayed after.remote.client

-- ---- how many calls were begun

-- what a link is of itself: how many ways to the server it has, and how many calls were begun for it, counted to 2^64
pub record LinkParts : Type 0 where
  pub ways : ℕ
  pub begun : ℕ

-- such values, coded by others
abbrev pub link_code : Coded LinkParts
link_code =
    code_by (ℕ × ℕ) (coded× coded_ℕ coded_ℕ) (λ l. (l.ways, l.begun))
    (λ p. record { ways = p.0; begun = p.1 }) (λ _. refl)

-- one call more
abbrev pub one_more : ℕ → ℕ
one_more n = (n + 1) % 2 ^ 64

-- No call was begun for the link.
abbrev pub BeginsNone : LinkParts → LinkParts → Type 0
BeginsNone l l' = l' ≡ l

-- One call was begun for it, and no other.
abbrev pub BeginsOne : LinkParts → LinkParts → Type 0
BeginsOne l l' = l' ≡ record { ways = l.ways; begun = one_more l.begun }

-- Why a call gave no answer. NotBegun: none was begun, by the client's fault, or since there is no way to the server.
-- Uncarried, Refused: one was begun; nothing came back for it, or what came was refused.
abbrev pub StopsCall : LinkParts → (body : List ℕ) → CallFault → LinkParts → Type 0
StopsCall l body (NotBegun fault) l' =
    BeginsNone l l' × (IsUnbegun body fault ⊎ ((fault ≡ link_faults.Failed) × (l.ways ≡ 0)))
StopsCall l body (Uncarried fault) l' = BeginsOne l l' × ((number : ℕ) × IsBegunUnderLock body number)
StopsCall l body (Refused why) l' = BeginsOne l l' × IsUnaccepted body why

-- A call of this body gave no answer, and this is its fault as one of the link. Or it belongs to another connection, as
-- it did before, so that none was begun, or as it does since it was begun: that one gets its reply.
pub data StopsUnderLock (l : LinkParts) (body : List ℕ) (fault : LinkFault) (l' : LinkParts) : Type 0 where
  stopped : (why : CallFault) → StopsCall l body why l' → fault ≡ call_fault why → StopsUnderLock l body fault l'
  passed_before : BeginsNone l l' → fault ≡ link_faults.Failed → StopsUnderLock l body fault l'
  passed_since : BeginsOne l l' → (reply : Option (List ℕ)) → IsExchangedUnderLock body reply
      → fault ≡ link_faults.Failed → StopsUnderLock l body fault l'

-- A call of this body gave this reply. It was begun for this link, or another one has made it, of the same bytes.
pub data IsAnswered (l : LinkParts) (body : List ℕ) (reply : Option (List ℕ)) (l' : LinkParts) : Type 0 where
  made : BeginsOne l l' → IsExchangedUnderLock body reply → IsAnswered l body reply l'
  made_by_another : BeginsNone l l' → IsExchangedUnderLock body reply → IsAnswered l body reply l'

-- the same, of a link at a time, which says nothing to it
abbrev pub Exchanges : LinkParts → Timeval → List ℕ → Option (List ℕ) → LinkParts → Type 0
Exchanges l time body reply l' = IsAnswered l body reply l'

abbrev pub Fails : LinkParts → Timeval → List ℕ → LinkFault → LinkParts → Type 0
Fails l time body fault l' = StopsUnderLock l body fault l'
