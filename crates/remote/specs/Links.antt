-- A call that is carried to the server and back, and its faults as those of a link.
use Rattle.std.specs.Prelude.{ℕ, List, Option}
use Rattle.gateway.specs.declared.links.fault.LinkFault.{LinkFault}
use Rattle.gateway.specs.declared.links.fault.LinkFault.TheVariants as link_faults
use Rattle.remote.specs.Remotes.{RemoteParts}
use Rattle.remote.specs.Calls.{IsBegun}
use Rattle.remote.specs.Answers.{Accepts, Refuses}
use Rattle.remote.specs.declared.fault.AcceptFault.{AcceptFault}
use Rattle.remote.specs.declared.fault.AcceptFault.TheVariants.{NotAcknowledged, AcknowledgedTwice}
use Rattle.remote.specs.declared.fault.AcceptFault.TheVariants.{Unanswered}
use Rattle.remote.specs.declared.fault.AcceptFault.TheVariants.{NotOwed, AnotherCall, Repeated, KeysUsedUp}
use Rattle.remote.specs.declared.fault.AcceptFault.TheVariants.{NoNumbers, NoMemory}
use Rattle.remote.specs.declared.call_fault.CallFault.{CallFault}
use Rattle.remote.specs.declared.call_fault.CallFault.TheVariants.{NotBegun, Uncarried, Refused}
use Rattle.remote.specs.declared.courier.CourierFault.{CourierFault}
use Rattle.remote.specs.declared.courier.CourierFault.TheVariants as couriers

-- After these faults the same envelope is sent again.
abbrev pub MayBeSentAgain : AcceptFault → Type 0
MayBeSentAgain NotAcknowledged = Unit {0}
MayBeSentAgain Unanswered = Unit {0}
MayBeSentAgain AcknowledgedTwice = ⊥
MayBeSentAgain NotOwed = ⊥
MayBeSentAgain (AnotherCall place) = ⊥
MayBeSentAgain (Repeated place) = ⊥
MayBeSentAgain KeysUsedUp = ⊥
MayBeSentAgain NoNumbers = ⊥
MayBeSentAgain NoMemory = ⊥

-- why bytes were refused, as a fault of the link
abbrev pub link_fault : AcceptFault → LinkFault
link_fault NotAcknowledged = link_faults.Failed
link_fault AcknowledgedTwice = link_faults.Failed
link_fault Unanswered = link_faults.Failed
link_fault NotOwed = link_faults.Failed
link_fault (AnotherCall place) = link_faults.Failed
link_fault (Repeated place) = link_faults.Failed
link_fault KeysUsedUp = link_faults.KeysUsedUp
link_fault NoNumbers = link_faults.Failed
link_fault NoMemory = link_faults.NoMemory

-- a fault of a courier as one of the link
abbrev pub courier_fault : CourierFault → LinkFault
courier_fault couriers.KeysUsedUp = link_faults.KeysUsedUp
courier_fault couriers.Refused = link_faults.Failed
courier_fault couriers.Lost = link_faults.Failed
courier_fault couriers.NoMemory = link_faults.NoMemory

-- An exchange that gave an answer, with nothing else between: the call was begun, and an answer was accepted of
-- bytes that came back.
pub record IsExchanged (r : RemoteParts) (body : List ℕ) (reply : Option (List ℕ)) (r' : RemoteParts)
    : Type 0 where
  pub number : ℕ
  pub text : List ℕ
  pub between : RemoteParts
  pub begun : IsBegun r body number text between
  pub ack : List ℕ
  pub bytes : Option (List ℕ)
  pub receipt : List ℕ
  pub accepted : Accepts between number ack bytes reply receipt r'

-- Bytes came back that were refused.
pub record IsRefused (r : RemoteParts) (number : ℕ) (why : AcceptFault) (r' : RemoteParts) : Type 0 where
  pub ack : List ℕ
  pub bytes : Option (List ℕ)
  pub refused : Refuses r number ack bytes why r'

-- a fault of a call as one of the link
abbrev pub call_fault : CallFault → LinkFault
call_fault (NotBegun fault) = fault
call_fault (Uncarried fault) = courier_fault fault
call_fault (Refused why) = link_fault why
