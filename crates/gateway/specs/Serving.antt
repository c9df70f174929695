-- What a gateway owes.
use Rattle.std.specs.Prelude.{◌≡◌, ℕ, List, [], ◌∷◌, ◌++◌, length, map, Option, Some, None, IfSome, ⊤}
use Rattle.std.specs.Prelude.{Result, Err}
use Rattle.rpc.specs.declared.records.fault.RecordFault.{RecordFault}
use Rattle.rpc.specs.declared.records.fault.RecordFault.TheVariants as reader_faults
use Rattle.stream_spec.specs.Streams.{StopsBeforeReply}
use Rattle.stream_spec.specs.InTurn.{with_times}
use Rattle.stream_spec.specs.Faults as streams
use Rattle.stream_spec.specs.Faults.{StandsWell}
use Rattle.nfs_items.specs.Timeval.{Timeval}
use Rattle.server_spec.specs.World.{World}
use Rattle.server_spec.specs.Owed.{record_of, replies_owed, world_after_all}
use Rattle.gateway.specs.Links.Readings.{Readings, IsAfter}
use Rattle.gateway.specs.Links.Exchanges.{Exchange, calls_of, LeadsTo}
use Rattle.gateway.specs.declared.links.fault.LinkFault.{LinkFault}
use Rattle.gateway.specs.Faults.{of_link}
use Rattle.gateway.specs.declared.fault.StreamFault.{StreamFault}
use Rattle.gateway.specs.declared.fault.StreamFault.TheVariants as faults

-- what is owed to records, from this world on, at these readings in order
abbrev pub text_owed : World → Readings → List (List ℕ) → List ℕ
text_owed w readings records = replies_owed w (with_times readings 0 records)

-- What the link and the clock tell then: each record that was taken had a reading of its own; where all of
-- them were answered, the world is the one after them. After a fault of the link nothing is said of it.
pub record LinkStandsAfter (w : World) (readings : Readings) (world' : Option World)
    (readings' : Option Readings) (answered unanswered : List (List ℕ)) : Type 0 where
  pub readings_taken : IsAfter (length (answered ++ unanswered)) readings readings'
  pub world_is : unanswered ≡ [] → world' ≡ Some (world_after_all w (with_times readings 0 answered))

-- This holds of the world and the readings that are told, where both are.
abbrev pub IfTold : Option World → Option Readings → (World → Readings → Type 0) → Type 0
IfTold None readings P = ⊤
IfTold (Some w) None P = ⊤
IfTold (Some w) (Some f) P = P w f

-- ---- any link: `Exchanges` and `Fails` say where an exchange of it leads, answered or with a fault

-- the text of the replies that came to these records, which are the first of these exchanges
abbrev pub text_given : List Exchange → List (List ℕ) → List ℕ
text_given made [] = []
text_given [] (r ∷ rs) = []
text_given (e ∷ es) (r ∷ rs) = record_of e.reply ++ text_given es rs

-- The link was handed each of these records once, in order, the k-th at the clock's k-th reading; these are
-- its exchanges.
pub record AreExchanged {Link : Type 0}
    (Exchanges : Link → Timeval → List ℕ → Option (List ℕ) → Link → Type 0)
    (link link' : Link) (readings : Option Readings) (made : List Exchange) (records : List (List ℕ))
    : Type 0 where
  pub records_are : map (λ e. e.bytes) made ≡ records
  pub calls_are : IfSome readings (λ f. calls_of made ≡ with_times f 0 records)
  pub reached : LeadsTo Exchanges link made link'

-- Then it was handed one record more, at the next reading, and that exchange failed; its fault is the answer.
pub record FailsAfter {Link A : Type 0}
    (Exchanges : Link → Timeval → List ℕ → Option (List ℕ) → Link → Type 0)
    (Fails : Link → Timeval → List ℕ → LinkFault → Link → Type 0)
    (link link' : Link) (readings : Option Readings) (made : List Exchange) (result : Result A StreamFault)
    (answered : List (List ℕ)) (last : List ℕ) : Type 0 where
  pub between : Link
  pub are_exchanged : AreExchanged Exchanges link between readings made answered
  pub time : Timeval
  pub time_is : IfSome readings (λ f. time ≡ f (length answered))
  pub fault : LinkFault
  pub fails : Fails between time last fault link'
  pub result_is : result ≡ Err (of_link fault)

-- What was asked of a link and of a clock, before and after: an exchange for each record that was taken, and
-- no other; a reading for each, and no other. At most one record, the last, got no answer.
pub record IsAsked {Link A : Type 0}
    (Exchanges : Link → Timeval → List ℕ → Option (List ℕ) → Link → Type 0)
    (Fails : Link → Timeval → List ℕ → LinkFault → Link → Type 0)
    (link link' : Link) (readings readings' : Option Readings) (made : List Exchange)
    (result : Result A StreamFault) (answered unanswered : List (List ℕ)) : Type 0 where
  pub readings_taken : IfSome readings (λ f. IsAfter (length (answered ++ unanswered)) f readings')
  pub exchanged : unanswered ≡ [] → AreExchanged Exchanges link link' readings made answered
  pub failed : (last : List ℕ) → unanswered ≡ last ∷ []
      → FailsAfter Exchanges Fails link link' readings made result answered last

-- ---- faults

-- What was taken and written after a fault. Memory was refused to the reader, or to the link. Where the link
-- has another fault, the last record got no answer.
abbrev pub LeavesOff : StreamFault → Option RecordFault → (owed : List (List ℕ) → List ℕ)
    → (Leaves : List (List ℕ) → List (List ℕ) → Type 0) → (left left' before after : Option (List ℕ)) → Type 0
LeavesOff faults.RecordTooLong failed owed Leaves left left' before after =
    streams.LeavesOff reader_faults.RecordTooLong failed owed Leaves left left' before after
LeavesOff faults.Device failed owed Leaves left left' before after =
    streams.LeavesOff reader_faults.Device failed owed Leaves left left' before after
LeavesOff faults.EndInRecord failed owed Leaves left left' before after =
    streams.LeavesOff reader_faults.EndInRecord failed owed Leaves left left' before after
LeavesOff faults.KeysUsedUp failed owed Leaves left left' before after =
    StopsBeforeReply owed Leaves left left' before after
LeavesOff faults.NoMemory failed owed Leaves left left' before after =
    streams.LeavesOff reader_faults.NoMemory failed owed Leaves left left' before after
LeavesOff faults.Failed failed owed Leaves left left' before after =
    StopsBeforeReply owed Leaves left left' before after

-- What stands after a fault: the fault that the reader answers from then on, and the counts of the reader
-- and of the writer, before and after.
abbrev pub StandsAfter : StreamFault → Option RecordFault → (reads reads' writes writes' : ℕ) → Type 0
StandsAfter faults.RecordTooLong failed reads reads' writes writes' =
    streams.StandsAfter reader_faults.RecordTooLong failed reads reads' writes writes'
StandsAfter faults.Device failed reads reads' writes writes' =
    streams.StandsAfter reader_faults.Device failed reads reads' writes writes'
StandsAfter faults.EndInRecord failed reads reads' writes writes' =
    streams.StandsAfter reader_faults.EndInRecord failed reads reads' writes writes'
StandsAfter faults.KeysUsedUp failed reads reads' writes writes' =
    StandsWell failed reads reads' writes writes'
StandsAfter faults.NoMemory failed reads reads' writes writes' =
    streams.StandsAfter reader_faults.NoMemory failed reads reads' writes writes'
StandsAfter faults.Failed failed reads reads' writes writes' =
    StandsWell failed reads reads' writes writes'
