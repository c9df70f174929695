-- What a witness that was closed has.
use Rattle.std.specs.Prelude.{List}
use Rattle.witness_service.specs.Claims.{Held, Fits, claims_of}
use Rattle.witness_service.specs.Closing.{IsFault}
use Rattle.witness_service.specs.Journals.{IsOneHistory, ServiceParts}
use Rattle.witness_service.specs.declared.shared.Closed.{Closed}
use Rattle.witness_service.specs.declared.shared.ReceiptFault.{ReceiptFault}
use Rattle.witness_service.specs.declared.shared.ReceiptFault.TheVariants.{NotInJournal, AnotherBeginning}

-- What its passes claim stands in its journal once, and no other step does.
pub record IsOneRun (c : Closed) : Type 0 where
  -- the passes fit the journal
  pub fits : Fits c.journal.places (claims_of c.passes.items)
  -- the journal is a history of one thread, for which its books stand
  pub history : IsOneHistory c.journal

-- the passes with which a witness was closed that has a fault
abbrev pub passes_in : ReceiptFault → List Held
passes_in (NotInJournal passes journal roster bases) = passes.items
passes_in (AnotherBeginning passes journal roster bases) = passes.items

-- It is the fault of some service that was closed with some passes: they don't fit its journal, or the
-- journal's books began otherwise than the service's.
abbrev pub IsFaulty : ReceiptFault → Type 0
IsFaulty fault = (service : ServiceParts) × (handed : List Held) × IsFault service handed fault
