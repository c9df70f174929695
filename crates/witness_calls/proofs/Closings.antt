-- What comes back of a witness that was closed.
-- Serves: close.
use Rattle.std.proofs.Common.{◌≡◌, List}
use Rattle.witness_service.specs.Claims.{Held, claims_of}
use Rattle.witness_service.specs.Closing.{IsFault}
use Rattle.witness_service.specs.Journals.{ServiceParts}
use Rattle.witness_service.specs.declared.shared.ReceiptFault.{ReceiptFault}
use Rattle.witness_service.specs.declared.shared.ReceiptFault.TheVariants.{NotInJournal, AnotherBeginning}
use Rattle.witness_calls.specs.Closing.{passes_in}

-- the passes that a fault gives back have the claims that were handed in
pub given_back : (service : ServiceParts) (handed : List Held) (f : ReceiptFault) → IsFault service handed f
    → claims_of (passes_in f) ≡ claims_of handed
given_back service handed (NotInJournal passes journal roster bases) h = h.back.claims
given_back service handed (AnotherBeginning passes journal roster bases) h = h.back.claims
