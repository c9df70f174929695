-- What is said in the place of what a witness would tell of a node.
-- Serves: Caller's told.
use Rattle.std.proofs.Common.{inr, List, ℕ, Result, Ok, Err}
use Rattle.std.specs.Prelude.{IfErr}
use Rattle.witness_books.specs.node_book.declared.reply.Indication.{Indication}
use Rattle.witness_books.specs.node_book.witness_spec.Events.{Ask, ItsIndication, ItsChallenges}
use Rattle.witness_service.specs.Claims.{Claim}
use Rattle.witness_calls.specs.Telling.{Says, Withholds}
use Rattle.witness_calls.specs.declared.said.Said.{Said}
use Rattle.witness_calls.specs.declared.said.Said.TheVariants as s
use Rattle.witness_calls.specs.declared.told.Told.{Told}

-- the open challenges weren't told, after the indication was
pub open_withheld : (old : List Claim) (node : ℕ) (i : Indication) (between new : List Claim) (r : Result Told Said)
    → Says old (Ask node ItsIndication) (s.Told i) between
    → IfErr r (λ said. Says between (Ask node ItsChallenges) said new)
    → IfErr r (λ said. Withholds old node said new)
open_withheld old node i between new (Ok told) first second = tt
open_withheld old node i between new (Err said) first second = inr (i, between, first, second)
