use Rattle.std.proofs.Common.{◌≡◌, take}
use Rattle.witness_books.specs.Books.{bases_in}
use Rattle.witness_service.proofs.beginning.are_same.Given as goal

abbrev pub invariant-loop-place : goal.invariant-loop-place
invariant-loop-place l = bases_in (take l.place l.own) ≡ bases_in (take l.place l.other)
