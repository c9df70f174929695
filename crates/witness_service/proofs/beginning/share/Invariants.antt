use Rattle.std.proofs.Common.{◌≡◌, take}
use Rattle.witness_books.specs.Books.{bases_in}
use Rattle.witness_service.proofs.beginning.share.Given as goal

abbrev pub invariant-loop-base : goal.invariant-loop-base
invariant-loop-base l = bases_in l.shared.items ≡ bases_in (take l.base-index l.bases)
