use Rattle.std.proofs.Common.{sym, arith}
use Rattle.xdr.specs.Item.{fixed}
use Rattle.challenge.proofs.Suffixes.{leaves}
use Rattle.challenge.proofs.items.hash_in_front.Goals as goal

-- what was read is the hash in front, and the rest is as long as was said
pub returns : goal.returns
returns c = leaves (fixed 32) c.args.bytes.now c.rest.result.now _ (λ i. omega (arith, c.type_inv.bytes i))
    (rw (c.new-reader.ensures, sym c.rest.ensures) at c.in_ok-hash.ensures)
