use Rattle.std.proofs.Common.{sym, arith}
use Rattle.challenge.proofs.Suffixes.{leaves}
use Rattle.challenge.proofs.items.front.Goals as goal

-- what was read is the item in front, and the rest is as long as was said
pub returns : goal.returns
returns g c = leaves g.T.FromXdr.item c.args.bytes.now c.rest.result.now _ (λ i. omega (arith, c.type_inv.bytes i))
    (rw (c.new-reader.ensures, sym c.rest.ensures) at c.in_ok-item.ensures)
