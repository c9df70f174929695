use Rattle.std.proofs.Common.{sym, arith}
use Rattle.xdr.specs.Item.{pair, optional}
use Rattle.authenticator.specs.Numbers.{number_item}
use Rattle.challenge.proofs.Suffixes.{leaves}
use Rattle.challenge.proofs.items.fork_in_front.Goals as goal

-- what was read is in front, and the rest is as long as was said
pub returns : goal.returns
returns g c = leaves (pair number_item (pair g.S.FromXdr.item (optional g.S.FromXdr.item))) c.args.bytes.now c.rest.result.now _ (λ i. omega (arith, c.type_inv.bytes i))
    (rw (c.new-reader.ensures, sym c.rest.ensures) at c.in_ok-fork.ensures)
