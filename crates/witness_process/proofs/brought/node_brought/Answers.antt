use Rattle.std.proofs.Common.{◌∙◌, Some, ap, arith, sym}
use Rattle.witness_process.proofs.OfPackets.{whose_node}
use Rattle.witness_process.proofs.brought.node_brought.Goals as goal

pub returns-in-Some : goal.returns-in-Some
returns-in-Some c = λ ms own e.
    let found = whose_node ms c.args.packet.now own (λ i. omega (arith, c.type_inv.packet i)) e in
    c.in-Some.ensures found.0 found.1.0 ∙ ap (λ n. Some n) (sym found.1.1)

pub returns-in-None : goal.returns-in-None
returns-in-None c = λ ms own e.
    let found = whose_node ms c.args.packet.now own (λ i. omega (arith, c.type_inv.packet i)) e in
    c.in-None.ensures found.0 found.1.0 ∙ ap (λ n. Some n) (sym found.1.1)
