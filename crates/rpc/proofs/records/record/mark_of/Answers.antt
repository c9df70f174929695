use Rattle.std.proofs.Common.{arith}
use Rattle.rpc.proofs.OfRecords.Marks.{mark_is}
use Rattle.rpc.proofs.records.record.mark_of.Goals as goal

pub returns-then-word-lt-LAST-clause-text : goal.returns-then-word-lt-LAST-clause-text
returns-then-word-lt-LAST-clause-text c =
    mark_is _ _ _ c.requires (λ i. omega (arith, c.type_inv.bytes i)) (omega (arith, c.read_u32-word.ensures))

pub returns-else-word-lt-LAST-clause-text : goal.returns-else-word-lt-LAST-clause-text
returns-else-word-lt-LAST-clause-text c =
    mark_is _ _ _ c.requires (λ i. omega (arith, c.type_inv.bytes i)) (omega (arith, c.read_u32-word.ensures))
