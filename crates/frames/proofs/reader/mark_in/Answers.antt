use Rattle.std.proofs.Common.{arith}
use Rattle.rpc.proofs.OfRecords.Marks.{mark_is}
use Rattle.frames.proofs.reader.mark_in.Goals as goal

pub returns-in-Some-clause-text : goal.returns-in-Some-clause-text
returns-in-Some-clause-text c =
    mark_is _ _ _ c.requires (λ i. omega (arith, c.type_inv.bytes i)) (omega (arith, c.read_u32-word.ensures))

pub returns-in-None-clause-text : goal.returns-in-None-clause-text
returns-in-None-clause-text c =
    mark_is _ _ _ c.requires (λ i. omega (arith, c.type_inv.bytes i)) (omega (arith, c.read_u32-word.ensures))
