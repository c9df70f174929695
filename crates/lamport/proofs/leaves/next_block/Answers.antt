use Rattle.std.proofs.Common.{arith}
use Rattle.lamport.proofs.FourLeaves.{next_block_is}
use Rattle.lamport.proofs.leaves.next_block.Goals as goal

-- the block and the byte that is left are the byte before and both hashes
pub returns : goal.returns
returns c =
    next_block_is c.args.last c.args.zero.now c.args.one.now _ _ (omega arith) (omega arith)
    c.copy_from_slice.ensures.after c.copy_from_slice-2.ensures.after
