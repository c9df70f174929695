use Rattle.std.proofs.Common.{◌≡◌, ◌+◌, ◌/◌, [], ◌++◌, length, slice_index_or, length-append, arith}
use Rattle.sha2.specs.Sha256.{hash_after, initial_hash_256}
use Rattle.sha256_lanes.proofs.OneBlock.{length-hash_after, one_more_block}
use Rattle.sha256_lanes.proofs.long_messages.FourMessages.update.Goals as goal

-- each lane holds its message with its block
pub returns : goal.returns
returns c = λ l m lane held.
    let b = slice_index_or c.args.blocks.now l [] in
    let block = c.words_of.ensures l lane in
    let h = hash_after initial_hash_256 m (length m / 64) in
    let len : length (m ++ b) ≡ length m + length b = length-append m b in
    let one = one_more_block initial_hash_256 m b held.whole block.size in
    let next = c.hash_values-self.ensures l h b lane (length-hash_after m _) held.hash block in
    record {
      whole = omega (arith, held.whole, block.size);
      count = omega (arith, held.count, block.size);
      hash = rw one next;
    }
