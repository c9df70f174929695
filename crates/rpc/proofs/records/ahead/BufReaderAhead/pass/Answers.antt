use Rattle.std.specs.Io.Buffered.{reader_buffer}
use Rattle.rpc.proofs.OfRecords.Passing.{passed}
use Rattle.rpc.proofs.records.ahead.BufReaderAhead.pass.Goals as goal

-- what is consumed is the front of the buffer
pub returns : goal.returns
returns g c =
    let front = rw c.at_hand-ahead.ensures.bytes at c.at_hand-ahead.ensures.front in
    passed _ _ (reader_buffer c.args.self.now) _ front c.requires c.consume.ensures.bytes
