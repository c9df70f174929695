use Rattle.std.proofs.Common.{rules}
use Rattle.xdr.specs.Reading.{number_at}
use Rattle.packets.specs.Packet.{delivery_of}
use Rattle.packets.specs.Judging.{judged}
use Rattle.witness_examples.proofs.rows.histories_are_possible.Goals as goal

-- each reply of the history is worked out
pub returns : goal.returns
unfolding judged delivery_of number_at
returns c = search rules
