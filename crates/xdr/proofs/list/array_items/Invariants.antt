use Rattle.std.proofs.Common.{map}
use Rattle.xdr.specs.Reading.{read_at}
use Rattle.xdr.specs.ArraysAndUnions.{Continues}
use Rattle.xdr.proofs.list.array_items.Given as goal

abbrev pub invariant-loop : goal.invariant-loop
invariant-loop g l =
    Continues (read_at g.T.FromXdr.item)
    (map g.T.FromXdr.value l.items.items) l.count l.counter l.reader l.initial.reader
