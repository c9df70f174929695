use Rattle.std.proofs.Common.{◌≡◌, length}
use Rattle.xdr.specs.Item.{word}
use Rattle.xdr.specs.Reading.{read_at}
use Rattle.xdr.specs.ArraysAndUnions.{Continues}
use Rattle.nfs_items.proofs.credential.read_groups.Given as goal

abbrev pub invariant-loop : goal.invariant-loop
invariant-loop l = record {
  count : length l.groups ≡ l.counter;
  text : Continues (read_at word) l.groups l.count l.counter l.reader l.initial.reader;
}
