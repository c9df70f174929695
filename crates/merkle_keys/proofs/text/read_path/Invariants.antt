use Rattle.std.proofs.Common.{◌≡◌, length}
use Rattle.xdr.specs.Item.{fixed}
use Rattle.xdr.specs.Reading.{read_at}
use Rattle.xdr.specs.ArraysAndUnions.{Continues}
use Rattle.merkle_keys.proofs.text.read_path.Given as goal

abbrev pub invariant-loop : goal.invariant-loop
invariant-loop l = record {
  count : length l.path.items ≡ l.counter;
  text : Continues (read_at (fixed 32)) l.path.items l.count l.counter l.reader l.initial.reader;
}
