use Rattle.std.proofs.Common.{map}
use Rattle.xdr.specs.Reading.{read_at}
use Rattle.xdr.specs.ArraysAndUnions.{Continues}
use Rattle.secure_log.specs.LogEntries.Entry.{entry_item, entry_value}
use Rattle.challenge.proofs.items.take_entries.Given as goal

abbrev pub invariant-loop : goal.invariant-loop
invariant-loop l = Continues (read_at entry_item) (map entry_value l.entries.items) l.count l.counter l.source l.initial.source
