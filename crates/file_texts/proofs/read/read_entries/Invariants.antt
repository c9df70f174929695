use Rattle.xdr.specs.Reading.{read_at}
use Rattle.xdr.specs.ArraysAndUnions.{Continues}
use Rattle.tree_rules.specs.GivenListing.{said_entries}
use Rattle.server_spec.specs.FileItems.{entry_item}
use Rattle.file_texts.proofs.read.read_entries.Given as goal

abbrev pub invariant-loop : goal.invariant-loop
invariant-loop l =
    Continues (read_at entry_item) (said_entries l.entries.items) l.count l.counter l.reader l.initial.reader
