use Rattle.std.proofs.Common.{◌≡◌, false, length}
use Rattle.xdr.specs.Reading.{read_at}
use Rattle.xdr.specs.ArraysAndUnions.{Continues}
use Rattle.authenticator.specs.Roster.{member_item, member_values, some_gaps}
use Rattle.authenticator.proofs.listed.read_members.Given as goal

abbrev pub invariant-loop : goal.invariant-loop
invariant-loop l = record {
  read : Continues (read_at member_item) (member_values l.members.items) l.count l.counter l.reader
      l.initial.reader;
  count : length l.members.items ≡ l.counter;
  logs : some_gaps l.members.items ≡ false;
}
