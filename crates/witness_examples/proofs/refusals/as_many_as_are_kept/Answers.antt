use Rattle.std.proofs.Common.{arith}
use Rattle.witness_examples.proofs.Many.{each_noted, each_owed, full_refused}
use Rattle.witness_examples.proofs.refusals.as_many_as_are_kept.Goals as goal

pub returns-clause-noted : goal.returns-clause-noted
returns-clause-noted c = λ n h. each_noted n h

pub returns-clause-full : goal.returns-clause-full
returns-clause-full c = record { steps = each_owed 256 (omega arith); next = full_refused }
