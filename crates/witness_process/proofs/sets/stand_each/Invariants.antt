use Rattle.std.proofs.Common.{take, All}
use Rattle.witness_process.specs.Answered.{OwnStand}
use Rattle.witness_process.proofs.sets.stand_each.Given as goal

abbrev pub invariant-loop-one : goal.invariant-loop-one
invariant-loop-one l = All OwnStand (take l.one-index l.own)
