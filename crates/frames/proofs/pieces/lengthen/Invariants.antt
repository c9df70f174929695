use Rattle.std.proofs.Common.{◌≡◌, ◌++◌, replicate}
use Rattle.std.specs.Prelude.{vec_capacity}
use Rattle.frames.proofs.pieces.lengthen.Given as goal

abbrev pub invariant-loop : goal.invariant-loop
invariant-loop l =
    (l.joined.items ≡ l.initial.joined.items ++ replicate l.counter 0)
    × (vec_capacity l.joined ≡ vec_capacity l.initial.joined)
