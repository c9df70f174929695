use Rattle.std.proofs.Common.{◌≡◌, ◌≤◌, ◌+◌, ◌-◌, ◌*◌, ◌++◌, List, ℕ, length, vec_len, vec_capacity}
use Rattle.std.specs.List.{flat_map}
use Rattle.xdr.specs.Item.{number_spelling}
use Rattle.xdr.proofs.writer.add_u32s.Given as goal

abbrev pub invariant-loop-rest : goal.invariant-loop-rest
invariant-loop-rest l =
    (front : List ℕ) × (l.ns ≡ front ++ l.rest)
    × (l.out.items ≡ l.initial.out.items ++ flat_map (number_spelling 4) front)
    × (vec_capacity l.initial.out - vec_len l.initial.out
    ≤ vec_capacity l.out - vec_len l.out + 4 * length front)

abbrev pub decreases-loop-rest : goal.decreases-loop-rest
decreases-loop-rest l = length l.rest
