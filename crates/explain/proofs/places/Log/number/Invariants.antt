use Rattle.explain.specs.Numbers.{IsNumber, next_number}
use Rattle.explain.proofs.places.Log.number.Given as goal

abbrev pub invariant-loop-place : goal.invariant-loop-place
invariant-loop-place l =
    IsNumber l.numbers.next (next_number l.self.audited.now.first l.self.audited.now.entries l.place)
