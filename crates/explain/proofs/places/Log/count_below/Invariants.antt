use Rattle.std.proofs.Common.{◌<◌, ℕ}
use Rattle.explain.specs.Numbers.{IsNumber, next_number, number_at}
use Rattle.explain.proofs.places.Log.count_below.Given as goal

abbrev pub invariant-loop-at : goal.invariant-loop-at
invariant-loop-at l = record {
  next : IsNumber l.numbers.next (next_number l.self.audited.now.first l.self.audited.now.entries l.at);
  below : (at : ℕ) → at < l.at → number_at l.self.audited.now.first l.self.audited.now.entries at < l.number;
}
