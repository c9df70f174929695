use Rattle.std.proofs.Common.{◌≡◌, ◌+◌, length}
use Rattle.sha256_lanes.specs.Lanes.{HasSums, KeepsOthers}
use Rattle.sha256_lanes.proofs.schedules.set_sixteen.Given as goal

abbrev pub invariant-words : goal.invariant-words
invariant-words l = record {
  size : length l.sums ≡ 256;
  set : HasSums l.w l.fn.sums l.l l.first → HasSums l.w l.sums l.l (l.first + l.i);
  others : KeepsOthers l.l l.fn.sums l.sums;
}
