use Rattle.std.proofs.Common.{◌≡◌, ℕ, ◌+◌, ◌*◌, ◌%◌, List, ◌++◌, take}
use Rattle.sha256_lanes.specs.OneMessage.{HoldsMessage}
use Rattle.sha256_lanes.proofs.one_message.OneMessage.update.Given as goal

abbrev pub invariant-fours : goal.invariant-fours
invariant-fours l = record {
  none : l.self.length % 256 ≡ 0;
  holds : (m : List ℕ) → HoldsMessage l.fn.self m
      → HoldsMessage l.self (m ++ take (l.room + 256 * l.i) l.data);
}
