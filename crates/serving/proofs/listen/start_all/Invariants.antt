use Rattle.std.proofs.Common.{◌≤◌, vec_len, vec_capacity}
use Rattle.serving.proofs.listen.start_all.Given as goal

abbrev pub invariant-loop-place : goal.invariant-loop-place
invariant-loop-place g l = record {
  made : vec_len l.connections ≤ l.place;
  room : l.count ≤ vec_capacity l.connections;
}
