use Rattle.std.proofs.Common.{◌≡◌, ◌≤◌, ◌++◌, take, drop, length, vec_len, vec_capacity}
use Rattle.std.specs.List.{AllZip}
use Rattle.hand_off.specs.Seats.{none_at}
use Rattle.replay_pool.specs.Rounds.{IsBackAt}
use Rattle.replay_pool.proofs.slots.collect_all.Given as goal

abbrev pub invariant-loop-slot : goal.invariant-loop-slot
invariant-loop-slot l = record {
  slots : l.poster.slots ≡ l.initial.poster.slots;
  workers : l.poster.workers ≡ l.initial.poster.workers;
  jobs : l.poster.jobs ≡ take l.slot (none_at l.hand_off) ++ drop l.slot l.initial.poster.jobs;
  backs : AllZip IsBackAt (take l.slot l.initial.poster.jobs) l.backs.items;
  len : vec_len l.backs ≡ l.slot;
  room : length l.hand_off ≤ vec_capacity l.backs;
}
