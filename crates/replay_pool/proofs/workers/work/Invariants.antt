use Rattle.std.proofs.Common.{◌≡◌}
use Rattle.replay_pool.proofs.workers.work.Given as goal

abbrev pub invariant-loop-slot : goal.invariant-loop-slot
invariant-loop-slot g l = l.seat ≡ l.initial.seat
