use Rattle.std.proofs.Common.{◌≡◌, ℕ, ◌+◌, All, vec_len}
use Rattle.hand_off.specs.Seats.{count, idle_at}
use Rattle.replay_pool.proofs.slots.retire_all.Given as goal

abbrev pub invariant-loop-seat : goal.invariant-loop-seat
invariant-loop-seat l = record {
  slots : l.poster.slots ≡ l.initial.poster.slots;
  jobs : l.poster.jobs ≡ l.initial.poster.jobs;
  idle : All (λ w. w ≡ idle_at l.hand_off) l.seats.items;
  workers : (r : ℕ) × (r + vec_len l.seats ≡ vec_len l.fn.seats) × All (λ c. c ≡ count (vec_len l.fn.seats) r) l.poster.workers;
}

abbrev pub decreases-loop-seat : goal.decreases-loop-seat
decreases-loop-seat l = vec_len l.seats
