use Rattle.std.proofs.Common.{◌≡◌, ◌<◌, ◌≤◌, ℕ, true}
use Rattle.host_keys.specs.Spent.{has_begun}
use Rattle.host_keys.proofs.choice.first_free.Given as goal

abbrev pub invariant-loop-node : goal.invariant-loop-node
invariant-loop-node l = (k : ℕ) → l.first ≤ k → k < l.node → has_begun l.begun l.epoch k ≡ true
