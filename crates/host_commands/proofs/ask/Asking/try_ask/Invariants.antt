-- What was found before counts on.
use Rattle.std.proofs.Common.{◌≤◌}
use Rattle.host_commands.specs.Findings.{rank}
use Rattle.host_commands.proofs.ask.Asking.try_ask.Given as goal

abbrev pub invariant-loop-node : goal.invariant-loop-node
invariant-loop-node g l = rank l.fn.self.worst ≤ rank l.self.worst
