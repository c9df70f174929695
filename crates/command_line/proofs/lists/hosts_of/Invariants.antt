use Rattle.std.proofs.Common.{◌≡◌, ◌++◌, length, map}
use Rattle.command_line.specs.Lists.{items_of, left_of}
use Rattle.command_line.proofs.lists.hosts_of.Given as goal

abbrev pub invariant-loop-item : goal.invariant-loop-item
invariant-loop-item l = items_of l.fn.list ≡ map (λ s. s.now) l.hosts.items ++ left_of l.items

abbrev pub decreases-loop-item : goal.decreases-loop-item
decreases-loop-item l = length (left_of l.items)
