use Rattle.std.proofs.Common.{length}
use Rattle.command_line.specs.Lists.{items_of, left_of}
use Rattle.command_line.proofs.Items.{IsRead}
use Rattle.command_line.proofs.lists.peers_of.Given as goal

abbrev pub invariant-loop-item : goal.invariant-loop-item
invariant-loop-item l = IsRead (items_of l.fn.list) (left_of l.items) l.peers.items

abbrev pub decreases-loop-item : goal.decreases-loop-item
decreases-loop-item l = length (left_of l.items)
