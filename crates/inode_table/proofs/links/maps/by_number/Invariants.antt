use Rattle.std.proofs.Common.{◌≡◌, ◌++◌, vec_len}
use Rattle.inode_table.proofs.links.maps.by_number.Given as goal

-- those that are left and those in the map are all
abbrev pub invariant-loop-number : goal.invariant-loop-number
invariant-loop-number l = l.inodes.items ++ l.map.entries ≡ l.initial.inodes.items

abbrev pub decreases-loop-number : goal.decreases-loop-number
decreases-loop-number l = vec_len l.inodes
