use Rattle.std.proofs.Common.{◌≡◌, drop}
use Rattle.merkle_keys.specs.Tree.{path_end}
use Rattle.merkle_keys.proofs.tree.path_end.Given as goal

abbrev pub invariant-loop-other : goal.invariant-loop-other
invariant-loop-other l =
    path_end l.place l.own (drop l.other-index l.path) ≡ path_end l.fn.leaf l.fn.start l.path
