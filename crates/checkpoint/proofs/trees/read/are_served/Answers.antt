use Rattle.checkpoint.proofs.OfTrees.GivenTrees.{bodies, rising, with_room}
use Rattle.checkpoint.proofs.trees.read.are_served.Goals as goal

pub total_usage-requires-clause-rising : goal.total_usage-requires-clause-rising
total_usage-requires-clause-rising c = rising c.requires.0 c.args.inodes.now c.requires.1

pub total_usage-requires-clause-bodies : goal.total_usage-requires-clause-bodies
total_usage-requires-clause-bodies c = bodies c.requires.0 c.args.inodes.now c.requires.1

pub is_tree-requires-clause-rising : goal.is_tree-requires-clause-rising
is_tree-requires-clause-rising c = rising c.requires.0 c.args.inodes.now c.requires.1

pub returns-in-Some : goal.returns-in-Some
returns-in-Some c = λ node next low each. with_room _ _ c.is_tree.result (c.is_tree.ensures node next each)
    (c.in-Some.ensures.room node next low).0
