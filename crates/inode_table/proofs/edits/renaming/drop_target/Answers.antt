use Rattle.inode_table.proofs.OfEdits.Dropped.{drops_some}
use Rattle.inode_table.proofs.edits.renaming.drop_target.Goals as goal

pub returns-in-Some : goal.returns-in-Some
returns-in-Some c =
    drops_some c.args.inodes.now.entries c.drop_replaced.new.inodes.entries c.args.now c.args.dir
    c.args.target
    c.in-Some.number c.drop_replaced.result c.in-Some.is c.drop_replaced.ensures
