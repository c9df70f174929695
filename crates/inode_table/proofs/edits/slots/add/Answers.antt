use Rattle.std.proofs.Common.{refl}
use Rattle.inode_table.proofs.OfEdits.EditedInodes.{adds_inode}
use Rattle.inode_table.proofs.edits.slots.add.Goals as goal

pub returns-clause-ok : goal.returns-clause-ok
returns-clause-ok c =
    adds_inode c.args.inodes.now.entries c.insert.new.self.entries c.args.number _
    c.in_ok-insert.ensures.updates.0 c.args.inode refl
