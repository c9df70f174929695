use Rattle.std.proofs.Common.{refl}
use Rattle.inode_table.proofs.OfEdits.EditedInodes.{removes_inode}
use Rattle.inode_table.proofs.edits.slots.remove.Goals as goal

-- the map without the number is that of the other inodes
pub returns : goal.returns
returns c =
    removes_inode c.args.inodes.now.entries c.remove.new.self.entries c.args.number _
    c.remove.ensures.updates.0 refl
