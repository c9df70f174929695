use Rattle.std.proofs.Common.{option_map, refl, sym, ap, ◌∙◌}
use Rattle.tree_rules.specs.inodes.Inodes.{file_in}
use Rattle.inode_table.proofs.OfEdits.EditedInodes.{removes_inode}
use Rattle.inode_table.proofs.edits.slots.remove_file.Goals as goal

pub blocks-requires : goal.blocks-requires
blocks-requires c =
    c.requires (file_in c.in-Some.inode)
    (ap (option_map file_in) (sym c.remove.ensures.value ∙ c.in-Some.is))

pub returns-in-Some-clause-change : goal.returns-in-Some-clause-change
returns-in-Some-clause-change c =
    removes_inode c.args.inodes.now.entries c.remove.new.self.entries c.args.number _
    c.remove.ensures.updates.0 refl

pub returns-in-None-clause-change : goal.returns-in-None-clause-change
returns-in-None-clause-change c =
    removes_inode c.args.inodes.now.entries c.remove.new.self.entries c.args.number _
    c.remove.ensures.updates.0 refl
