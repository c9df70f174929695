use Rattle.std.proofs.Common.{◌-◌, is_some, refl, sym, ap, ◌∙◌}
use Rattle.std.specs.Option.{option_copied_mut}
use Rattle.tree_rules.specs.inodes.declared.inode.Inode.{Inode}
use Rattle.inode_table.proofs.OfEdits.EditedInodes.{changes_links}
use Rattle.inode_table.proofs.edits.slots.drop_link.Goals as goal

pub returns-in-Some-clause-others : goal.returns-in-Some-clause-others
returns-in-Some-clause-others c =
    let there = sym c.get_mut.ensures.value ∙ ap option_copied_mut c.in-Some.is in
    let inode : Inode = record c.in-Some.inode.now { nlink = c.in-Some.inode.now.nlink - 1 } in
    let held = c.get_mut.follows.holds inode in
    changes_links c.args.inodes.now.entries _ c.args.number _ (held.3 (ap is_some there)).0
    c.in-Some.inode.now inode there refl refl refl
