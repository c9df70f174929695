use Rattle.std.proofs.Common.{is_some, refl, sym, ap, ◌∙◌}
use Rattle.std.specs.Option.{option_copied_mut}
use Rattle.inode_table.proofs.OfEdits.EditedInodes.{sets_parent, no_parent, entries_same}
use Rattle.inode_table.proofs.edits.slots.set_parent.Goals as goal

pub returns-in-Some : goal.returns-in-Some
returns-in-Some c =
    let there = sym c.get_mut.ensures.value ∙ ap option_copied_mut c.in-Some.is in
    let held = c.get_mut.follows.holds c.set_parent.new.self in
    sets_parent c.args.inodes.now.entries _ c.args.number _ (held.3 (ap is_some there)).0
    c.in-Some.inode.now c.set_parent.new.self there refl c.args.parent
    c.set_parent.ensures.file c.set_parent.ensures.nlink c.set_parent.ensures.parent

pub returns-in_default : goal.returns-in_default
returns-in_default c =
    let none = sym c.get_mut.ensures.value ∙ ap option_copied_mut c.in_default.is in
    no_parent c.args.inodes.now.entries _ c.args.number c.args.parent none
    (entries_same _ _ c.get_mut.follows.holds-at-none)
