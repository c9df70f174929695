use Rattle.std.proofs.Common.{is_some, refl, sym, ap, ◌∙◌}
use Rattle.std.specs.Option.{option_copied_mut}
use Rattle.nfs_count_laws.specs.nfs_spec.Changes.{with_mtime}
use Rattle.inode_table.proofs.OfEdits.EditedInodes.{changes_file, nothing_there, entries_same}
use Rattle.inode_table.proofs.edits.slots.touch.Goals as goal

pub returns-in-Some : goal.returns-in-Some
returns-in-Some c =
    let there = sym c.get_mut.ensures.value ∙ ap option_copied_mut c.in-Some.is in
    let held = c.get_mut.follows.holds c.touch.new.self in
    changes_file c.args.inodes.now.entries _ c.args.number _ (held.3 (ap is_some there)).0
    c.in-Some.inode.now c.touch.new.self there refl (with_mtime c.args.now)
    c.touch.ensures.file c.touch.ensures.nlink c.touch.ensures.parent

pub returns-in_default : goal.returns-in_default
returns-in_default c =
    let none = sym c.get_mut.ensures.value ∙ ap option_copied_mut c.in_default.is in
    nothing_there c.args.inodes.now.entries _ c.args.number (with_mtime c.args.now) none
    (entries_same _ _ c.get_mut.follows.holds-at-none)
