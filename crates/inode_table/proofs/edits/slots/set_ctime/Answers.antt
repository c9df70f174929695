use Rattle.std.proofs.Common.{is_some, refl, sym, ap, ◌∙◌}
use Rattle.std.specs.Option.{option_copied_mut}
use Rattle.nfs_count_laws.specs.nfs_spec.Changes.{with_ctime}
use Rattle.inode_table.proofs.OfEdits.EditedInodes.{changes_file, nothing_there, entries_same}
use Rattle.inode_table.proofs.edits.slots.set_ctime.Goals as goal

pub returns-in-Some : goal.returns-in-Some
returns-in-Some c =
    let there = sym c.get_mut.ensures.value ∙ ap option_copied_mut c.in-Some.is in
    let held = c.get_mut.follows.holds c.set_ctime.new.self in
    changes_file c.args.inodes.now.entries _ c.args.number _ (held.3 (ap is_some there)).0
    c.in-Some.inode.now c.set_ctime.new.self there refl (with_ctime c.args.now)
    c.set_ctime.ensures.file c.set_ctime.ensures.nlink c.set_ctime.ensures.parent

pub returns-in_default : goal.returns-in_default
returns-in_default c =
    let none = sym c.get_mut.ensures.value ∙ ap option_copied_mut c.in_default.is in
    nothing_there c.args.inodes.now.entries _ c.args.number (with_ctime c.args.now) none
    (entries_same _ _ c.get_mut.follows.holds-at-none)
