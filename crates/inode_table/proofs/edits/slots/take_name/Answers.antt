use Rattle.std.proofs.Common.{is_some, refl, sym, ap, ◌∙◌}
use Rattle.std.specs.Option.{option_copied_mut}
use Rattle.fs_spec.specs.Listing.{without_entry}
use Rattle.fs_spec.specs.Changes.Edits.{map_listing}
use Rattle.inode_table.proofs.OfEdits.EditedInodes.{changes_file, nothing_there, entries_same}
use Rattle.inode_table.proofs.edits.slots.take_name.Goals as goal

pub returns-in-Some : goal.returns-in-Some
returns-in-Some c =
    let there = sym c.get_mut.ensures.value ∙ ap option_copied_mut c.in-Some.is in
    let held = c.get_mut.follows.holds c.take.new.self in
    changes_file c.args.inodes.now.entries _ c.args.dir _ (held.3 (ap is_some there)).0
    c.in-Some.inode.now c.take.new.self there refl (map_listing (λ l. without_entry l c.args.name.now))
    c.take.ensures.file c.take.ensures.nlink c.take.ensures.parent

pub returns-in_default : goal.returns-in_default
returns-in_default c =
    let none = sym c.get_mut.ensures.value ∙ ap option_copied_mut c.in_default.is in
    nothing_there c.args.inodes.now.entries _ c.args.dir
    (map_listing (λ l. without_entry l c.args.name.now)) none
    (entries_same _ _ c.get_mut.follows.holds-at-none)
