use Rattle.std.proofs.Common.{is_some, refl, sym, ap, ◌∙◌}
use Rattle.std.specs.Option.{option_copied_mut}
use Rattle.std.proofs.lemmas.Result.{on_ok_weaker, on_err_weaker}
use Rattle.fs_spec.specs.Listing.{with_entry}
use Rattle.fs_spec.specs.Changes.Edits.{map_listing}
use Rattle.inode_table.proofs.OfEdits.EditedInodes.{changes_file, alike, nothing_there, entries_same}
use Rattle.inode_table.proofs.edits.slots.put_name.Goals as goal

pub returns-in-Some-clause-ok : goal.returns-in-Some-clause-ok
returns-in-Some-clause-ok c =
    let there = sym c.get_mut.ensures.value ∙ ap option_copied_mut c.in-Some.is in
    let held = c.get_mut.follows.holds c.put.new.self in
    on_ok_weaker c.put.result
    (λ file. changes_file c.args.inodes.now.entries _ c.args.dir _ (held.3 (ap is_some there)).0
    c.in-Some.inode.now c.put.new.self there refl
    (map_listing (λ l. with_entry l c.args.name.items c.args.number))
    file c.put.ensures.nlink c.put.ensures.parent)
    c.put.ensures.file

pub returns-in-Some-clause-err : goal.returns-in-Some-clause-err
returns-in-Some-clause-err c =
    let there = sym c.get_mut.ensures.value ∙ ap option_copied_mut c.in-Some.is in
    let held = c.get_mut.follows.holds c.put.new.self in
    on_err_weaker c.put.result
    (λ file. alike c.args.inodes.now.entries _ c.args.dir _ (held.3 (ap is_some there)).0
    c.in-Some.inode.now c.put.new.self there refl
    file c.put.ensures.nlink c.put.ensures.parent)
    c.put.ensures.err

pub returns-in-None-clause-ok : goal.returns-in-None-clause-ok
returns-in-None-clause-ok c =
    let none = sym c.get_mut.ensures.value ∙ ap option_copied_mut c.in-None.is in
    nothing_there c.args.inodes.now.entries _ c.args.dir
    (map_listing (λ l. with_entry l c.args.name.items c.args.number)) none
    (entries_same _ _ c.get_mut.follows.holds-at-none)
