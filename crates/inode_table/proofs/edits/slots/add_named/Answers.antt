use Rattle.std.proofs.Common.{◌∙◌}
use Rattle.inode_table.proofs.OfEdits.NamedInodes.{has_inode, listed_room, added_other, apart_from}
use Rattle.inode_table.proofs.OfEdits.NamedInodes.{taken_back}
use Rattle.inode_table.proofs.OfEdits.NamedInodes.{adds_named}
use Rattle.inode_table.proofs.edits.slots.add_named.Goals as goal

pub add_entry-requires-clause-there : goal.add_entry-requires-clause-there
add_entry-requires-clause-there c =
    let es = c.args.inodes.now.entries in
    let d = c.requires.directory in
    let added = c.in_ok-add.ensures.ok in
    let apart = apart_from es c.add.new.inodes.entries c.args.number c.args.inode added c.requires.free
    c.args.dir d.0 d.1 in
    has_inode c.add.new.inodes.entries c.args.dir d.0
    (added_other es c.add.new.inodes.entries c.args.number c.args.inode added c.args.dir apart ∙ d.1)

pub add_entry-requires-clause-room : goal.add_entry-requires-clause-room
add_entry-requires-clause-room c =
    let es = c.args.inodes.now.entries in
    let d = c.requires.directory in
    let added = c.in_ok-add.ensures.ok in
    let apart = apart_from es c.add.new.inodes.entries c.args.number c.args.inode added c.requires.free
    c.args.dir d.0 d.1 in
    listed_room c.add.new.inodes.entries c.args.dir d.0
    (added_other es c.add.new.inodes.entries c.args.number c.args.inode added c.args.dir apart ∙ d.1) d.2

pub returns-in-Err-clause-err : goal.returns-in-Err-clause-err
returns-in-Err-clause-err c =
    taken_back c.args.inodes.now.entries c.add.new.inodes.entries c.args.number c.args.inode
    c.in_ok-add.ensures.ok c.requires.free
    c.add_entry.new.inodes.entries c.remove.new.inodes.entries c.in-Err.ensures.err c.remove.ensures

pub returns-clause-ok : goal.returns-clause-ok
returns-clause-ok c =
    let es = c.args.inodes.now.entries in
    let d = c.requires.directory in
    let added = c.in_ok-add.ensures.ok in
    let apart = apart_from es c.add.new.inodes.entries c.args.number c.args.inode added c.requires.free
    c.args.dir d.0 d.1 in
    adds_named es c.add.new.inodes.entries c.args.number c.args.inode added c.requires.free
    c.add_entry.new.inodes.entries c.touch.new.inodes.entries c.args.now c.args.dir c.args.name.items
    c.args.of_directory apart
    c.in_default.ensures.ok c.touch.ensures
