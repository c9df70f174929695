use Rattle.std.proofs.Common.{is_some, option_map, sym, ap, ◌∙◌}
use Rattle.std.specs.Option.{option_copied_mut}
use Rattle.nfs_count_laws.specs.nfs_spec.Changes.{apply_fields}
use Rattle.tree_rules.specs.inodes.Given.{given_in}
use Rattle.tree_rules.specs.inodes.Inodes.{file_in}
use Rattle.inode_table.proofs.OfEdits.EditedContents.{edited}
use Rattle.inode_table.proofs.edits.slots.set.Goals as goal

pub set_inode-requires-clause-old : goal.set_inode-requires-clause-old
set_inode-requires-clause-old c =
    c.requires.old _
    (ap (option_map file_in) (sym c.get_mut.ensures.value ∙ ap option_copied_mut c.in-Some.is))

pub set_inode-requires-clause-new : goal.set_inode-requires-clause-new
set_inode-requires-clause-new c =
    c.requires.new _
    (ap (option_map file_in) (sym c.get_mut.ensures.value ∙ ap option_copied_mut c.in-Some.is))

pub returns : goal.returns
returns c =
    let there = sym c.get_mut.ensures.value ∙ ap option_copied_mut c.in-Some.is in
    let held = c.get_mut.follows.holds c.set_inode.new.inode in
    let told = c.set_inode.ensures in
    let e = edited c.args.inodes.now.entries (c.get_mut.follows.lender c.set_inode.new.inode).entries
    c.args.fsid c.args.number
    (apply_fields c.args.now (given_in c.args.given.now))
    c.in-Some.inode.now c.set_inode.new.inode there (held.3 (ap is_some there)).0 told.nlink told.parent
    c.set_inode.result told.file told.blocks told.attributes told.words told.err in
    record { ok = e.ok; blocks = e.blocks; attributes = e.attributes; words = e.words; err = e.err }
