use Rattle.std.proofs.Common.{is_some, option_map, sym, ap, ◌∙◌}
use Rattle.std.specs.Option.{option_copied_mut}
use Rattle.fs_spec.specs.Files.{File}
use Rattle.nfs_count_laws.specs.nfs_spec.Changes.{with_mtime}
use Rattle.tree_rules.specs.inodes.Contents.{body_with_bytes_at}
use Rattle.tree_rules.specs.inodes.Inodes.{file_in}
use Rattle.inode_table.proofs.OfEdits.EditedContents.{edited}
use Rattle.inode_table.proofs.edits.slots.write.Goals as goal

pub write_inode-requires-clause-old : goal.write_inode-requires-clause-old
write_inode-requires-clause-old c =
    c.requires.old _
    (ap (option_map file_in) (sym c.get_mut.ensures.value ∙ ap option_copied_mut c.in-Some.is))

pub write_inode-requires-clause-new : goal.write_inode-requires-clause-new
write_inode-requires-clause-new c =
    c.requires.new _
    (ap (option_map file_in) (sym c.get_mut.ensures.value ∙ ap option_copied_mut c.in-Some.is))

pub returns : goal.returns
returns c =
    let there = sym c.get_mut.ensures.value ∙ ap option_copied_mut c.in-Some.is in
    let held = c.get_mut.follows.holds c.write_inode.new.inode in
    let told = c.write_inode.ensures in
    let e = edited c.args.inodes.now.entries (c.get_mut.follows.lender c.write_inode.new.inode).entries
    c.args.fsid c.args.number
    (λ (f : File). with_mtime c.args.now (record f
    { body = body_with_bytes_at c.args.offset c.args.bytes.now f.body }))
    c.in-Some.inode.now c.write_inode.new.inode there (held.3 (ap is_some there)).0 told.nlink told.parent
    c.write_inode.result told.file told.blocks told.attributes told.words told.err in
    record { ok = e.ok; blocks = e.blocks; attributes = e.attributes; words = e.words; err = e.err }
