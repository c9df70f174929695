use Rattle.std.proofs.Common.{sym}
use Rattle.nfs_spec.specs.nfs_items.CallerOf.{caller_of}
use Rattle.inode_table.specs.inodes.Inodes.{file_in}
use Rattle.file_tree.proofs.OfFileChecks.Contents.{write_none, write_some}
use Rattle.file_tree.proofs.file_checks.setting.check_write.Goals as goal

pub returns-then-is_empty : goal.returns-then-is_empty
returns-then-is_empty c = λ now.
    write_none c.args.table.now (caller_of c.args.who.now) now c.args.number (file_in c.in-Some.inode.now)
    (sym c.in-Some.ensures.file)
    c.args.offset c.args.new.now c.in_ok-old.old.now (sym c.in_ok-old.ensures)
    (sym c.if-not-may_write.ensures) (sym c.if-is_empty.ensures)

-- WRITE of some bytes, decided by their blocks
pub returns : goal.returns
returns c = λ now.
    write_some c.args.table.now (caller_of c.args.who.now) now c.args.number (file_in c.in-Some.inode.now)
    (sym c.in-Some.ensures.file)
    c.args.offset c.args.new.now c.in_ok-old.old.now (sym c.in_ok-old.ensures)
    (sym c.if-not-may_write.ensures)
    c.files_are_a_tree.ensures.room (sym c.if-is_empty.ensures) c.if-end.false c.max-size.result
    c.max-size.ensures
    c.blocks-2.result c.blocks-2.ensures c.check_blocks.result c.check_blocks.ensures
