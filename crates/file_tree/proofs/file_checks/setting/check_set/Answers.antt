use Rattle.std.proofs.Common.{sym}
use Rattle.nfs_spec.specs.nfs_items.CallerOf.{caller_of}
use Rattle.inode_table.specs.inodes.Given.{given_in}
use Rattle.inode_table.specs.inodes.Inodes.{file_in}
use Rattle.file_tree.proofs.OfFileChecks.Contents.{set_unsized, set_sized}
use Rattle.file_tree.proofs.file_checks.setting.check_set.Goals as goal

pub returns-in_default-size : goal.returns-in_default-size
returns-in_default-size c = λ now.
    set_unsized c.args.table.now (caller_of c.args.who.now) now c.args.number (file_in c.in-Some.inode.now)
    (sym c.in-Some.ensures.file)
    (given_in c.args.given.now) (sym c.in_ok-check_owner.ensures)
    (sym c.in_ok-check_resize.ensures) c.in_default-size.is

-- SETATTR with a size, decided by its blocks
pub returns : goal.returns
returns c = λ now.
    set_sized c.args.table.now (caller_of c.args.who.now) now c.args.number (file_in c.in-Some.inode.now)
    (sym c.in-Some.ensures.file)
    (given_in c.args.given.now) (sym c.in_ok-check_owner.ensures)
    (sym c.in_ok-check_resize.ensures) c.files_are_a_tree.ensures.room
    c.in-Some-size.size c.in-Some-size.is c.blocks-2.result c.blocks-2.ensures c.check_blocks.result
    c.check_blocks.ensures
