use Rattle.std.proofs.Common.{sym}
use Rattle.std.proofs.lemmas.Result.{err_from_is_err_and}
use Rattle.nfs_spec.specs.nfs_items.CallerOf.{caller_of}
use Rattle.inode_table.specs.inodes.Inodes.{file_in}
use Rattle.file_tree.proofs.OfFileChecks.FreeNames.{link_refused, link_decided}
use Rattle.file_tree.proofs.file_checks.naming.check_link.Goals as goal

pub returns-in_err-listing : goal.returns-in_err-listing
returns-in_err-listing c = λ now.
    let p = err_from_is_err_and c.from_residual.result c.from_residual.ensures.1 in
    rw (p.1, p.2) (link_refused c.args.table.now (caller_of c.args.who.now) c.args.dir c.args.name.now now
    c.args.number (file_in c.in-Some.inode.now)
    (sym c.in-Some.ensures.file) (sym c.if-is_directory.ensures) c.in_err-listing.field-0.0
    (sym c.in_err-listing.ensures))

-- LINK of a file that is no directory, decided by the check of the new entry
pub returns : goal.returns
returns c = λ now.
    link_decided c.args.table.now (caller_of c.args.who.now) c.args.dir c.args.name.now now c.args.number
    (file_in c.in-Some.inode.now)
    (sym c.in-Some.ensures.file) (sym c.if-is_directory.ensures)
    c.files_are_a_tree.ensures.room c.in_ok-listing.listing.now (sym c.in_ok-listing.ensures)
    c.check_entry.result c.check_entry.ensures
