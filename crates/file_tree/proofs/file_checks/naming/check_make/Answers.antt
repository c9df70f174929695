use Rattle.std.proofs.Common.{sym}
use Rattle.std.proofs.lemmas.Result.{err_from_is_err_and}
use Rattle.nfs_spec.specs.nfs_items.CallerOf.{caller_of}
use Rattle.file_tree.proofs.OfFileChecks.FreeNames.{make_refused, make_decided}
use Rattle.file_tree.proofs.file_checks.naming.check_make.Goals as goal

pub returns-in_err-listing : goal.returns-in_err-listing
returns-in_err-listing c = λ now f empty low blocks.
    let p = err_from_is_err_and c.from_residual.result c.from_residual.ensures.1 in
    rw (p.1, p.2) (make_refused c.args.table.now (caller_of c.args.who.now) c.args.dir c.args.name.now now
    f c.in_err-listing.field-0.0
    (sym c.in_err-listing.ensures))

-- a new file in a directory, decided by the check of the new file
pub returns : goal.returns
returns c = λ now f empty low blocks.
    make_decided c.args.table.now (caller_of c.args.who.now) c.args.dir c.args.name.now now f
    c.files_are_a_tree.ensures.tree c.files_are_a_tree.ensures.room c.in_ok-listing.listing.now
    (sym c.in_ok-listing.ensures)
    empty low c.args.blocks blocks c.check_file.result c.check_file.ensures
