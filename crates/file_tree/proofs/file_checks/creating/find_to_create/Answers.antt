use Rattle.std.proofs.Common.{Ok, Err, sym, ap, ◌∙◌}
use Rattle.std.specs.Prelude.{unwrap_or}
use Rattle.std.proofs.lemmas.Result.{err_from_is_err_and}
use Rattle.nfs_spec.specs.nfs_items.CallerOf.{caller_of}
use Rattle.inode_table.specs.inodes.Inodes.{file_in}
use Rattle.file_tree.proofs.OfFileChecks.Names.{over, new, free}
use Rattle.file_tree.proofs.file_checks.creating.find_to_create.Goals as goal

pub returns-in_err-check_new-in-None : goal.returns-in_err-check_new-in-None
returns-in_err-check_new-in-None c = λ now a size.
    let p = err_from_is_err_and c.from_residual-in_err-check_new-in-None.result
    c.from_residual-in_err-check_new-in-None.ensures.1 in
    rw (p.1, p.2) (new c.args.table.now (caller_of c.args.who.now) now c.args.dir c.args.name.now a
    (file_in c.in-Some.inode.now)
    (sym c.in-Some.ensures.file) c.in_ok-listing.listing.now (sym c.in_ok-listing.ensures)
    (sym c.if-not-is_name.ensures) (sym c.if-not-may_search.ensures)
    c.in-None.ensures c.files_are_a_tree.ensures.tree c.files_are_a_tree.ensures.room c.unwrap_or.result
    (c.unwrap_or.ensures ∙ ap (λ o. unwrap_or o 0) (sym size))
    (Err c.in_err-check_new-in-None.field-0.0) c.in_err-check_new-in-None.ensures)

pub returns-in-Some-find : goal.returns-in-Some-find
returns-in-Some-find c = λ now a size.
    over c.args.table.now (caller_of c.args.who.now) now c.args.dir c.args.name.now a
    (file_in c.in-Some.inode.now)
    (sym c.in-Some.ensures.file) c.in_ok-listing.listing.now (sym c.in_ok-listing.ensures)
    (sym c.if-not-is_name.ensures) (sym c.if-not-may_search.ensures)
    c.in-Some-find.entry.number c.in-Some-find.entry.cookie c.in-Some-find.ensures c.regular_number.result
    c.regular_number.ensures

pub returns-in_ok-check_new-in-None : goal.returns-in_ok-check_new-in-None
returns-in_ok-check_new-in-None c = λ now a size. (
  free c.args.table.now (caller_of c.args.who.now) now c.args.dir c.args.name.now a
      (file_in c.in-Some.inode.now)
      (sym c.in-Some.ensures.file) c.in_ok-listing.listing.now (sym c.in_ok-listing.ensures)
      (sym c.if-not-is_name.ensures) (sym c.if-not-may_search.ensures)
      c.in-None.ensures,
  new c.args.table.now (caller_of c.args.who.now) now c.args.dir c.args.name.now a
      (file_in c.in-Some.inode.now)
      (sym c.in-Some.ensures.file) c.in_ok-listing.listing.now (sym c.in_ok-listing.ensures)
      (sym c.if-not-is_name.ensures) (sym c.if-not-may_search.ensures)
      c.in-None.ensures c.files_are_a_tree.ensures.tree c.files_are_a_tree.ensures.room c.unwrap_or.result
      (c.unwrap_or.ensures ∙ ap (λ o. unwrap_or o 0) (sym size))
      (Ok c.in_ok-check_new-in-None.field-0) c.in_ok-check_new-in-None.ensures,
)
