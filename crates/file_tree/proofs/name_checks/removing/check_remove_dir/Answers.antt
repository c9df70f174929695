use Rattle.std.proofs.Common.{rules, sym, ◌∙◌}
use Rattle.nfs_spec.specs.nfs_items.CallerOf.{caller_of}
use Rattle.inode_table.specs.inodes.Inodes.{file_in}
use Rattle.file_tree.proofs.OfNameChecks.Unnamed.{remove_dir_refused, may_unlink, no_entries_listed}
use Rattle.file_tree.proofs.name_checks.removing.check_remove_dir.Goals as goal

pub returns-in_err-number-clause-effect : goal.returns-in_err-number-clause-effect
returns-in_err-number-clause-effect c = λ now.
    rw (remove_dir_refused c.args.table.now (caller_of c.args.who.now) c.args.dir c.args.name.now now
    c.in_err-number.field-0.0
    (sym c.find_to_edit.ensures ∙ c.in_err-number.was)) (search rules)

pub returns-clause-granted : goal.returns-clause-granted
returns-clause-granted c =
    may_unlink c.args.table.now (caller_of c.args.who.now) c.args.dir c.args.name.now c.in_ok-number.number
    (file_in c.in-Some.inode.now)
    (sym c.find_to_edit.ensures ∙ c.in_ok-number.was)
    (sym c.in-Some.ensures.file)
    (no_entries_listed (file_in c.in-Some.inode.now) c.in_ok-check_empty.field-0
    (sym c.check_empty.ensures ∙ c.in_ok-check_empty.was))
