use Rattle.std.proofs.Common.{rules, sym, ◌∙◌}
use Rattle.nfs_spec.specs.nfs_items.CallerOf.{caller_of}
use Rattle.inode_table.specs.inodes.Inodes.{file_in, body_in}
use Rattle.inode_table.proofs.nfs_laws.OfSteps.Steps.{no_entries}
use Rattle.file_tree.proofs.OfNameChecks.Unnamed.{remove_refused, may_unlink}
use Rattle.file_tree.proofs.name_checks.removing.check_remove.Goals as goal

pub returns-in_err-number-clause-effect : goal.returns-in_err-number-clause-effect
returns-in_err-number-clause-effect c = λ now.
    rw (remove_refused c.args.table.now (caller_of c.args.who.now) c.args.dir c.args.name.now now
    c.in_err-number.field-0.0
    (sym c.find_to_edit.ensures ∙ c.in_err-number.was)) (search rules)

pub returns-clause-granted : goal.returns-clause-granted
returns-clause-granted c =
    may_unlink c.args.table.now (caller_of c.args.who.now) c.args.dir c.args.name.now c.in_ok-number.number
    (file_in c.in-Some.inode.now)
    (sym c.find_to_edit.ensures ∙ c.in_ok-number.was)
    (sym c.in-Some.ensures.file)
    (no_entries (body_in c.in-Some.inode.now.body) (sym c.if-is_directory.ensures))
