use Rattle.std.proofs.Common.{sym, subst, rules}
use Rattle.nfs_spec.specs.nfs_items.CallerOf.{caller_of}
use Rattle.nfs_spec.specs.fs_spec.Trees.{IsTime}
use Rattle.inode_table.specs.nfs_laws.Laws.{AreValidFields}
use Rattle.inode_table.proofs.nfs_laws.FilesFit.{given_are_valid, directory_fits}
use Rattle.inode_table.specs.inodes.Given.{given_in}
use Rattle.file_tree.proofs.tree.Tree.make_dir.Goals as goal

pub make-requires-clause-file : goal.make-requires-clause-file
make-requires-clause-file c =
    let time : IsTime c.args.now = search rules in
    let valid : AreValidFields (given_in c.of-given.result) =
    subst AreValidFields (sym c.of-given.ensures) (given_are_valid c.args.now c.args.attributes.now time) in
    rw (c.new-2.ensures.file, c.in_ok-new.ensures)
    (directory_fits (caller_of c.args.who.now) c.args.now time (given_in c.of-given.result) valid)
