use Rattle.std.proofs.Common.{subst}
use Rattle.std.specs.Prelude.{IsTrue}
use Rattle.nfs_spec.specs.nfs_items.CallerOf.{caller_of}
use Rattle.nfs_spec.specs.fs_spec.Trees.{IsFileTree}
use Rattle.nfs_spec.specs.fs_spec.Changes.Limits.{has_room}
use Rattle.inode_table.specs.nfs_laws.Sizes.Bounds.{AreWords}
use Rattle.file_tree.proofs.PageNames.{names_fit_if}
use Rattle.file_tree.proofs.KeptDigests.{files_seen}
use Rattle.file_tree.proofs.tree.Tree.list.Goals as goal

pub returns-clause-names : goal.returns-clause-names
returns-clause-names c =
    names_fit_if c.args.self.now.files (subst IsFileTree
    (files_seen c.self.view_is) c.files_are_a_tree.ensures.tree)
    (subst (λ w. IsTrue (has_room w)) (files_seen c.self.view_is) c.files_are_a_tree.ensures.room)
    (subst AreWords (files_seen c.self.view_is) c.files_are_a_tree.ensures.words)
    (caller_of c.args.who.now) c.args.dir c.args.cookie c.args.count c.page_at.result c.page_at.ensures
