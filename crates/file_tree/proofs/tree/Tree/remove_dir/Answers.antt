use Rattle.std.proofs.Common.{subst, arith}
use Rattle.nfs_spec.specs.nfs_items.CallerOf.{caller_of}
use Rattle.nfs_spec.specs.fs_spec.Trees.{IsFileTree}
use Rattle.nfs_spec.specs.Procedures.{remove_dir}
use Rattle.file_tree.specs.NameChecks.Names.{MayGo}
use Rattle.file_tree.proofs.KeptDigests.{files_seen}
use Rattle.file_tree.proofs.Removed.{dir_removed, does_checked}
use Rattle.file_tree.proofs.tree.Tree.remove_dir.Goals as goal

pub unname-requires : goal.unname-requires
unname-requires c =
    subst (λ w. MayGo w c.args.dir c.args.name.now c.check_remove_dir-checked.result)
    (files_seen c.self.view_is)
    c.check_remove_dir-checked.ensures.granted

pub returns-clause-effect : goal.returns-clause-effect
returns-clause-effect c =
    does_checked (files_seen c.self.view_is) c.args.now c.args.dir c.args.name.now
    (λ w. remove_dir w (caller_of c.args.who.now) c.args.now c.args.dir c.args.name.now)
    c.check_remove_dir-checked.result (c.check_remove_dir-checked.ensures.effect c.args.now) c.unname.result
    c.unname.new.self.files c.unname.ensures.effect

pub returns-clause-paths : goal.returns-clause-paths
returns-clause-paths c =
    dir_removed c.args.now (omega arith) c.args.self.now.files
    (subst IsFileTree (files_seen c.self.view_is) c.files_are_a_tree.ensures.tree) (caller_of c.args.who.now)
    c.args.dir c.args.name.now c.unname.result c.unname.new.self.files (returns-clause-effect c)
