use Rattle.std.proofs.Common.{None, Ok, sym, subst, rules, ◌∙◌, ap}
use Rattle.nfs_spec.specs.nfs_items.CallerOf.{caller_of}
use Rattle.nfs_spec.specs.fs_spec.Trees.{IsTime}
use Rattle.inode_table.specs.nfs_laws.Laws.{NamesIn}
use Rattle.inode_table.specs.nfs_laws.Sizes.Bounds.{HasWords}
use Rattle.inode_table.specs.inodes.Given.{given_in}
use Rattle.inode_table.specs.inodes.Inodes.{file_in}
use Rattle.file_tree.specs.FileChecks.Creates.{DecidesCreate}
use Rattle.file_tree.specs.KeptDigests.{DropsOnly}
use Rattle.file_tree.proofs.CreatedFiles.{changed_new, new_regular_is, may_create, create_does, create_names}
use Rattle.nfs_spec.specs.fs_spec.Files.{Files, file_at}
use Rattle.inode_table.proofs.nfs_laws.OfTrees.FilesFit.{next_free}
use Rattle.inode_table.proofs.nfs_laws.OfChanges.OtherFiles.{made_other}
use Rattle.file_tree.proofs.KeptDigests.{made_kept, same_kept}
use Rattle.file_tree.proofs.KeptDigests.{files_seen}
use Rattle.file_tree.proofs.MissingDigests.{made_dropped, seen}
use Rattle.file_tree.proofs.tree.Tree.create_new.Goals as goal

pub make-requires : goal.make-requires
make-requires c =
    let who = caller_of c.args.who.now in
    let a = given_in c.args.given.now in
    let words : HasWords (file_in c.new-inode.result) = search rules in
    let time : IsTime c.args.now = search rules in
    may_create c.self.inside.table c.files_are_a_tree.ensures.tree c.files_are_a_tree.ensures.room who
    c.args.now time c.args.dir c.args.name.now c.in_ok-to_vec.field-0.items c.requires.name
    (c.in_ok-to_vec.ensures.items_if_clones_equal (λ x y e. e)) a c.requires.valid
    (file_in c.new-inode.result)
    (new_regular_is who c.args.now a _ _ _ c.new-inode.ensures.file c.in_ok-body.ensures c.unwrap_or.ensures)
    words
    (subst (λ w. DecidesCreate w who c.args.now c.args.dir c.args.name.now a (Ok None))
    (sym (files_seen c.self.view_is))
    c.requires.granted)

pub returns-clause-effect : goal.returns-clause-effect
returns-clause-effect c =
    let who = caller_of c.args.who.now in
    let a = given_in c.args.given.now in
    let words : HasWords (file_in c.new-inode.result) = search rules in
    let time : IsTime c.args.now = search rules in
    rw (← files_seen c.self.view_is) (create_does c.self.inside.table c.files_are_a_tree.ensures.tree
    c.files_are_a_tree.ensures.room who c.args.now time c.args.dir c.args.name.now
    c.in_ok-to_vec.field-0.items c.requires.name (c.in_ok-to_vec.ensures.items_if_clones_equal (λ x y e. e)) a
    c.requires.valid (file_in c.new-inode.result)
    (new_regular_is who c.args.now a _ _ _ c.new-inode.ensures.file c.in_ok-body.ensures c.unwrap_or.ensures)
    words
    (subst (λ w. DecidesCreate w who c.args.now c.args.dir c.args.name.now a (Ok None))
    (sym (files_seen c.self.view_is))
    c.requires.granted)
    c.in_ok-number.number c.make.new.self c.in_ok-number.ensures.number c.in_ok-number.ensures.ok)

pub returns-clause-paths : goal.returns-clause-paths
returns-clause-paths c =
    let who = caller_of c.args.who.now in
    let a = given_in c.args.given.now in
    let words : HasWords (file_in c.new-inode.result) = search rules in
    let time : IsTime c.args.now = search rules in
    subst (λ w. NamesIn w c.make.new.self c.args.dir c.args.name.now c.in_ok-number.number)
    (files_seen c.self.view_is)
    (create_names c.self.inside.table c.files_are_a_tree.ensures.tree c.files_are_a_tree.ensures.room who
    c.args.now time c.args.dir c.args.name.now c.in_ok-to_vec.field-0.items c.requires.name
    (c.in_ok-to_vec.ensures.items_if_clones_equal (λ x y e. e)) a c.requires.valid
    (file_in c.new-inode.result)
    (new_regular_is who c.args.now a _ _ _ c.new-inode.ensures.file c.in_ok-body.ensures c.unwrap_or.ensures)
    words
    (subst (λ w. DecidesCreate w who c.args.now c.args.dir c.args.name.now a (Ok None))
    (sym (files_seen c.self.view_is))
    c.requires.granted)
    c.in_ok-number.number c.make.new.self c.in_ok-number.ensures.number c.in_ok-number.ensures.ok)

pub invariant_of-self-in_err-number : goal.invariant_of-self-in_err-number
invariant_of-self-in_err-number c =
    same_kept c.self.inside.table c.make.new.self c.self.inside.digests c.self.invariant
    (λ n. ap (λ (w : Files). file_at w n) c.in_err-number.ensures.err)

pub invariant_of-self-2 : goal.invariant_of-self-2
invariant_of-self-2 c =
    made_kept c.self.inside.table c.make.new.self c.self.inside.digests c.self.invariant c.args.dir
    c.self.inside.table.next c.forget.new.self c.forget.ensures
    (next_free c.self.inside.table c.files_are_a_tree.ensures.tree)
    (λ n nd nn. ap (λ (w : Files). file_at w n) c.in_ok-number.ensures.ok
    ∙ made_other c.args.now c.self.inside.table c.args.dir c.in_ok-to_vec.field-0.items
    (file_in c.new-inode.result) n nd nn)

pub returns-clause-digests : goal.returns-clause-digests
returns-clause-digests c =
    subst (λ ns. DropsOnly ns c.args.self.now (seen c.make.new.self c.forget.new.self))
    (sym (changed_new (given_in c.args.given.now) c.args.self.now.files c.args.dir c.args.name.now
    c.in_ok-number.number c.requires.granted.0)) (
    rw (← c.self.view_is) (made_dropped c.self.inside.table c.make.new.self c.self.inside.digests
    c.self.invariant c.args.dir
    c.self.inside.table.next c.in_ok-number.number c.forget.new.self c.forget.ensures
    (next_free c.self.inside.table c.files_are_a_tree.ensures.tree) c.in_ok-number.ensures.number
    (λ n nd nn. ap (λ (w : Files). file_at w n) c.in_ok-number.ensures.ok
    ∙ made_other c.args.now c.self.inside.table c.args.dir c.in_ok-to_vec.field-0.items
    (file_in c.new-inode.result) n nd nn)))
