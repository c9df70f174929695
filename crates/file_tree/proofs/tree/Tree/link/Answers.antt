use Rattle.std.proofs.Common.{◌≡◌, subst, rules, ◌∙◌, ap}
use Rattle.nfs_spec.specs.nfs_items.CallerOf.{caller_of}
use Rattle.inode_table.specs.nfs_laws.Laws.{NamesIn}
use Rattle.nfs_spec.specs.fs_spec.Trees.{IsTime}
use Rattle.file_tree.proofs.OfFileChecks.GrantedNames.{may_link, link_does, link_names}
use Rattle.nfs_spec.specs.fs_spec.Files.{Files, file_at}
use Rattle.inode_table.proofs.nfs_laws.OfChanges.OtherFiles.{linked_other}
use Rattle.file_tree.proofs.KeptDigests.{two_kept}
use Rattle.file_tree.proofs.KeptDigests.{files_seen}
use Rattle.file_tree.proofs.MissingDigests.{two_dropped}
use Rattle.file_tree.proofs.tree.Tree.link.Goals as goal

pub link-requires : goal.link-requires
link-requires c =
    let copied : c.in_ok-to_vec.field-0.items ≡ c.args.name.now =
    c.in_ok-to_vec.ensures.items_if_clones_equal (λ x y e. e) in
    let granted = c.in_default.ensures c.args.now in
    rw copied (may_link c.self.inside.table c.files_are_a_tree.ensures.tree c.files_are_a_tree.ensures.room
    (caller_of c.args.who.now) c.args.now c.args.dir
    c.args.name.now c.requires c.args.number granted.0 granted.1)

pub returns-clause-effect : goal.returns-clause-effect
returns-clause-effect c =
    let copied : c.in_ok-to_vec.field-0.items ≡ c.args.name.now =
    c.in_ok-to_vec.ensures.items_if_clones_equal (λ x y e. e) in
    let granted = c.in_default.ensures c.args.now in
    rw (← files_seen c.self.view_is)
    (link_does c.self.inside.table c.files_are_a_tree.ensures.tree c.files_are_a_tree.ensures.room
    (caller_of c.args.who.now) c.args.now c.args.dir
    c.args.name.now c.requires c.args.number granted.0 granted.1 c.link.new.self
    (rw copied at c.in_ok-link.ensures.ok))

pub returns-clause-paths : goal.returns-clause-paths
returns-clause-paths c =
    let copied : c.in_ok-to_vec.field-0.items ≡ c.args.name.now =
    c.in_ok-to_vec.ensures.items_if_clones_equal (λ x y e. e) in
    let granted = c.in_default.ensures c.args.now in
    let time : IsTime c.args.now = search rules in
    subst (λ w. NamesIn w c.link.new.self c.args.dir c.args.name.now c.args.number)
    (files_seen c.self.view_is)
    (link_names c.self.inside.table c.files_are_a_tree.ensures.tree c.files_are_a_tree.ensures.room
    (caller_of c.args.who.now) c.args.now c.args.dir
    c.args.name.now c.requires c.args.number granted.0 granted.1 time c.link.new.self
    (rw copied at c.in_ok-link.ensures.ok))

pub invariant_of-self-2 : goal.invariant_of-self-2
invariant_of-self-2 c =
    two_kept c.self.inside.table c.link.new.self c.self.inside.digests c.self.invariant c.args.number
    c.args.dir
    c.forget.new.self c.forget-2.new.self c.forget.ensures c.forget-2.ensures
    (λ n nf nd. ap (λ (w : Files). file_at w n) c.in_ok-link.ensures.ok
    ∙ linked_other c.args.now c.self.inside.table c.args.number c.args.dir c.in_ok-to_vec.field-0.items n nf
    nd)

pub returns-clause-digests : goal.returns-clause-digests
returns-clause-digests c =
    rw (← c.self.view_is) (two_dropped c.self.inside.table c.link.new.self c.self.inside.digests c.args.number
    c.args.dir c.forget.new.self c.forget-2.new.self c.forget.ensures c.forget-2.ensures
    (λ n nf nd. ap (λ (w : Files). file_at w n) c.in_ok-link.ensures.ok
    ∙ linked_other c.args.now c.self.inside.table c.args.number c.args.dir c.in_ok-to_vec.field-0.items n nf
    nd))
