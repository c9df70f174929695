use Rattle.std.proofs.Common.{◌≡◌, sym, subst, rules, ◌∙◌, ap}
use Rattle.nfs_spec.specs.nfs_items.CallerOf.{caller_of}
use Rattle.nfs_spec.specs.fs_spec.Trees.{IsTime}
use Rattle.nfs_spec.specs.Procedures.{make, add_file}
use Rattle.inode_table.proofs.nfs_laws.OfSteps.Making.{make_ok}
use Rattle.inode_table.specs.nfs_laws.Laws.{NamesIn}
use Rattle.inode_table.specs.nfs_laws.Sizes.Bounds.{HasWords}
use Rattle.inode_table.specs.inodes.Inodes.{file_in}
use Rattle.file_tree.proofs.OfFileChecks.GrantedNames.{may_make, make_does, make_names}
use Rattle.nfs_spec.specs.fs_spec.Files.{Files, file_at}
use Rattle.inode_table.proofs.nfs_laws.OfTrees.FilesFit.{next_free}
use Rattle.inode_table.proofs.nfs_laws.OfChanges.OtherFiles.{made_other}
use Rattle.file_tree.proofs.KeptDigests.{made_kept}
use Rattle.file_tree.proofs.KeptDigests.{files_seen}
use Rattle.file_tree.proofs.MissingDigests.{made_dropped}
use Rattle.file_tree.proofs.tree.Tree.make.Goals as goal

pub make-requires : goal.make-requires
make-requires c =
    let f = file_in c.args.inode in
    let words : HasWords f = search rules in
    let copied : c.in_ok-to_vec.field-0.items ≡ c.args.name.now =
    c.in_ok-to_vec.ensures.items_if_clones_equal (λ x y e. e) in
    let granted =
    c.in_default.ensures c.args.now f c.requires.empty c.requires.cookie (sym c.blocks-2.ensures) in
    rw copied (may_make c.self.inside.table c.files_are_a_tree.ensures.tree c.files_are_a_tree.ensures.room
    (caller_of c.args.who.now) c.args.now c.args.dir
    c.args.name.now c.requires.name f c.requires.empty c.requires.cookie
    c.requires.file words granted.0.0 granted.0.1
    (make_ok c.self.inside.table
    (caller_of c.args.who.now) c.args.now c.args.dir c.args.name.now f granted.0.0 granted.0.1 granted.1))

pub returns-clause-effect : goal.returns-clause-effect
returns-clause-effect c =
    let f = file_in c.args.inode in
    let words : HasWords f = search rules in
    let copied : c.in_ok-to_vec.field-0.items ≡ c.args.name.now =
    c.in_ok-to_vec.ensures.items_if_clones_equal (λ x y e. e) in
    let granted =
    c.in_default.ensures c.args.now f c.requires.empty c.requires.cookie (sym c.blocks-2.ensures) in
    let does : c.make.new.self
    ≡ add_file c.args.now c.self.inside.table c.args.dir c.in_ok-to_vec.field-0.items f =
    c.in_ok-number.ensures.ok in
    rw (← files_seen c.self.view_is)
    (make_does c.self.inside.table c.files_are_a_tree.ensures.tree c.files_are_a_tree.ensures.room
    (caller_of c.args.who.now) c.args.now c.args.dir
    c.args.name.now c.requires.name f c.requires.empty c.requires.cookie
    c.requires.file words granted.0.0 granted.0.1
    (make_ok c.self.inside.table
    (caller_of c.args.who.now) c.args.now c.args.dir c.args.name.now f granted.0.0 granted.0.1 granted.1)
    (make c.self.inside.table (caller_of c.args.who.now) c.args.now c.args.dir c.args.name.now f) granted.1
    c.in_ok-number.number c.make.new.self c.in_ok-number.ensures.number (rw copied at does))

pub returns-clause-paths : goal.returns-clause-paths
returns-clause-paths c =
    let f = file_in c.args.inode in
    let words : HasWords f = search rules in
    let time : IsTime c.args.now = search rules in
    let copied : c.in_ok-to_vec.field-0.items ≡ c.args.name.now =
    c.in_ok-to_vec.ensures.items_if_clones_equal (λ x y e. e) in
    let granted =
    c.in_default.ensures c.args.now f c.requires.empty c.requires.cookie (sym c.blocks-2.ensures) in
    let does : c.make.new.self
    ≡ add_file c.args.now c.self.inside.table c.args.dir c.in_ok-to_vec.field-0.items f =
    c.in_ok-number.ensures.ok in
    subst (λ w. NamesIn w c.make.new.self c.args.dir c.args.name.now c.in_ok-number.number)
    (files_seen c.self.view_is)
    (make_names c.self.inside.table c.files_are_a_tree.ensures.tree c.files_are_a_tree.ensures.room
    (caller_of c.args.who.now) c.args.now c.args.dir
    c.args.name.now c.requires.name f c.requires.empty c.requires.cookie
    c.requires.file words granted.0.0 granted.0.1
    (make_ok c.self.inside.table
    (caller_of c.args.who.now) c.args.now c.args.dir c.args.name.now f granted.0.0 granted.0.1 granted.1)
    time c.in_ok-number.number c.make.new.self c.in_ok-number.ensures.number (rw copied at does))

pub invariant_of-self-2 : goal.invariant_of-self-2
invariant_of-self-2 c =
    made_kept c.self.inside.table c.make.new.self c.self.inside.digests c.self.invariant c.args.dir
    c.self.inside.table.next c.forget.new.self c.forget.ensures
    (next_free c.self.inside.table c.files_are_a_tree.ensures.tree)
    (λ n nd nn. ap (λ (w : Files). file_at w n) c.in_ok-number.ensures.ok
    ∙ made_other c.args.now c.self.inside.table c.args.dir c.in_ok-to_vec.field-0.items
    (file_in c.args.inode) n nd nn)

pub returns-clause-digests : goal.returns-clause-digests
returns-clause-digests c =
    rw (← c.self.view_is) (made_dropped c.self.inside.table c.make.new.self c.self.inside.digests
    c.self.invariant c.args.dir
    c.self.inside.table.next c.in_ok-number.number c.forget.new.self c.forget.ensures
    (next_free c.self.inside.table c.files_are_a_tree.ensures.tree) c.in_ok-number.ensures.number
    (λ n nd nn. ap (λ (w : Files). file_at w n) c.in_ok-number.ensures.ok
    ∙ made_other c.args.now c.self.inside.table c.args.dir c.in_ok-to_vec.field-0.items
    (file_in c.args.inode) n nd nn))
