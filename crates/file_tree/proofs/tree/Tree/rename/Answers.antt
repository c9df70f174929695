use Rattle.std.proofs.Common.{refl, sym, ap, subst, ◌≡◌, ◌∙◌, arith, rules, Ok}
use Rattle.std.specs.Prelude.{unwrap_or}
use Rattle.nfs_spec.specs.nfs_items.CallerOf.{caller_of}
use Rattle.nfs_spec.specs.fs_spec.Trees.{IsFileTree}
use Rattle.nfs_spec.specs.Procedures.{move_entry, rename}
use Rattle.file_tree.specs.FileChecks.Moves.{moved}
use Rattle.file_tree.proofs.Renamed.{renamed}
use Rattle.nfs_spec.specs.fs_spec.Files.{Files, file_at}
use Rattle.inode_table.proofs.nfs_laws.OfChanges.OtherFiles.{moved_other}
use Rattle.file_tree.proofs.KeptDigests.{four_kept}
use Rattle.file_tree.proofs.KeptDigests.{files_seen}
use Rattle.file_tree.proofs.RenamedDigests.{moved_dropped, one_file_dropped}
use Rattle.file_tree.proofs.tree.Tree.rename.Goals as goal

pub returns-clause-effect : goal.returns-clause-effect
returns-clause-effect c =
    let name : c.args.to_name.now ≡ c.in_ok-name.name.items = search rules in
    ap (λ w. rename w
    (caller_of c.args.who.now) c.args.now c.args.from c.args.from_name.now c.args.to c.args.to_name.now)
    (sym (files_seen c.self.view_is))
    ∙ sym (c.in-Ok.ensures.effect c.args.now)
    ∙ ap (λ m. Ok
    (moved c.args.now c.self.inside.table c.args.from c.args.from_name.now c.args.to c.args.to_name.now m))
    c.in-Some.is
    ∙ ap (λ name. Ok (
      tt,
      move_entry c.args.now c.self.inside.table c.in-Some.field-0.number c.args.from c.args.from_name.now
          c.args.to name c.in-Some.field-0.target,
    )) name
    ∙ ap (λ w. Ok (tt, w)) (sym c.in_ok-rename.ensures.ok)

pub returns-clause-paths : goal.returns-clause-paths
returns-clause-paths c =
    renamed c.args.now (omega arith) c.args.self.now.files
    (subst IsFileTree (files_seen c.self.view_is) c.files_are_a_tree.ensures.tree) (caller_of c.args.who.now)
    c.args.from c.args.from_name.now c.args.to c.args.to_name.now c.requires c.rename.new.self
    (returns-clause-effect c)

pub returns-in_default-clause-paths : goal.returns-in_default-clause-paths
returns-in_default-clause-paths c =
    renamed c.args.now (omega arith) c.args.self.now.files
    (subst IsFileTree (files_seen c.self.view_is) c.files_are_a_tree.ensures.tree) (caller_of c.args.who.now)
    c.args.from c.args.from_name.now c.args.to c.args.to_name.now c.requires c.args.self.now.files
    (ap (λ w. rename w
    (caller_of c.args.who.now) c.args.now c.args.from c.args.from_name.now c.args.to c.args.to_name.now)
    (sym (files_seen c.self.view_is))
    ∙ sym (c.in-Ok.ensures.effect c.args.now)
    ∙ ap (λ m. Ok
    (moved c.args.now c.self.inside.table c.args.from c.args.from_name.now c.args.to c.args.to_name.now m))
    c.in_default.is
    ∙ ap (λ w. Ok (tt, w)) (files_seen c.self.view_is))

pub invariant_of-self-2 : goal.invariant_of-self-2
invariant_of-self-2 c =
    let number = c.in-Some.field-0.number in
    let target = c.in-Some.field-0.target in
    four_kept c.self.inside.table c.rename.new.self c.self.inside.digests c.self.invariant
    c.unwrap_or.result number c.args.to c.args.from
    c.forget.new.self c.forget-2.new.self c.forget-3.new.self c.forget-4.new.self
    c.forget.ensures c.forget-2.ensures c.forget-3.ensures c.forget-4.ensures
    (λ n ng nn nt nf. ap (λ (w : Files). file_at w n) c.in_ok-rename.ensures.ok
    ∙ moved_other c.args.now c.self.inside.table number c.args.from c.args.from_name.now c.args.to
    c.in_ok-name.name.items target n nf nt nn
    (λ k is e. ng (e ∙ sym (c.unwrap_or.ensures ∙ ap (λ t. unwrap_or t number) is))))

pub returns-clause-digests : goal.returns-clause-digests
returns-clause-digests c =
    let number = c.in-Some.field-0.number in
    let target = c.in-Some.field-0.target in
    let granted = rw c.in-Some.is at c.in-Ok.ensures.granted in
    let goes : c.unwrap_or.result ≡ unwrap_or target number = c.unwrap_or.ensures in
    rw (← c.self.view_is) (moved_dropped c.self.inside.table c.args.from c.args.from_name.now c.args.to
    c.args.to_name.now number granted.1 target granted.2.is_named granted.2.is_target granted.2.other
    c.rename.new.self c.self.inside.digests
    c.forget.new.self c.forget-2.new.self c.forget-3.new.self c.forget-4.new.self
    (rw goes at c.forget.ensures) c.forget-2.ensures c.forget-3.ensures c.forget-4.ensures
    (λ n ng nn nt nf. ap (λ (w : Files). file_at w n) c.in_ok-rename.ensures.ok
    ∙ moved_other c.args.now c.self.inside.table number c.args.from c.args.from_name.now c.args.to
    c.in_ok-name.name.items target n nf nt nn
    (λ k is e. ng (e ∙ sym (ap (λ t. unwrap_or t number) is)))))

-- nothing moves, and all stay
pub returns-in_default-clause-digests : goal.returns-in_default-clause-digests
returns-in_default-clause-digests c =
    rw (← c.self.view_is) (one_file_dropped c.self.inside.table c.args.from c.args.from_name.now c.args.to
    c.args.to_name.now c.self.inside.table c.self.inside.digests (c.in-Ok.ensures.same c.in_default.is)
    (λ n. refl))
