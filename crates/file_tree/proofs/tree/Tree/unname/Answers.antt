use Rattle.std.proofs.Common.{◌≡◌, Ok, Err, refl, sym, ap, subst, ◌∙◌, rules}
use Rattle.nfs_spec.specs.fs_spec.Files.{Files, file_at}
use Rattle.inode_table.proofs.nfs_laws.OfChanges.OtherFiles.{removed_other}
use Rattle.file_tree.specs.NameChecks.Names.{MayGo, unnamed_by}
use Rattle.file_tree.specs.Performs.{Does}
use Rattle.file_tree.proofs.KeptDigests.{files_seen, two_kept}
use Rattle.file_tree.proofs.MissingDigests.{unnamed_dropped}
use Rattle.file_tree.proofs.tree.Tree.unname.Goals as goal

pub unlink-requires : goal.unlink-requires
unlink-requires c =
    subst (MayGo c.self.inside.table c.args.dir c.args.name.now) c.in_ok-number.was
    (subst (λ w. MayGo w c.args.dir c.args.name.now c.args.checked) (sym (files_seen c.self.view_is))
    c.requires)

pub returns-clause-effect : goal.returns-clause-effect
returns-clause-effect c =
    ap (λ w. unnamed_by c.args.now w c.args.dir c.args.name.now c.args.checked)
    (sym (files_seen c.self.view_is))
    ∙ ap (unnamed_by c.args.now c.self.inside.table c.args.dir c.args.name.now) c.in_ok-number.was
    ∙ ap (λ w. Ok (tt, w)) (sym c.unlink.ensures)

pub returns-in_err-number-clause-effect : goal.returns-in_err-number-clause-effect
returns-in_err-number-clause-effect c =
    let refused : c.from_residual.result ≡ Err c.in_err-number.field-0.0 = search rules in
    subst (λ r. Does (unnamed_by c.args.now c.args.self.now.files c.args.dir c.args.name.now c.args.checked)
    c.args.self.now.files r c.args.self.now.files)
    (sym refused) (
      ap (unnamed_by c.args.now c.args.self.now.files c.args.dir c.args.name.now) c.in_err-number.was,
      refl,
    )

pub invariant_of-self : goal.invariant_of-self
invariant_of-self c =
    two_kept c.self.inside.table c.unlink.new.self c.self.inside.digests c.self.invariant
    c.in_ok-number.number
    c.args.dir c.forget.new.self c.forget-2.new.self c.forget.ensures c.forget-2.ensures
    (λ n nn nd. ap (λ (w : Files). file_at w n) c.unlink.ensures
    ∙ removed_other c.args.now c.self.inside.table c.args.dir c.args.name.now c.in_ok-number.number n nd nn)

pub returns-clause-digests : goal.returns-clause-digests
returns-clause-digests c =
    let may = subst (MayGo c.self.inside.table c.args.dir c.args.name.now) c.in_ok-number.was
    (subst (λ w. MayGo w c.args.dir c.args.name.now c.args.checked) (sym (files_seen c.self.view_is))
    c.requires) in
    rw (← c.self.view_is) (unnamed_dropped c.self.inside.table c.unlink.new.self c.self.inside.digests
    c.args.dir
    c.args.name.now c.in_ok-number.number may.0 c.forget.new.self c.forget-2.new.self may.2.is_named
    c.forget.ensures c.forget-2.ensures
    (λ n nn nd. ap (λ (w : Files). file_at w n) c.unlink.ensures
    ∙ removed_other c.args.now c.self.inside.table c.args.dir c.args.name.now c.in_ok-number.number n nd nn))
