use Rattle.std.proofs.Common.{◌-◌, suc, sym, subst, ap, ◌∙◌, arith}
use Rattle.nfs_spec.specs.fs_spec.Files.{IsDirectory}
use Rattle.nfs_spec.specs.fs_spec.Changes.Limits.{file_count}
use Rattle.nfs_spec.specs.Procedures.{climbs_to}
use Rattle.file_tree.proofs.OfNameChecks.Climbs.{climbs_here, climbs_on, none_above_root, parent_is_directory}
use Rattle.file_tree.proofs.name_checks.above.is_above.Goals as goal

pub returns-then-upper-number : goal.returns-then-upper-number
returns-then-upper-number c =
    let left = file_count c.args.table.now - c.loop-step._step in
    sym (climbs_here c.args.table.now c.args.upper left c.loop-step.number (sym c.if-upper-number.true))
    ∙ c.loop-step.invariant.above left (omega arith)

pub returns-then-number-eq1 : goal.returns-then-number-eq1
returns-then-number-eq1 c =
    let left = file_count c.args.table.now - c.loop-step._step in
    sym (none_above_root c.args.table.now c.args.upper left
    (λ e. c.if-upper-number.false (sym e ∙ sym c.if-number-eq1.true)))
    ∙ ap (climbs_to left c.args.table.now c.args.upper) (sym c.if-number-eq1.true)
    ∙ c.loop-step.invariant.above left (omega arith)

pub loop-step-preserved : goal.loop-step-preserved
loop-step-preserved c = record {
  directory = subst (IsDirectory c.args.table.now) (sym c.parent_of-number.ensures)
      (parent_is_directory c.args.table.now c.files_are_a_tree.ensures.tree c.loop-step.number
      c.loop-step.invariant.directory);
  above = λ k left.
      ap (climbs_to k c.args.table.now c.args.upper) c.parent_of-number.ensures
      ∙ sym (climbs_on c.args.table.now c.args.upper k c.loop-step.number
      (λ e. c.if-upper-number.false (sym e)))
      ∙ c.loop-step.invariant.above (suc k) (omega arith);
}

-- no step up is left, so what was passed so far says all
pub returns : goal.returns
returns c = c.loop-step.invariant.above 0 (omega arith)
