use Rattle.std.proofs.Common.{refl, ap, ◌∙◌, eq-eqb, ne_eqb}
use Rattle.std.specs.Prelude.{unwrap_or, if◌then◌else◌}
use Rattle.nfs_laws.proofs.changes.laws.new_files_are_their_callers.Goals as goal

pub returns-clause-caller : goal.returns-clause-caller
returns-clause-caller c who now a mode body other =
    let not = ne_eqb who.uid 0 other in (
      ap (λ b. if b then unwrap_or a.uid who.uid else who.uid) not,
      ap (λ b. if b then unwrap_or a.gid who.gid else who.gid) not,
    )

pub returns-clause-root : goal.returns-clause-root
returns-clause-root c who now a mode body is =
    let root = eq-eqb who.uid 0 is in (
      ap (λ b. if b then unwrap_or a.uid who.uid else who.uid) root ∙ ap (unwrap_or a.uid) is,
      ap (λ b. if b then unwrap_or a.gid who.gid else who.gid) root,
    )

pub returns-clause-given : goal.returns-clause-given
returns-clause-given c who now a mode body = (refl, refl, refl, refl)
