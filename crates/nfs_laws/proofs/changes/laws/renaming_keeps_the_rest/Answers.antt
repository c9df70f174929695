use Rattle.std.proofs.Common.{⊎_elim}
use Rattle.nfs_laws.proofs.OfSteps.Renaming.{rename_ok}
use Rattle.nfs_laws.proofs.OfChanges.RenamedFiles.{renamed_moves}
use Rattle.nfs_laws.proofs.changes.laws.renaming_keeps_the_rest.Goals as goal

-- RENAME of one file changes nothing; of another it moves
pub returns : goal.returns
returns c w after who now from to from_name to_name tree h other =
    let o = rename_ok w who now from from_name to to_name after h in
    ⊎_elim
    (λ same. absurd (other same.0))
    (λ m. renamed_moves w who now tree from from_name to to_name after o m)
    o.outcome
