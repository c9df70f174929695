use Rattle.nfs_laws.proofs.OfSteps.Renaming.{rename_ok}
use Rattle.nfs_laws.proofs.Paths.{rename_moves}
use Rattle.nfs_laws.proofs.laws.renaming_moves_paths.Goals as goal

-- from what RENAME's Ok says
pub returns : goal.returns
returns c w after who now from from_name to to_name tree time bound h =
    rename_moves now time w tree who from from_name to to_name bound after
    (rename_ok w who now from from_name to to_name after h)
