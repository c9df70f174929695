-- What RENAME does to paths.
-- Serves: `Tree::rename`.
use Rattle.std.proofs.Common.{◌≡◌, ℕ, ◌≤◌, List, length, Ok}
use Rattle.nfs_spec.specs.nfs_items.Timeval.{Timeval}
use Rattle.nfs_spec.specs.nfs_items.Caller.{Caller}
use Rattle.nfs_spec.specs.fs_spec.Files.{Files}
use Rattle.nfs_spec.specs.fs_spec.Trees.{IsTime, IsFileTree}
use Rattle.nfs_spec.specs.Procedures.{rename}
use Rattle.inode_table.specs.nfs_laws.Steps.Granted.{IsSameFile}
use Rattle.inode_table.proofs.nfs_laws.OfSteps.Renaming.{rename_ok}
use Rattle.inode_table.specs.nfs_laws.Laws.{RenamesIn}
use Rattle.inode_table.proofs.nfs_laws.Paths.{rename_moves}

-- where two names are not of one file, what is below the one comes below the other
pub renamed : (now : Timeval) → IsTime now → (w : Files) → IsFileTree w
    → (who : Caller) (from : ℕ) (from_name : List ℕ) (to : ℕ) (to_name : List ℕ)
    → length to_name ≤ 255 → (after : Files) → rename w who now from from_name to to_name ≡ Ok (tt, after)
    → (IsSameFile w from from_name to to_name → ⊥) → RenamesIn w after from from_name to to_name
renamed now time w tree who from from_name to to_name bound after h =
    (rename_moves now time w tree who from from_name to to_name bound after
    (rename_ok w who now from from_name to to_name after h)).1
