-- What REMOVE and RMDIR do, by what a check gave, and what that does to paths.
-- Serves: `Tree::remove`, `Tree::remove_dir`.
use Rattle.std.proofs.Common.{◌≡◌, ℕ, List, true, false, Ok, Err, subst}
use Rattle.std.specs.Prelude.{Result, OnOk}
use Rattle.nfs_spec.specs.nfs_items.Timeval.{Timeval}
use Rattle.nfs_spec.specs.nfs_items.Caller.{Caller}
use Rattle.nfs_spec.specs.nfs_items.declared.stat.Stat.{Stat}
use Rattle.nfs_spec.specs.fs_spec.Files.{Files}
use Rattle.nfs_spec.specs.fs_spec.Trees.{IsTime, IsFileTree}
use Rattle.nfs_spec.specs.Changes.{Effect}
use Rattle.nfs_spec.specs.Procedures.{remove, remove_dir}
use Rattle.inode_table.proofs.nfs_laws.OfSteps.Removing.{remove_ok, remove_dir_ok}
use Rattle.inode_table.specs.nfs_laws.Laws.{UnnamesIn}
use Rattle.inode_table.proofs.nfs_laws.Paths.{remove_takes}
use Rattle.file_tree.specs.NameChecks.Names.{unnamed_by}
use Rattle.file_tree.specs.Performs.{Does}

-- what a check decides of a call is what is done by what it gave
pub does_checked : {v w : Files} → v ≡ w → (now : Timeval) (dir : ℕ) (name : List ℕ)
    (call : Files → Effect (Unit {0})) (checked : Result ℕ Stat) → unnamed_by now v dir name checked ≡ call v
    → (r : Result (Unit {0}) Stat) (after : Files) → Does (unnamed_by now w dir name checked) w r after
    → Does (call w) w r after
does_checked {v} {w} same now dir name call checked decided r after does =
    subst (λ (e : Effect (Unit {0})). Does e w r after)
    (subst (λ (x : Files). unnamed_by now x dir name checked ≡ call x) same decided) does

module _ (now : Timeval) (time : IsTime now) (w : Files) (tree : IsFileTree w) (who : Caller) (dir : ℕ)
    (name : List ℕ) where
  -- REMOVE takes one path out
  pub removed : (r : Result (Unit {0}) Stat) (after : Files) → Does (remove w who now dir name) w r after
      → OnOk r (UnnamesIn w after dir name)
  removed (Ok u) after h =
      remove_takes now time w tree who false dir name after (remove_ok w who now dir name after h)
  removed (Err e) after h = tt

  -- and so does RMDIR
  pub dir_removed : (r : Result (Unit {0}) Stat) (after : Files)
      → Does (remove_dir w who now dir name) w r after → OnOk r (UnnamesIn w after dir name)
  dir_removed (Ok u) after h =
      remove_takes now time w tree who true dir name after (remove_dir_ok w who now dir name after h)
  dir_removed (Err e) after h = tt
