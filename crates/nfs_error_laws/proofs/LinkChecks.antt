-- LINK gives the stat of the first of `link_checks` that fails.
-- Serves: stats_of_link; by CallChecks stats_of_calls.
use Rattle.std.proofs.Common.{ℕ, not, List, ap}
use Rattle.nfs_items.specs.Timeval.{Timeval}
use Rattle.nfs_items.specs.Caller.{Caller}
use Rattle.nfs_items.specs.declared.stat.Stat.TheVariants as stats
use Rattle.fs_spec.specs.Files.{Files, file_at, is_directory}
use Rattle.fs_spec.specs.Changes.Edits.{with_name}
use Rattle.fs_spec.specs.Changes.Limits.{has_room}
use Rattle.nfs_spec.specs.FileAttributes.{is_directory_at}
use Rattle.nfs_spec.specs.ProcedureChecks.{file_of, dir_of, check, check_room, check_edit, check_free}
use Rattle.nfs_spec.specs.Changes.{touch, touch_ctime}
use Rattle.nfs_spec.specs.Procedures.{link}
use Rattle.nfs_laws.proofs.OfSteps.Steps.{found_ok, dir_ok}
use Rattle.nfs_error_laws.specs.Checks.{is_dir}
use Rattle.nfs_error_laws.specs.Tables.{link_checks}
use Rattle.nfs_error_laws.proofs.StepsInTurn.{HasStat, in_turn, done, of_check, of_same, of_file, of_dir}
use Rattle.nfs_error_laws.proofs.StepsInTurn.{test_at}
use Rattle.nfs_error_laws.proofs.StepsInTurn.{of_edit, of_free}

-- LINK: the file, its kind, the directory, the edit, the free name, and room
pub of_link : (w : Files) (who : Caller) (now : Timeval) (from dir : ℕ) (name : List ℕ)
    → HasStat (link w who now from dir name) (link_checks w who now from dir name)
of_link w who now from dir name =
    let after = touch now (with_name (touch_ctime now w from) dir name from) dir in
    in_turn (file_of w from) _ (of_file w from) (λ f is.
    let there = found_ok stats.Stale (file_at w from) f is in
    in_turn (check (not (is_directory f.body)) stats.IsDir) _
    (of_same (not (is_directory f.body)) (not (is_directory_at w from)) stats.IsDir
    (ap not (test_at w from f is_dir there))) (λ _ _.
    in_turn (dir_of w dir) _ (of_dir w dir) (λ d is.
    let found = dir_ok w dir d is in
    in_turn (check_edit who d name) _ (of_edit w dir d found name who) (λ _ _.
    in_turn (check_free d name) _ (of_free w dir d found name) (λ _ _.
    in_turn (check_room after) _ (of_check (has_room after) stats.NoSpc) (λ _ _. done _))))))
