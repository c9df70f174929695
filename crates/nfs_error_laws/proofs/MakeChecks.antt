-- MKDIR and SYMLINK give the stat of the first of their checks that fails: those of a new file in a
-- directory.
-- Serves: stats_of_changes_are_of_the_first_failing_check; by CallChecks stats_of_calls.
use Rattle.std.proofs.Common.{ℕ, List, [], ◌∷◌, ◌++◌}
use Rattle.std.specs.Prelude.{is_none}
use Rattle.nfs_items.specs.Timeval.{Timeval}
use Rattle.nfs_items.specs.Caller.{Caller}
use Rattle.nfs_items.specs.declared.stat.Stat.TheVariants as stats
use Rattle.fs_spec.specs.Files.{File, Files, directory_entries}
use Rattle.fs_spec.specs.Changes.Limits.{has_room}
use Rattle.nfs_spec.specs.ProcedureChecks.{dir_of, check_room, check_edit, check_free}
use Rattle.nfs_spec.specs.Procedures.{add_file, make}
use Rattle.nfs_laws.proofs.OfSteps.Steps.{dir_ok}
use Rattle.nfs_error_laws.specs.Tables.{directory_checks, edit_checks}
use Rattle.nfs_error_laws.proofs.StepsInTurn.{HasStat, in_turn, done, of_check, of_dir, of_edit, of_free}

-- a new file: the directory, the edit, the free name, and room
pub of_make : (w : Files) (who : Caller) (now : Timeval) (dir : ℕ) (name : List ℕ) (f : File)
    → HasStat (make w who now dir name f)
    (directory_checks w dir ++ edit_checks w who dir name
    ++ (is_none (directory_entries w dir name), stats.Exist)
    ∷ (has_room (add_file now w dir name f), stats.NoSpc) ∷ [])
of_make w who now dir name f =
    let after = add_file now w dir name f in
    in_turn (dir_of w dir) _ (of_dir w dir) (λ d is.
    let found = dir_ok w dir d is in
    in_turn (check_edit who d name) _ (of_edit w dir d found name who) (λ _ _.
    in_turn (check_free d name) _ (of_free w dir d found name) (λ _ _.
    in_turn (check_room after) _ (of_check (has_room after) stats.NoSpc) (λ _ _. done _))))
