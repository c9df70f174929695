-- WRITE gives the stat of the first of `write_checks` that fails.
-- Serves: stats_of_changes_are_of_the_first_failing_check; by CallChecks stats_of_calls.
use Rattle.std.proofs.Common.{◌≡◌, ℕ, ◌+◌, Bool, true, false, cond, List, [], ◌∷◌, length, Option, Result, Ok}
use Rattle.std.proofs.Common.{refl, ap, ◌∙◌}
use Rattle.std.specs.Prelude.{◌||◌, ◌==◌, nat_le}
use Rattle.std.specs.Option.{option_map_or}
use Rattle.nfs_items.specs.Timeval.{Timeval}
use Rattle.nfs_items.specs.Caller.{Caller}
use Rattle.nfs_items.specs.declared.stat.Stat.{Stat}
use Rattle.nfs_items.specs.declared.stat.Stat.TheVariants as stats
use Rattle.fs_spec.specs.Files.{File, Files, file_at}
use Rattle.fs_spec.specs.Changes.Edits.{with_changed_file}
use Rattle.fs_spec.specs.Changes.Limits.{has_room}
use Rattle.nfs_spec.specs.ProcedureChecks.{file_of, bytes_of, check, check_size, check_room, may_write}
use Rattle.nfs_spec.specs.Procedures.{with_bytes_written, write}
use Rattle.nfs_laws.proofs.OfSteps.Steps.{found_ok, bytes_ok}
use Rattle.nfs_error_laws.specs.Checks.{bytes_in, bytes_at}
use Rattle.nfs_error_laws.specs.Tables.{after_write, write_checks}
use Rattle.nfs_error_laws.proofs.StepsInTurn.{HasStat, in_turn, done, of_check, of_same, of_file, of_bytes_at}
use Rattle.nfs_error_laws.proofs.StepsInTurn.{of_test_at}

-- where there is nothing to do the last two checks pass
of_some : {A : Type 0} (none size room : Bool) (x : A) (r : Result A Stat)
    → HasStat r ((size, stats.FBig) ∷ (room, stats.NoSpc) ∷ [])
    → HasStat (cond none (Ok x) r) ((none || size, stats.FBig) ∷ (none || room, stats.NoSpc) ∷ [])
of_some true size room x r h = record { says = refl }
of_some false size room x r h = h

-- WRITE: `write_checks`
pub of_write : (w : Files) (who : Caller) (now : Timeval) (n offset : ℕ) (new : List ℕ)
    → HasStat (write w who now n offset new) (write_checks w who now n offset new)
of_write w who now n offset new =
    in_turn (file_of w n) _ (of_file w n) (λ f is.
    let there = found_ok stats.Stale (file_at w n) f is in
    in_turn (bytes_of f.body) _ (of_bytes_at w n f there) (λ old at.
    let held : bytes_at w n ≡ old = ap (λ (o : Option File). option_map_or (λ f. bytes_in f.body) o []) there
    ∙ ap bytes_in (bytes_ok f.body old at) in
    let after = with_changed_file w n (with_bytes_written now offset new old) in
    in_turn (check (may_write who f) stats.Acces) _ (of_test_at w n f there (may_write who) stats.Acces)
    (λ _ _.
    of_some (length new == 0) (nat_le (offset + length new) 1048576)
    (has_room (after_write w now n offset new)) _ _
    (in_turn (check_size (offset + length new)) _ (of_check (nat_le (offset + length new) 1048576) stats.FBig)
    (λ _ _.
    in_turn (check_room after) _
    (of_same (has_room after) (has_room (after_write w now n offset new)) stats.NoSpc
    (ap (λ b. has_room (with_changed_file w n (with_bytes_written now offset new b))) held))
    (λ _ _. done _))))))
