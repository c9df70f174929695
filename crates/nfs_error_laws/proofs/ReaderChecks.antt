-- GETATTR, LOOKUP, READLINK, READ, READDIR and STATFS give the stat of the first of their checks that fails.
-- Serves: stats_are_of_the_first_failing_check; by CallChecks stats_of_calls.
use Rattle.std.proofs.Common.{◌≡◌, ℕ, Bool, true, false, cond, List, [], ◌∷◌, Option, Some, None, Err, refl}
use Rattle.std.proofs.Common.{sym, ap, subst, ◌∙◌}
use Rattle.std.specs.Prelude.{◌||◌, is_some}
use Rattle.std.specs.Option.{option_map_or}
use Rattle.nfs_items.specs.Caller.{Caller}
use Rattle.nfs_items.specs.declared.stat.Stat.TheVariants as stats
use Rattle.fs_spec.specs.Listing.{Listing}
use Rattle.fs_spec.specs.Files.{File, Files, file_at, listing, listing_in}
use Rattle.nfs_spec.specs.ProcedureChecks.{ok_or, listing_or, file_of, dir_of, bytes_of, check, permits}
use Rattle.nfs_spec.specs.ProcedureChecks.{may_search, may_read}
use Rattle.nfs_spec.specs.Effects.{attributes_at, number_named, number_at_name}
use Rattle.nfs_spec.specs.Procedures.{read_link, read, read_dir, stat_fs}
use Rattle.nfs_laws.proofs.OfSteps.Steps.{found_ok, directory_ok, dir_ok}
use Rattle.nfs_error_laws.specs.Tables.{file_checks, lookup_checks, read_link_checks, read_checks}
use Rattle.nfs_error_laws.specs.Tables.{read_dir_checks}
use Rattle.nfs_error_laws.proofs.StepsInTurn.{HasStat, in_turn, done, of_file, of_dir, of_listing_at}
use Rattle.nfs_error_laws.proofs.StepsInTurn.{of_bytes_at}
use Rattle.nfs_error_laws.proofs.StepsInTurn.{of_target_at, of_test_at, test_at}

-- GETATTR: STALE
pub of_getattr : (w : Files) (n : ℕ) → HasStat (attributes_at w n) (file_checks w n)
of_getattr w n = in_turn (file_of w n) _ (of_file w n) (λ f _. done _)

-- STATFS: STALE
pub of_figures : (w : Files) (n : ℕ) → HasStat (stat_fs w n) (file_checks w n)
of_figures w n = in_turn (file_of w n) _ (of_file w n) (λ f _. done _)

-- a check that is an `if`, and then what is found
found_if : {A : Type 0} (b : Bool) (o : Option A)
    → HasStat (cond b (ok_or stats.NoEnt o) (Err stats.Acces))
    ((b, stats.Acces) ∷ (is_some o, stats.NoEnt) ∷ [])
found_if true None = record { says = refl }
found_if true (Some x) = record { says = refl }
found_if false o = record { says = refl }

-- LOOKUP: `lookup_checks`
pub of_lookup : (w : Files) (who : Caller) (dir : ℕ) (name : List ℕ)
    → HasStat (number_at_name w who dir name) (lookup_checks w who dir name)
of_lookup w who dir name =
    in_turn (file_of w dir) _ (of_file w dir) (λ f is.
    let there = found_ok stats.Stale (file_at w dir) f is in
    in_turn (listing_or stats.NotDir f.body) _ (of_listing_at w dir f there) (λ l at.
    let listed : listing w dir
    ≡ l = ap (λ (o : Option File). option_map_or (λ f. listing_in f.body) o
    (record { next = 0; entries = [] })) there ∙ (directory_ok stats.NotDir f.body l at).1 in
    subst (λ (b : Bool). HasStat
    (cond (may_search who f) (ok_or stats.NoEnt (number_named w dir l name)) (Err stats.Acces))
    ((b, stats.Acces) ∷ (is_some (number_named w dir (listing w dir) name), stats.NoEnt) ∷ []))
    (sym (test_at w dir f (may_search who) there))
    (subst (λ (m : Listing). HasStat
    (cond (may_search who f) (ok_or stats.NoEnt (number_named w dir l name)) (Err stats.Acces))
    ((may_search who f, stats.Acces) ∷ (is_some (number_named w dir m name), stats.NoEnt) ∷ []))
    (sym listed)
    (found_if (may_search who f) (number_named w dir l name)))))

-- READLINK: `read_link_checks`
pub of_read_link : (w : Files) (n : ℕ) → HasStat (read_link w n) (read_link_checks w n)
of_read_link w n =
    in_turn (file_of w n) _ (of_file w n)
    (λ f is. of_target_at w n f (found_ok stats.Stale (file_at w n) f is))

-- READ: `read_checks`
pub of_read : (w : Files) (who : Caller) (n offset count : ℕ)
    → HasStat (read w who n offset count) (read_checks w who n)
of_read w who n offset count =
    in_turn (file_of w n) _ (of_file w n) (λ f is.
    let there = found_ok stats.Stale (file_at w n) f is in
    in_turn (bytes_of f.body) _ (of_bytes_at w n f there) (λ bytes _.
    in_turn (check (may_read who f || permits who f 1) stats.Acces) _
    (of_test_at w n f there (λ f. may_read who f || permits who f 1) stats.Acces) (λ _ _. done _)))

-- READDIR: `read_dir_checks`
pub of_read_dir : (w : Files) (who : Caller) (dir cookie count : ℕ)
    → HasStat (read_dir w who dir cookie count) (read_dir_checks w who dir)
of_read_dir w who dir cookie count =
    in_turn (dir_of w dir) _ (of_dir w dir) (λ d is.
    in_turn (check (may_read who d.file) stats.Acces) _
    (of_test_at w dir d.file (dir_ok w dir d is).there (may_read who) stats.Acces) (λ _ _. done _))
