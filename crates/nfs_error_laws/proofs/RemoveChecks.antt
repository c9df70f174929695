-- REMOVE and RMDIR give in a tree the stat of the first of their checks that fails.
-- Serves: stats_of_remove, stats_of_remove_dir; by CallChecks stats_of_calls.
use Rattle.std.proofs.Common.{◌≡◌, ℕ, Bool, not, List, [], ◌∷◌, length, Some, sym, ap, subst, ◌∙◌}
use Rattle.std.specs.Prelude.{◌==◌}
use Rattle.nfs_items.specs.Timeval.{Timeval}
use Rattle.nfs_items.specs.Caller.{Caller}
use Rattle.nfs_items.specs.declared.stat.Stat.TheVariants as stats
use Rattle.fs_spec.specs.Listing.{Listing}
use Rattle.fs_spec.specs.Files.{Files, file_at, listing_in, is_directory, directory_entries}
use Rattle.fs_spec.specs.Trees.{IsFileTree}
use Rattle.nfs_spec.specs.ProcedureChecks.{file_of, dir_of, listing_or, check, check_edit, number_at}
use Rattle.nfs_spec.specs.Procedures.{remove, remove_dir}
use Rattle.nfs_laws.proofs.OfSteps.Steps.{found_ok, directory_ok, dir_ok, number_ok, entry_found}
use Rattle.nfs_error_laws.specs.Checks.{holds_named, is_dir}
use Rattle.nfs_error_laws.specs.Tables.{remove_checks, remove_dir_checks}
use Rattle.nfs_error_laws.proofs.StepsInTurn.{HasStat, in_turn, done, of_same, of_that_file, of_dir}
use Rattle.nfs_error_laws.proofs.StepsInTurn.{test_named}
use Rattle.nfs_error_laws.proofs.StepsInTurn.{named_file, of_listing, of_edit, of_number}

module _ (w : Files) (tree : IsFileTree w) (who : Caller) (now : Timeval) (dir : ℕ) (name : List ℕ) where
  -- REMOVE: `remove_checks`
  pub of_remove : HasStat (remove w who now dir name) (remove_checks w who dir name)
  of_remove =
      in_turn (dir_of w dir) _ (of_dir w dir) (λ d is.
      let found = dir_ok w dir d is in
      in_turn (check_edit who d name) _ (of_edit w dir d found name who) (λ _ _.
      in_turn (number_at d name) _ (of_number w dir d found name) (λ n at.
      let p = number_ok d name n at in
      let entry : directory_entries w dir name ≡ Some (n, p.0) = entry_found w dir d found name ∙ p.1 in
      let own = named_file w tree dir name n p.0 entry in
      in_turn (file_of w n) _ (of_that_file w n own.0 own.1) (λ f is.
      let there = found_ok stats.Stale (file_at w n) f is in
      in_turn (check (not (is_directory f.body)) stats.IsDir) _
      (of_same (not (is_directory f.body)) (not (holds_named w dir name is_dir)) stats.IsDir
      (ap not (test_named w dir name n p.0 f is_dir entry there))) (λ _ _. done _)))))

  -- RMDIR: `remove_dir_checks`
  pub of_remove_dir : HasStat (remove_dir w who now dir name) (remove_dir_checks w who dir name)
  of_remove_dir =
      in_turn (dir_of w dir) _ (of_dir w dir) (λ d is.
      let found = dir_ok w dir d is in
      in_turn (check_edit who d name) _ (of_edit w dir d found name who) (λ _ _.
      in_turn (number_at d name) _ (of_number w dir d found name) (λ n at.
      let p = number_ok d name n at in
      let entry : directory_entries w dir name ≡ Some (n, p.0) = entry_found w dir d found name ∙ p.1 in
      let own = named_file w tree dir name n p.0 entry in
      in_turn (file_of w n) _ (of_that_file w n own.0 own.1) (λ f is.
      let there = found_ok stats.Stale (file_at w n) f is in
      in_turn (listing_or stats.NotDir f.body) _
      (subst (λ (b : Bool). HasStat (listing_or stats.NotDir f.body) ((b, stats.NotDir) ∷ []))
      (sym (test_named w dir name n p.0 f is_dir entry there)) (of_listing f.body)) (λ l at.
      let q = directory_ok stats.NotDir f.body l at in
      in_turn (check (length l.entries == 0) stats.NotEmpty) _
      (of_same (length l.entries == 0)
      (holds_named w dir name (λ f. length (listing_in f.body).entries == 0)) stats.NotEmpty
      (test_named w dir name n p.0 f (λ f. length (listing_in f.body).entries == 0) entry there
      ∙ ap (λ (l : Listing). length l.entries == 0) q.1)) (λ _ _. done _))))))
