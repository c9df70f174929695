-- CREATE gives in a tree the stat of the first of `create_checks` that fails: over a name that is there those
-- of SETATTR, of a new name those of a new file.
-- Serves: stats_of_create; by CallChecks stats_of_calls.
use Rattle.std.proofs.Common.{◌≡◌, ℕ, List, [], ◌∷◌, replicate, Option, Some, None, refl, sym, ap, subst}
use Rattle.std.specs.Prelude.{nat_le, unwrap_or}
use Rattle.std.specs.Option.{option_map_or}
use Rattle.nfs_items.specs.Timeval.{Timeval}
use Rattle.nfs_items.specs.Caller.{Caller}
use Rattle.nfs_items.specs.declared.stat.Stat.TheVariants as stats
use Rattle.fs_spec.specs.Listing.{entry_at}
use Rattle.fs_spec.specs.Names.{is_name}
use Rattle.fs_spec.specs.Files.{Regular, Files, file_at, directory_entries}
use Rattle.fs_spec.specs.Trees.{IsFileTree}
use Rattle.fs_spec.specs.Changes.Limits.{has_room}
use Rattle.nfs_spec.specs.ProcedureChecks.{NumberedDir, file_of, dir_of, check, check_size, check_room}
use Rattle.nfs_spec.specs.ProcedureChecks.{may_search, may_write}
use Rattle.nfs_spec.specs.Sattr.{GivenFields}
use Rattle.nfs_spec.specs.Changes.{new_file}
use Rattle.nfs_spec.specs.Procedures.{set_attributes, create_over, create_new, create, is_regular, add_file}
use Rattle.nfs_laws.specs.Steps.Granted.{IsFound}
use Rattle.nfs_laws.proofs.OfSteps.Steps.{found_ok, dir_ok, entry_found}
use Rattle.nfs_error_laws.specs.Checks.{Checks, holds_at, if_given}
use Rattle.nfs_error_laws.specs.Tables.{set_checks, create_checks}
use Rattle.nfs_error_laws.proofs.StepsInTurn.{HasStat, in_turn, done, of_check, of_same, of_that_file, of_dir}
use Rattle.nfs_error_laws.proofs.StepsInTurn.{of_test_at, named_file}
use Rattle.nfs_error_laws.proofs.SetattrChecks.{of_set}

module _ (w : Files) (tree : IsFileTree w) (who : Caller) (now : Timeval) (dir : ℕ) (name : List ℕ) where
  module _ (a : GivenFields) where
    of_over : (n c : ℕ) → directory_entries w dir name ≡ Some (n, c)
        → HasStat (create_over w who now a n)
        ((holds_at w n (λ f. is_regular f.body), stats.Exist) ∷ set_checks w who now n a)
    of_over n c entry =
        let own = named_file w tree dir name n c entry in
        in_turn (file_of w n) _ (of_that_file w n own.0 own.1) (λ f is.
        let there = found_ok stats.Stale (file_at w n) f is in
        in_turn (check (is_regular f.body) stats.Exist) _
        (of_test_at w n f there (λ f. is_regular f.body) stats.Exist) (λ _ _.
        in_turn (set_attributes w who now n a) _ (of_set w who now n a) (λ _ _. done _)))

    of_size : (size : Option ℕ)
        → HasStat (check_size (unwrap_or size 0))
        ((if_given size (λ size. nat_le size 1048576), stats.FBig) ∷ [])
    of_size None = record { says = refl }
    of_size (Some size) = record { says = (of_check (nat_le size 1048576) stats.FBig).says }

    abbrev new : ℕ → Files
    new n = add_file now w n name (new_file who now a 420 (Regular (replicate (unwrap_or a.size 0) 0)))

    abbrev new_checks : Checks
    new_checks =
        (holds_at w dir (may_write who), stats.Acces)
        ∷ (if_given a.size (λ size. nat_le size 1048576), stats.FBig) ∷ (has_room (new dir), stats.NoSpc) ∷ []

    of_new : (d : NumberedDir) → IsFound w dir d → HasStat (create_new w who now d name a) new_checks
    of_new d found =
        in_turn (check (may_write who d.file) stats.Acces) _
        (of_test_at w dir d.file found.there (may_write who) stats.Acces) (λ _ _.
        in_turn (check_size (unwrap_or a.size 0)) _ (of_size a.size) (λ _ _.
        in_turn (check_room (new d.number)) _
        (of_same (has_room (new d.number)) (has_room (new dir)) stats.NoSpc
        (ap (λ n. has_room (new n)) (sym found.number))) (λ _ _. done _)))

    -- CREATE: `create_checks`
    pub of_create : HasStat (create w who now dir name a) (create_checks w who now dir name a)
    of_create =
        in_turn (dir_of w dir) _ (of_dir w dir) (λ d is.
        let found = dir_ok w dir d is in
        in_turn (check (is_name name) stats.Acces) _ (of_check (is_name name) stats.Acces) (λ _ _.
        in_turn (check (may_search who d.file) stats.Acces) _
        (of_test_at w dir d.file found.there (may_search who) stats.Acces) (λ _ _.
        ends d found (entry_at d.listing name) (entry_found w dir d found name))))
      where
        ends : (d : NumberedDir) (found : IsFound w dir d) (o : Option (ℕ × ℕ))
            → directory_entries w dir name ≡ o
            → HasStat (option_map_or (λ e. create_over w who now a e.0) o (create_new w who now d name a))
            (option_map_or (λ (e : ℕ × ℕ). (holds_at w e.0 (λ f. is_regular f.body), stats.Exist)
            ∷ set_checks w who now e.0 a) (directory_entries w dir name) new_checks)
        ends d found o e =
            subst (λ (p : Option (ℕ × ℕ)). HasStat
            (option_map_or (λ e. create_over w who now a e.0) o (create_new w who now d name a))
            (option_map_or (λ (e : ℕ × ℕ). (holds_at w e.0 (λ f. is_regular f.body), stats.Exist)
            ∷ set_checks w who now e.0 a) p new_checks)) (sym e)
            (by o e)
          where
            by : (o : Option (ℕ × ℕ)) → directory_entries w dir name ≡ o
                → HasStat (option_map_or (λ e. create_over w who now a e.0) o (create_new w who now d name a))
                (option_map_or (λ (e : ℕ × ℕ). (holds_at w e.0 (λ f. is_regular f.body), stats.Exist)
                ∷ set_checks w who now e.0 a) o new_checks)
            by None e = of_new d found
            by (Some p) e = of_over p.0 p.1 e
