-- RENAME gives in a tree the stat of the first of `rename_checks` that fails; where both names stand for one
-- file nothing more is asked.
-- Serves: stats_of_rename; by CallChecks stats_of_calls.
use Rattle.std.proofs.Common.{◌≡◌, ℕ, Bool, true, false, cond, not, List, [], ◌∷◌, Option, Some, None, Result}
use Rattle.std.proofs.Common.{Ok, option_map, refl, sym, ap, subst, ◌∙◌}
use Rattle.std.specs.Prelude.{◌&&◌, ◌||◌, ◌==◌, nat_le, is_none}
use Rattle.std.specs.Option.{option_map_or}
use Rattle.nfs_items.specs.Timeval.{Timeval}
use Rattle.nfs_items.specs.Caller.{Caller}
use Rattle.nfs_items.specs.declared.stat.Stat.{Stat}
use Rattle.nfs_items.specs.declared.stat.Stat.TheVariants as stats
use Rattle.fs_spec.specs.Listing.{Listing, entry_at}
use Rattle.fs_spec.specs.Files.{File, Files, file_at, listing, listing_in, is_directory, directory_entries}
use Rattle.fs_spec.specs.Trees.{IsFileTree}
use Rattle.nfs_spec.specs.ProcedureChecks.{◌>>=◌, NumberedDir, file_of, dir_of, check, check_cookie}
use Rattle.nfs_spec.specs.ProcedureChecks.{check_edit, number_at}
use Rattle.nfs_spec.specs.Procedures.{is_above, check_target, move_entry, rename}
use Rattle.nfs_laws.specs.Steps.Granted.{IsFound}
use Rattle.nfs_laws.proofs.OfSteps.Steps.{found_ok, dir_ok, number_ok, entry_found}
use Rattle.nfs_error_laws.specs.Checks.{Checks, holds_named, is_dir, lists_nothing}
use Rattle.nfs_error_laws.specs.Tables.{is_same_file, is_named_above, rename_checks}
use Rattle.nfs_error_laws.proofs.StepsInTurn.{HasStat, in_turn, done, of_same, of_that_file, of_dir}
use Rattle.nfs_error_laws.proofs.StepsInTurn.{test_named}
use Rattle.nfs_error_laws.proofs.StepsInTurn.{named_file, of_edit, of_number}

branch : {A : Type 0} (b : Bool) (x : A) (r : Result A Stat) (cs : Checks) → HasStat r cs
    → HasStat (cond b (Ok x) r) (cond b [] cs)
branch true x r cs h = done x
branch false x r cs h = h

abbrev target_checks : Bool → Bool → Bool → Bool → Checks
target_checks free source target empty =
    (free || not source || target, stats.NotDir) ∷ (free || source || not target, stats.IsDir)
    ∷ (free || empty, stats.NotEmpty) ∷ []

module _ (w : Files) (tree : IsFileTree w) (who : Caller) (now : Timeval) (from : ℕ) (from_name : List ℕ)
    (to : ℕ) (to_name : List ℕ) where
  module _ (e : NumberedDir) (found : IsFound w to e) (n b : ℕ)
      (at : directory_entries w from from_name ≡ Some (n, b)) (f : File) (there : file_at w n ≡ Some f) where
    same_is : is_same_file w from from_name to to_name
        ≡ option_map_or (λ t. t == n) (option_map (λ e. e.0) (entry_at e.listing to_name)) false
    same_is =
        ap (λ (o : Option (ℕ × ℕ)). option_map_or
        (λ s. option_map_or (λ t. t.0 == s.0) (directory_entries w to to_name) false) o false) at
        ∙ ap (λ (o : Option (ℕ × ℕ)). option_map_or (λ t. t.0 == n) o false)
        (entry_found w to e found to_name)
        ∙ by (entry_at e.listing to_name)
      where
        by : (o : Option (ℕ × ℕ))
            → option_map_or (λ t. t.0 == n) o false
            ≡ option_map_or (λ t. t == n) (option_map (λ e. e.0) o) false
        by None = refl
        by (Some t) = refl

    above_is : is_named_above w from from_name to ≡ (is_directory f.body && is_above w n to)
    above_is =
        ap (λ b. b && option_map_or (λ e. is_above w e.0 to) (directory_entries w from from_name) false)
        (test_named w from from_name n b f is_dir at there)
        ∙ ap (λ (o : Option (ℕ × ℕ)). is_directory f.body && option_map_or
        (λ e. is_above w e.0 to) o false) at

    cookie_is : nat_le (listing w to).next 4294967294 ≡ nat_le e.listing.next 4294967294
    cookie_is = ap (λ (l : Listing). nat_le l.next 4294967294)
        (ap (λ (o : Option File). option_map_or (λ f. listing_in f.body) o
        (record { next = 0; entries = [] })) found.there ∙ found.listing)

    source : holds_named w from from_name is_dir ≡ is_directory f.body
    source = test_named w from from_name n b f is_dir at there

    of_target : HasStat (check_target w f (option_map (λ e. e.0) (entry_at e.listing to_name)))
        (target_checks (is_none (directory_entries w to to_name)) (holds_named w from from_name is_dir)
        (holds_named w to to_name is_dir) (holds_named w to to_name lists_nothing))
    of_target =
        subst (λ (o : Option (ℕ × ℕ)). HasStat (check_target w f (option_map (λ e. e.0) o))
        (target_checks (is_none (directory_entries w to to_name)) (holds_named w from from_name is_dir)
        (holds_named w to to_name is_dir) (holds_named w to to_name lists_nothing)))
        (entry_found w to e found to_name)
        (by (directory_entries w to to_name) refl)
      where
        by : (o : Option (ℕ × ℕ)) → directory_entries w to to_name ≡ o
            → HasStat (check_target w f (option_map (λ e. e.0) o))
            (target_checks (is_none o) (holds_named w from from_name is_dir) (holds_named w to to_name is_dir)
            (holds_named w to to_name lists_nothing))
        by None is = record { says = refl }
        by (Some t) is =
            let own = named_file w tree to to_name t.0 t.1 is in
            in_turn (file_of w t.0) _ (of_that_file w t.0 own.0 own.1) (λ g at_t.
            let there_t = found_ok stats.Stale (file_at w t.0) g at_t in
            let target = test_named w to to_name t.0 t.1 g is_dir is there_t in
            in_turn (check (not (is_directory f.body) || is_directory g.body) stats.NotDir) _
            (of_same _ (not
            (holds_named w from from_name is_dir) || holds_named w to to_name is_dir) stats.NotDir
            (ap (λ s. not s || holds_named w to to_name is_dir) source
            ∙ ap (λ t. not (is_directory f.body) || t) target)) (λ _ _.
            in_turn (check (is_directory f.body || not (is_directory g.body)) stats.IsDir) _
            (of_same _ (holds_named w from from_name is_dir || not
            (holds_named w to to_name is_dir)) stats.IsDir
            (ap (λ s. s || not (holds_named w to to_name is_dir)) source
            ∙ ap (λ t. is_directory f.body || not t) target)) (λ _ _.
            of_same (lists_nothing g) (holds_named w to to_name lists_nothing) stats.NotEmpty
            (test_named w to to_name t.0 t.1 g lists_nothing is there_t))))

    abbrev moving_checks : Checks
    moving_checks =
        (not (is_named_above w from from_name to), stats.Acces)
        ∷ (
          is_none (directory_entries w to to_name) || not
              (holds_named w from from_name is_dir) || holds_named w to to_name is_dir,
          stats.NotDir,
        )
        ∷ (
          is_none (directory_entries w to to_name) || holds_named w from from_name is_dir || not
              (holds_named w to to_name is_dir),
          stats.IsDir,
        )
        ∷ (is_none (directory_entries w to to_name) || holds_named w to to_name lists_nothing, stats.NotEmpty)
        ∷ (nat_le (listing w to).next 4294967294, stats.NoSpc)
        ∷ []

    abbrev target : Option ℕ
    target = option_map (λ e. e.0) (entry_at e.listing to_name)

    abbrev moving : Result (Unit {0} × Files) Stat
    moving = check (not (is_directory f.body && is_above w n to)) stats.Acces >>= λ _. check_target w f target
        >>= λ _. check_cookie e.listing >>= λ _. Ok (tt, move_entry now w n from from_name to to_name target)

    of_moving : HasStat moving moving_checks
    of_moving =
        in_turn (check (not (is_directory f.body && is_above w n to)) stats.Acces) _
        (of_same _ (not (is_named_above w from from_name to)) stats.Acces (ap not above_is)) (λ _ _.
        in_turn (check_target w f target) _ of_target (λ _ _.
        in_turn (check_cookie e.listing) _
        (of_same _ (nat_le (listing w to).next 4294967294) stats.NoSpc cookie_is) (λ _ _. done _)))

    of_end : HasStat (cond (option_map_or (λ t. t == n) target false) (Ok (tt, w)) moving)
        (cond (is_same_file w from from_name to to_name) [] moving_checks)
    of_end = subst (λ (b : Bool). HasStat (cond (option_map_or (λ t. t == n) target false)
        (Ok (tt, w)) moving) (cond b [] moving_checks)) (sym same_is)
        (branch _ (tt, w) moving moving_checks of_moving)

  -- RENAME: `rename_checks`
  pub of_rename : HasStat (rename w who now from from_name to to_name)
      (rename_checks w who from from_name to to_name)
  of_rename =
      in_turn (dir_of w from) _ (of_dir w from) (λ d is_d.
      let found_d = dir_ok w from d is_d in
      in_turn (dir_of w to) _ (of_dir w to) (λ e is_e.
      let found_e = dir_ok w to e is_e in
      in_turn (check_edit who d from_name) _ (of_edit w from d found_d from_name who) (λ _ _.
      in_turn (check_edit who e to_name) _ (of_edit w to e found_e to_name who) (λ _ _.
      in_turn (number_at d from_name) _ (of_number w from d found_d from_name) (λ n is_n.
      let p = number_ok d from_name n is_n in
      let at : directory_entries w from from_name ≡ Some (n, p.0) =
      entry_found w from d found_d from_name ∙ p.1 in
      let own = named_file w tree from from_name n p.0 at in
      in_turn (file_of w n) _ (of_that_file w n own.0 own.1) (λ f is_f.
      of_end e found_e n p.0 at f (found_ok stats.Stale (file_at w n) f is_f)))))))
