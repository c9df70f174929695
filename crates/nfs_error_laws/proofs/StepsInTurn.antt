-- A step's stat is that of the first of its checks that fails, and of steps in turn that of the first of all
-- their checks: `in_turn` joins them; the steps that procedures share follow, each with its checks.
-- Serves: all laws of this crate but some_stats_are_never_given.
use Rattle.std.proofs.Common.{◌≡◌, ℕ, Bool, true, false, cond, List, [], ◌∷◌, ◌++◌, Option, Some, None}
use Rattle.std.proofs.Common.{Result, Ok, Err, option_map, not, refl, sym, ap, subst, ◌∙◌}
use Rattle.std.specs.Prelude.{◌&&◌, is_some, is_none, IsSome}
use Rattle.std.specs.Option.{option_map_or}
use Rattle.nfs_items.specs.Caller.{Caller}
use Rattle.nfs_items.specs.declared.stat.Stat.{Stat}
use Rattle.nfs_items.specs.declared.stat.Stat.TheVariants as stats
use Rattle.fs_spec.specs.Listing.{entry_at}
use Rattle.fs_spec.specs.Names.{is_name}
use Rattle.fs_spec.specs.Files.{Body, Regular, Symlink, Directory, File, Files, file_at, is_directory}
use Rattle.fs_spec.specs.Files.{directory_entries}
use Rattle.fs_spec.specs.Trees.{IsFileTree}
use Rattle.fs_spec.proofs.Walks.{none_some}
use Rattle.nfs_spec.specs.FileAttributes.{is_directory_at}
use Rattle.nfs_spec.specs.ProcedureChecks.{◌>>=◌, NumberedDir, ok_or, listing_or, file_of, dir_of, check}
use Rattle.nfs_spec.specs.ProcedureChecks.{check_edit, check_free, number_at, bytes_of, target_of, may_search}
use Rattle.nfs_spec.specs.ProcedureChecks.{may_write}
use Rattle.nfs_spec.specs.LawTerms.{stat_in}
use Rattle.nfs_laws.specs.Steps.Granted.{IsFound}
use Rattle.nfs_laws.proofs.OfSteps.Steps.{entry_found}
use Rattle.nfs_error_laws.specs.Checks.{Checks, first_failing, holds_at, holds_named, is_dir, is_link}
use Rattle.nfs_error_laws.specs.Tables.{file_checks, directory_checks, edit_checks}

-- what is there is not none
pub no_some : false ≡ true → ⊥
no_some h = cc

passed : (cs ds : Checks) → first_failing cs ≡ None → first_failing (cs ++ ds) ≡ first_failing ds
passed [] ds h = refl
passed (c ∷ cs) ds h =
    elim c.0 as (λ b. cond b (first_failing cs) (Some c.1) ≡ None
    → cond b (first_failing (cs ++ ds)) (Some c.1) ≡ first_failing ds) [
      | true ↦ λ is. passed cs ds is
      | false ↦ λ is. absurd (none_some (sym is))
    ] h

failed : (cs ds : Checks) (e : Stat) → first_failing cs ≡ Some e → first_failing (cs ++ ds) ≡ Some e
failed [] ds e h = absurd (none_some h)
failed (c ∷ cs) ds e h =
    elim c.0 as (λ b. cond b (first_failing cs) (Some c.1) ≡ Some e
    → cond b (first_failing (cs ++ ds)) (Some c.1) ≡ Some e) [
      | true ↦ λ is. failed cs ds e is
      | false ↦ λ is. is
    ] h

-- a step's stat is that of the first of these checks that fails
pub record HasStat {A : Type 0} (r : Result A Stat) (cs : Checks) : Type 0 where
  -- its stat, as the checks give it
  pub says : stat_in r ≡ first_failing cs

-- a step and then another: the checks of the first, and then those of the other
pub in_turn : {A B : Type 0} {cs ds : Checks} (r : Result A Stat) (f : A → Result B Stat) → HasStat r cs
    → ((x : A) → r ≡ Ok x → HasStat (f x) ds) → HasStat (r >>= f) (cs ++ ds)
in_turn {cs} {ds} (Ok x) f first next =
    record { says = (next x refl).says ∙ sym (passed cs ds (sym first.says)) }
in_turn {cs} {ds} (Err e) f first next = record { says = sym (failed cs ds e (sym first.says)) }

-- nothing is left to check
pub done : {A : Type 0} (x : A) → HasStat (Ok x) []
done x = record { says = refl }

-- one check by itself
pub of_check : (b : Bool) (e : Stat) → HasStat (check b e) ((b, e) ∷ [])
of_check true e = record { says = refl }
of_check false e = record { says = refl }

-- one check, whose test is said in another way
pub of_same : (b c : Bool) (e : Stat) → c ≡ b → HasStat (check b e) ((c, e) ∷ [])
of_same b c e same = record { says = (of_check b e).says ∙ ap (λ x. first_failing ((x, e) ∷ [])) (sym same) }

-- looking a file up: STALE
pub of_file : (w : Files) (n : ℕ) → HasStat (file_of w n) (file_checks w n)
of_file w n = record { says = by (file_at w n) }
  where
    by : (o : Option File) → stat_in (ok_or stats.Stale o) ≡ first_failing ((is_some o, stats.Stale) ∷ [])
    by None = refl
    by (Some f) = refl

-- a file that is there
pub of_that_file : (w : Files) (n : ℕ) (f : File) → file_at w n ≡ Some f → HasStat (file_of w n) []
of_that_file w n f there = record { says = ap (λ o. stat_in (ok_or stats.Stale o)) there }

abbrev found : NumberedDir → Result NumberedDir Stat
found d = Ok d

-- looking a directory up: STALE, then NOTDIR
pub of_dir : (w : Files) (n : ℕ) → HasStat (dir_of w n) (directory_checks w n)
of_dir w n = record { says = by (file_at w n) }
  where
    listed : (f : File) (b : Body)
        → stat_in (listing_or stats.NotDir b >>= λ l. found (record { number = n; file = f; listing = l }))
        ≡ first_failing ((is_directory b, stats.NotDir) ∷ [])
    listed f (Regular bytes) = refl
    listed f (Symlink target) = refl
    listed f (Directory l) = refl

    by : (o : Option File) → stat_in (ok_or stats.Stale o >>= λ f. listing_or stats.NotDir f.body
        >>= λ l. found (record { number = n; file = f; listing = l }))
        ≡ first_failing ((is_some o, stats.Stale)
        ∷ (option_map_or (λ f. is_directory f.body) o false, stats.NotDir) ∷ [])
    by None = refl
    by (Some f) = listed f f.body

-- a test of a number's file is the test of the file that is there
pub test_at : (w : Files) (n : ℕ) (f : File) (test : File → Bool) → file_at w n ≡ Some f
    → holds_at w n test ≡ test f
test_at w n f test there = ap (λ o. option_map_or test o false) there

-- a test of what a name stands for is the test of the file that is there
pub test_named : (w : Files) (dir : ℕ) (name : List ℕ) (n c : ℕ) (f : File) (test : File → Bool)
    → directory_entries w dir name ≡ Some (n, c) → file_at w n ≡ Some f → holds_named w dir name test ≡ test f
test_named w dir name n c f test at there =
    ap (λ o. option_map_or (λ (e : ℕ × ℕ). holds_at w e.0 test) o false) at ∙ test_at w n f test there

-- in a tree a name stands for a file
pub named_file : (w : Files) → IsFileTree w → (dir : ℕ) (name : List ℕ) (n c : ℕ)
    → directory_entries w dir name ≡ Some (n, c) → (f : File) × (file_at w n ≡ Some f)
named_file w tree dir name n c at = by (file_at w n) refl (tree.tree.named dir name n c at)
  where
    by : (o : Option File) → file_at w n ≡ o → IsSome o → (f : File) × (file_at w n ≡ Some f)
    by None e some = absurd (no_some some)
    by (Some f) e some = (f, e)

-- the listing of a body: NOTDIR
pub of_listing : (b : Body) → HasStat (listing_or stats.NotDir b) ((is_directory b, stats.NotDir) ∷ [])
of_listing (Regular bytes) = record { says = refl }
of_listing (Symlink target) = record { says = refl }
of_listing (Directory l) = record { says = refl }

module _ (w : Files) (n : ℕ) (f : File) (there : file_at w n ≡ Some f) where
  -- the listing of a file that is there
  pub of_listing_at : HasStat (listing_or stats.NotDir f.body) ((is_directory_at w n, stats.NotDir) ∷ [])
  of_listing_at =
      subst (λ (b : Bool). HasStat (listing_or stats.NotDir f.body) ((b, stats.NotDir) ∷ []))
      (sym (test_at w n f is_dir there)) (of_listing f.body)

  -- its bytes: ISDIR, then NXIO
  pub of_bytes_at : HasStat (bytes_of f.body)
      ((not (is_directory_at w n), stats.IsDir) ∷ (not (holds_at w n (λ f. is_link f.body)), stats.NxIo) ∷ [])
  of_bytes_at =
      subst (λ (o : Option File). HasStat (bytes_of f.body)
      ((not (option_map_or is_dir o false), stats.IsDir)
      ∷ (not (option_map_or (λ f. is_link f.body) o false), stats.NxIo) ∷ [])) (sym there) (by f.body)
    where
      by : (b : Body) → HasStat (bytes_of b) ((not (is_directory b), stats.IsDir)
          ∷ (not (is_link b), stats.NxIo) ∷ [])
      by (Regular bytes) = record { says = refl }
      by (Symlink target) = record { says = refl }
      by (Directory l) = record { says = refl }

  -- its target: NXIO
  pub of_target_at : HasStat (target_of f.body) ((holds_at w n (λ f. is_link f.body), stats.NxIo) ∷ [])
  of_target_at =
      subst (λ (b : Bool). HasStat (target_of f.body) ((b, stats.NxIo) ∷ []))
      (sym (test_at w n f (λ f. is_link f.body) there)) (by f.body)
    where
      by : (b : Body) → HasStat (target_of b) ((is_link b, stats.NxIo) ∷ [])
      by (Regular bytes) = record { says = refl }
      by (Symlink target) = record { says = refl }
      by (Directory l) = record { says = refl }

  -- a check of it
  pub of_test_at : (test : File → Bool) (e : Stat) → HasStat (check (test f) e) ((holds_at w n test, e) ∷ [])
  of_test_at test e = of_same (test f) (holds_at w n test) e (test_at w n f test there)

-- ---- in a directory that was found

module _ (w : Files) (n : ℕ) (d : NumberedDir) (is : IsFound w n d) (name : List ℕ) where
  -- an edit of the directory: the rule for names, then search and write permission
  pub of_edit : (who : Caller) → HasStat (check_edit who d name) (edit_checks w who n name)
  of_edit who =
      in_turn (check (is_name name) stats.Acces)
      (λ _. check (may_search who d.file && may_write who d.file) stats.Acces)
      (of_check (is_name name) stats.Acces) (λ _ _.
      of_same (may_search who d.file && may_write who d.file)
      (holds_at w n (λ f. may_search who f && may_write who f)) stats.Acces
      (test_at w n d.file (λ f. may_search who f && may_write who f) is.there))

  -- a name that must be free: EXIST
  pub of_free : HasStat (check_free d name) ((is_none (directory_entries w n name), stats.Exist) ∷ [])
  of_free = of_same (is_none (entry_at d.listing name)) (is_none (directory_entries w n name)) stats.Exist
      (ap is_none (entry_found w n d is name))

  -- a name that must be there: NOENT
  pub of_number : HasStat (number_at d name) ((is_some (directory_entries w n name), stats.NoEnt) ∷ [])
  of_number = record {
    says =
        by (entry_at d.listing name)
        ∙ ap (λ (o : Option (ℕ × ℕ)). first_failing ((is_some o, stats.NoEnt) ∷ []))
        (sym (entry_found w n d is name));
  }
    where
      by : (o : Option (ℕ × ℕ))
          → stat_in (ok_or stats.NoEnt (option_map (λ e. e.0) o))
          ≡ first_failing ((is_some o, stats.NoEnt) ∷ [])
      by None = refl
      by (Some e) = refl
