-- Each call, by file handles, gives in a tree the stat of the first of `checks_of` that fails: what a call
-- adds to its procedure (a handle to be read, attributes to be shown) gives no stat but STALE.
-- Serves: stats_of_calls.
use Rattle.std.proofs.Common.{◌≡◌, ℕ, Bool, true, false, cond, List, [], ◌∷◌, Option, Some, None, Result, Ok}
use Rattle.std.proofs.Common.{Err, is_some, option_map, option_and_then, refl, sym, ap, ◌∙◌, arith}
use Rattle.std.specs.Prelude.{IsSome, unwrap_or}
use Rattle.nfs_items.specs.Timeval.{Timeval}
use Rattle.nfs_items.specs.Caller.{Caller}
use Rattle.nfs_items.specs.Handle.{handle_of, number_in}
use Rattle.nfs_items.specs.declared.attributes.Fattr.{Fattr}
use Rattle.nfs_items.specs.declared.stat.Stat.{Stat}
use Rattle.nfs_items.specs.declared.stat.Stat.TheVariants as stats
use Rattle.fs_spec.specs.Listing.{entry_at}
use Rattle.fs_spec.specs.Files.{File, Files, file_at, listing_in, is_directory}
use Rattle.fs_spec.specs.Trees.{IsFileTree}
use Rattle.nfs_spec.specs.FileAttributes.{attributes_of}
use Rattle.nfs_spec.specs.ProcedureChecks.{◌>>=◌, ok_or, file_of, listing_or, may_search}
use Rattle.nfs_spec.specs.Sattr.{given_fields}
use Rattle.nfs_spec.specs.Changes.{Effect}
use Rattle.nfs_spec.specs.Effects.{attributes_at, number_named, number_at_name}
use Rattle.nfs_spec.specs.LawTerms.{stat_in}
use Rattle.nfs_types.specs.Calls as calls
use Rattle.nfs_types.specs.Calls.{Call, Answer}
use Rattle.nfs_spec.specs.NfsCalls.{answer_and_files, with_attributes, with_handle, without_number}
use Rattle.nfs_spec.specs.NfsCalls.{number_for, call_does}
use Rattle.nfs_spec.proofs.Present.{named_there}
use Rattle.nfs_laws.specs.Steps.Answers.{refusal_in}
use Rattle.nfs_laws.proofs.OfSteps.Steps.{bind_ok, no_error, found_ok, directory_ok}
use Rattle.nfs_laws.proofs.OfSteps.AfterEffects.{set_there, write_there, make_there, create_there}
use Rattle.nfs_laws.proofs.OfSteps.Setting.{set_ok, write_ok}
use Rattle.nfs_laws.proofs.OfSteps.Making.{make_ok, create_ok}
use Rattle.nfs_error_laws.specs.Checks.{Checks, first_failing, is_there}
use Rattle.nfs_error_laws.specs.Tables.{lookup_checks, checks_of}
use Rattle.nfs_error_laws.proofs.StepsInTurn.{HasStat, no_some}
use Rattle.nfs_error_laws.proofs.ReaderChecks.{of_getattr, of_lookup, of_read_link, of_read, of_read_dir}
use Rattle.nfs_error_laws.proofs.ReaderChecks.{of_figures}
use Rattle.nfs_error_laws.proofs.WriteChecks.{of_write}
use Rattle.nfs_error_laws.proofs.MakeChecks.{of_make}
use Rattle.nfs_error_laws.proofs.SetattrChecks.{of_set}
use Rattle.nfs_error_laws.proofs.LinkChecks.{of_link}
use Rattle.nfs_error_laws.proofs.RemoveChecks.{of_remove, of_remove_dir}
use Rattle.nfs_error_laws.proofs.CreateChecks.{of_create}
use Rattle.nfs_error_laws.proofs.RenameChecks.{of_rename}

of_told : {A : Type 0} (say : Result A Stat → Answer) → ((r : Result A Stat) → refusal_in (say r) ≡ stat_in r)
    → (w : Files) (e : Effect A) → refusal_in (answer_and_files say w e).0 ≡ stat_in e
of_told say says w (Ok x) = says (Ok x.0)
of_told say says w (Err e) = says (Err e)

-- a step after which there is always something
then_something : {A B : Type 0} (r : Result A Stat) (f : A → Result B Stat)
    → ((x : A) → r ≡ Ok x → stat_in (f x) ≡ None) → stat_in (r >>= f) ≡ stat_in r
then_something (Ok x) f some = some x refl
then_something (Err e) f some = refl

shown : {B : Type 0} (w : Files) (n : ℕ) (give : Fattr → B) → IsSome (file_at w n)
    → stat_in (attributes_at w n >>= λ a. Ok (give a)) ≡ None
shown w n give there = by (file_at w n) there
  where
    by : (o : Option File) → IsSome o
        → stat_in ((ok_or stats.Stale o >>= λ f. Ok (attributes_of w n f)) >>= λ a. Ok (give a)) ≡ None
    by None h = absurd (no_some h)
    by (Some f) h = refl

of_attributes : (n : ℕ) (e : Effect (Unit {0})) → ((x : Unit {0} × Files) → e ≡ Ok x → IsSome (file_at x.1 n))
    → stat_in (with_attributes n e) ≡ stat_in e
of_attributes n e there = then_something e _ (λ x h. shown x.1 n (λ a. (a, x.1)) (there x h))

of_handle : (e : Effect ℕ) → ((x : ℕ × Files) → e ≡ Ok x → IsSome (file_at x.1 x.0))
    → stat_in (with_handle e) ≡ stat_in e
of_handle e there =
    then_something e _ (λ x h. shown x.1 x.0 (λ a. ((handle_of x.1.fsid x.0, a), x.1)) (there x h))

of_no_number : (e : Effect ℕ) → stat_in (without_number e) ≡ stat_in e
of_no_number e = then_something e _ (λ x h. refl)

-- ---- handles

module _ (w : Files) (tree : IsFileTree w) where
  none_at_zero : file_at w 0 ≡ None
  none_at_zero = by (file_at w 0) refl
    where
      by : (o : Option File) → file_at w 0 ≡ o → file_at w 0 ≡ None
      by None e = e
      by (Some f) e = absurd (omega (arith, tree.numbers 0 (ap is_some e)))

  -- where a handle names no number, the file is not there
  by_handle : {A : Type 0} (o : Option ℕ) (f : ℕ → Result A Stat) (cs : ℕ → Checks)
      → ((n : ℕ) → HasStat (f n) ((is_there w n, stats.Stale) ∷ cs n))
      → stat_in (ok_or stats.Stale o >>= f)
      ≡ first_failing ((is_there w (unwrap_or o 0), stats.Stale) ∷ cs (unwrap_or o 0))
  by_handle None f cs h =
      sym (ap (λ (o : Option File). cond (is_some o) (first_failing (cs 0)) (Some stats.Stale)) none_at_zero)
  by_handle (Some n) f cs h = (h n).says

  lookup_there : (who : Caller) (dir : ℕ) (name : List ℕ) (n : ℕ) → number_at_name w who dir name ≡ Ok n
      → IsSome (file_at w n)
  lookup_there who dir name n h =
      let p = bind_ok (file_of w dir) _ n h in
      let q = bind_ok (listing_or stats.NotDir p.0.body) _ n p.2 in
      let there = found_ok stats.Stale (file_at w dir) p.0 p.1 in
      let l = directory_ok stats.NotDir p.0.body q.0 q.1 in
      named_there w tree dir q.0 (ap is_some there)
      (ap (option_map (λ f. is_directory f.body)) there ∙ ap (λ b. Some b) l.0)
      (λ y. ap (option_and_then (λ f. entry_at (listing_in f.body) y)) there ∙ ap (λ l. entry_at l y) l.1)
      name n (by (may_search who p.0) (number_named w dir q.0 name) q.2)
    where
      by : (b : Bool) (o : Option ℕ) → cond b (ok_or stats.NoEnt o) (Err stats.Acces) ≡ Ok n → o ≡ Some n
      by true o h = found_ok stats.NoEnt o n h
      by false o h = absurd (no_error h)

  abbrev found_with : ℕ → Fattr → Result (List ℕ × Fattr) Stat
  found_with n a = Ok (handle_of w.fsid n, a)

  looked_up : (who : Caller) (name : List ℕ) (dir : ℕ)
      → HasStat (number_at_name w who dir name >>= λ n. attributes_at w n >>= found_with n)
      (lookup_checks w who dir name)
  looked_up who name dir = record {
    says = then_something (number_at_name w who dir name) (λ n. attributes_at w n >>= found_with n)
        (λ n h. shown w n (λ a. (handle_of w.fsid n, a)) (lookup_there who dir name n h))
        ∙ (of_lookup w who dir name).says;
  }

  -- a call's refusal is the first of its checks that fails
  pub of_calls : (who : Caller) (now : Timeval) (call : Call)
      → refusal_in (call_does w who now call).0 ≡ first_failing (checks_of w who now call)
  of_calls who now calls.Null = refl
  of_calls who now (calls.Getattr file) =
      by_handle (number_in w.fsid file) (attributes_at w) (λ n. []) (of_getattr w)
  of_calls who now (calls.Setattr file s) =
      let n = number_for w file in
      of_told calls.Attributes (λ r. refl) w _
      ∙ of_attributes n _ (λ x h. set_there w who now n (given_fields now s) x.1
      (set_ok w who now n (given_fields now s) x.1 h)) ∙ (of_set w who now n (given_fields now s)).says
  of_calls who now calls.Root = refl
  of_calls who now (calls.Lookup dir name) =
      by_handle (number_in w.fsid dir)
      (λ d. number_at_name w who d name >>= λ n. attributes_at w n >>= found_with n) _ (looked_up who name)
  of_calls who now (calls.Readlink file) = (of_read_link w (number_for w file)).says
  of_calls who now (calls.Read file offset count) = (of_read w who (number_for w file) offset count).says
  of_calls who now calls.Writecache = refl
  of_calls who now (calls.Write file offset new) =
      let n = number_for w file in
      of_told calls.Attributes (λ r. refl) w _
      ∙ of_attributes n _ (λ x h. write_there w who now n offset new x.1
      (write_ok w who now n offset new x.1 h)) ∙ (of_write w who now n offset new).says
  of_calls who now (calls.Create dir name s) =
      let d = number_for w dir in
      of_told calls.DirOp (λ r. refl) w _
      ∙ of_handle _ (λ x h. create_there w who now d name (given_fields now s) x.0 x.1
      (create_ok w who now d name (given_fields now s) x.0 x.1 h))
      ∙ (of_create w tree who now d name (given_fields now s)).says
  of_calls who now (calls.Remove dir name) =
      of_told calls.Status (λ r. refl) w _ ∙ (of_remove w tree who now (number_for w dir) name).says
  of_calls who now (calls.Rename from from_name to to_name) =
      of_told calls.Status (λ r. refl) w _
      ∙ (of_rename w tree who now (number_for w from) from_name (number_for w to) to_name).says
  of_calls who now (calls.Link from dir name) =
      of_told calls.Status (λ r. refl) w _
      ∙ (of_link w who now (number_for w from) (number_for w dir) name).says
  of_calls who now (calls.Symlink dir name target s) =
      of_told calls.Status (λ r. refl) w _ ∙ of_no_number _
      ∙ (of_make w who now (number_for w dir) name _).says
  of_calls who now (calls.Mkdir dir name s) =
      let d = number_for w dir in
      of_told calls.DirOp (λ r. refl) w _
      ∙ of_handle _ (λ x h. make_there w who now d name _ x.0 x.1 (make_ok w who now d name _ x.0 x.1 h))
      ∙ (of_make w who now d name _).says
  of_calls who now (calls.Rmdir dir name) =
      of_told calls.Status (λ r. refl) w _ ∙ (of_remove_dir w tree who now (number_for w dir) name).says
  of_calls who now (calls.Readdir dir cookie count) = (of_read_dir w who (number_for w dir) cookie count).says
  of_calls who now (calls.Statfs file) = (of_figures w (number_for w file)).says
