-- What the first checks of REMOVE and RMDIR say of the name.
-- Serves: `check_remove`, `check_remove_dir`.
use Rattle.std.proofs.Common.{◌≡◌, ℕ, List, [], length, not, Some, Result, Ok, Err, sym, ap, ◌∙◌}
use Rattle.std.specs.Prelude.{◌==◌}
use Rattle.std.proofs.lemmas.Bool.{eqb-true}
use Rattle.nfs_spec.specs.nfs_items.Timeval.{Timeval}
use Rattle.nfs_spec.specs.nfs_items.Caller.{Caller}
use Rattle.nfs_spec.specs.nfs_items.declared.stat.Stat.{Stat}
use Rattle.nfs_spec.specs.nfs_items.declared.stat.Stat.TheVariants as stats
use Rattle.nfs_spec.specs.fs_spec.Listing.{Listing}
use Rattle.nfs_spec.specs.fs_spec.Files.{File, Files, file_at, is_directory, listing_in}
use Rattle.nfs_spec.specs.ProcedureChecks.{◌>>=◌, check, dir_of, file_of, check_edit, listing_or, number_at}
use Rattle.nfs_spec.specs.Procedures.{remove, remove_dir}
use Rattle.inode_table.specs.nfs_count_laws.CountChanges.{MayUnlink}
use Rattle.inode_table.proofs.nfs_laws.OfSteps.Steps.{bind_ok, check_ok, dir_ok, directory_ok, number_ok}
use Rattle.inode_table.proofs.nfs_laws.OfSteps.Steps.{no_length}
use Rattle.inode_table.proofs.nfs_laws.OfSteps.Steps.{entry_found}
use Rattle.file_tree.specs.NameChecks.Names.{check_empty, number_to_edit, unnamed}
use Rattle.file_tree.proofs.OfNameChecks.Chains.{bind_assoc, bind_alike}

module _ (w : Files) (who : Caller) (dir : ℕ) (name : List ℕ) where
  -- the first checks, and what follows them
  then_checks : {A : Type 0} (rest : ℕ → Result A Stat)
      → (dir_of w dir >>= (λ d. check_edit who d name >>= (λ _. number_at d name >>= rest)))
      ≡ (number_to_edit w who dir name >>= rest)
  then_checks rest = sym (bind_assoc (dir_of w dir)
      (λ d. check_edit who d name >>= (λ _. number_at d name)) rest
      ∙ bind_alike (dir_of w dir) _ _ (λ d. bind_assoc (check_edit who d name) (λ _. number_at d name) rest))

  -- what they refuse REMOVE refuses
  pub remove_refused : (now : Timeval) (e : Stat) → number_to_edit w who dir name ≡ Err e
      → remove w who now dir name ≡ Err e
  remove_refused now e h =
      let rest = λ (n : ℕ). file_of w n >>= (λ f.
      check (not (is_directory f.body)) stats.IsDir >>= (λ _. Ok (unnamed now w dir name n))) in
      then_checks rest ∙ ap (λ r. r >>= rest) h

  -- and RMDIR refuses it too
  pub remove_dir_refused : (now : Timeval) (e : Stat) → number_to_edit w who dir name ≡ Err e
      → remove_dir w who now dir name ≡ Err e
  remove_dir_refused now e h =
      let rest = λ (n : ℕ). file_of w n >>= (λ f.
      listing_or stats.NotDir f.body >>= (λ l. check (length l.entries == 0) stats.NotEmpty >>= (λ _.
      Ok (unnamed now w dir name n)))) in
      then_checks rest ∙ ap (λ r. r >>= rest) h

  -- the number that they give stands at the name
  pub may_unlink : (n : ℕ) (f : File) → number_to_edit w who dir name ≡ Ok n → file_at w n ≡ Some f
      → (listing_in f.body).entries ≡ []
      → (cookie : ℕ) × (f : File) × MayUnlink w dir name n cookie f
  may_unlink n f h there empty =
      let d = bind_ok (dir_of w dir) _ n h in
      let e = bind_ok (check_edit who d.0 name) _ n d.2 in
      let entry = number_ok d.0 name n e.2 in (
        entry.0,
        f,
        record {
          is_named = entry_found w dir d.0 (dir_ok w dir d.0 d.1) name ∙ entry.1;
          there = there;
          empty = empty;
        },
      )

-- an empty directory lists nothing
pub no_entries_listed : (f : File) (u : Unit {0}) → check_empty f ≡ Ok u → (listing_in f.body).entries ≡ []
no_entries_listed f u h =
    let l = bind_ok (listing_or stats.NotDir f.body) _ u h in
    let own = directory_ok stats.NotDir f.body l.0 l.1 in
    ap (λ (l : Listing). l.entries) own.1
    ∙ no_length l.0.entries (eqb-true (length l.0.entries) 0
    (check_ok (length l.0.entries == 0) stats.NotEmpty u l.2))
