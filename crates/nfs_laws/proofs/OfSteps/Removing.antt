-- What follows from the Ok of REMOVE and RMDIR.
-- Serves: granted_changes_pass_their_checks.
use Rattle.std.proofs.Common.{◌≡◌, ℕ, List, length, Ok, not, ap, ◌∙◌}
use Rattle.std.specs.Prelude.{◌==◌}
use Rattle.std.proofs.lemmas.Bool.{not-true, eqb-true}
use Rattle.nfs_spec.specs.nfs_items.Timeval.{Timeval}
use Rattle.nfs_spec.specs.nfs_items.Caller.{Caller}
use Rattle.nfs_spec.specs.nfs_items.declared.stat.Stat.TheVariants as stats
use Rattle.nfs_spec.specs.fs_spec.Listing.{Listing}
use Rattle.nfs_spec.specs.fs_spec.Files.{Files, is_directory}
use Rattle.nfs_spec.specs.ProcedureChecks.{file_of, dir_of, listing_or, check, check_edit, number_at}
use Rattle.nfs_spec.specs.Procedures.{remove, remove_dir}
use Rattle.nfs_laws.specs.Steps.Granted.{RemoveOk, RemoveDirOk}
use Rattle.nfs_laws.proofs.OfSteps.Steps.{bind_ok, check_ok, file_ok, directory_ok, dir_ok, edit_ok}
use Rattle.nfs_laws.proofs.OfSteps.Steps.{number_ok, entry_found, no_entries, no_length, same_files}

-- REMOVE
pub remove_ok : (w : Files) (who : Caller) (now : Timeval) (dir : ℕ) (name : List ℕ) (after : Files)
    → remove w who now dir name ≡ Ok (tt, after) → RemoveOk w who now dir name after
remove_ok w who now dir name after h =
    let d = bind_ok (dir_of w dir) _ (tt, after) h in
    let e = bind_ok (check_edit who d.0 name) _ (tt, after) d.2 in
    let n = bind_ok (number_at d.0 name) _ (tt, after) e.2 in
    let f = bind_ok (file_of w n.0) _ (tt, after) n.2 in
    let r = bind_ok (check (not (is_directory f.0.body)) stats.IsDir) _ (tt, after) f.2 in
    let found = dir_ok w dir d.0 d.1 in
    let entry = number_ok d.0 name n.0 n.1 in
    let plain = not-true (is_directory f.0.body)
    (check_ok (not (is_directory f.0.body)) stats.IsDir r.0 r.1) in
    record {
      directory = edit_ok w who dir d.0 name e.0 found e.1;
      number = n.0;
      cookie = entry.0;
      is_named = entry_found w dir d.0 found name ∙ entry.1;
      file = f.0;
      there = file_ok w n.0 f.0 f.1;
      kind = plain;
      empty = no_entries f.0.body plain;
      effect = same_files r.2;
    }

-- RMDIR
pub remove_dir_ok : (w : Files) (who : Caller) (now : Timeval) (dir : ℕ) (name : List ℕ) (after : Files)
    → remove_dir w who now dir name ≡ Ok (tt, after) → RemoveDirOk w who now dir name after
remove_dir_ok w who now dir name after h =
    let d = bind_ok (dir_of w dir) _ (tt, after) h in
    let e = bind_ok (check_edit who d.0 name) _ (tt, after) d.2 in
    let n = bind_ok (number_at d.0 name) _ (tt, after) e.2 in
    let f = bind_ok (file_of w n.0) _ (tt, after) n.2 in
    let l = bind_ok (listing_or stats.NotDir f.0.body) _ (tt, after) f.2 in
    let r = bind_ok (check (length l.0.entries == 0) stats.NotEmpty) _ (tt, after) l.2 in
    let found = dir_ok w dir d.0 d.1 in
    let entry = number_ok d.0 name n.0 n.1 in
    let own = directory_ok stats.NotDir f.0.body l.0 l.1 in
    let zero = eqb-true (length l.0.entries) 0 (check_ok (length l.0.entries == 0) stats.NotEmpty r.0 r.1) in
    record {
      directory = edit_ok w who dir d.0 name e.0 found e.1;
      number = n.0;
      cookie = entry.0;
      is_named = entry_found w dir d.0 found name ∙ entry.1;
      file = f.0;
      there = file_ok w n.0 f.0 f.1;
      kind = own.0;
      empty = ap (λ (l : Listing). l.entries) own.1 ∙ no_length l.0.entries zero;
      effect = same_files r.2;
    }
