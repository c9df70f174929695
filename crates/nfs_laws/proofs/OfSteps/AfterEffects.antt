-- A file that a call set, wrote or made is there after it.
-- Serves: stats_of_calls (nfs_error_laws); setattr, write, create and make_dir (nfs_procs).
use Rattle.std.proofs.Common.{◌≡◌, ⊎_elim, ℕ, Bool, true, false, cond, List, length, Option, Some, None}
use Rattle.std.proofs.Common.{is_some, option_map, refl, sym, ap, subst, ◌∙◌}
use Rattle.std.specs.Prelude.{IsSome, ◌==◌}
use Rattle.std.proofs.lemmas.Bool.{cases_eq}
use Rattle.nfs_spec.specs.nfs_items.Timeval.{Timeval}
use Rattle.nfs_spec.specs.nfs_items.Caller.{Caller}
use Rattle.nfs_spec.specs.fs_spec.Files.{File, Files, file_at, directory_entries}
use Rattle.nfs_spec.specs.fs_spec.Changes.Edits.{with_changed_file, with_new_file, with_name}
use Rattle.nfs_spec.proofs.fs_spec.OfChanges.Finite.{changed_here, changed_other, new_here}
use Rattle.nfs_spec.specs.Sattr.{GivenFields}
use Rattle.nfs_spec.specs.Changes.{apply_fields}
use Rattle.nfs_spec.specs.Procedures.{with_bytes_written, add_file}
use Rattle.nfs_laws.specs.Steps.Granted.{SetOk, WriteOk, MakeOk, CreateOk}

kept : (w : Files) (k : ℕ) (change : File → File) (n : ℕ) → IsSome (file_at w n)
    → IsSome (file_at (with_changed_file w k change) n)
kept w k change n h = ⊎_elim
    (λ e. ap is_some (changed_here w k change n e) ∙ same (file_at w k)
    ∙ ap (λ m. is_some (file_at w m)) (sym e) ∙ h)
    (λ ne. ap is_some (changed_other w k change n ne) ∙ h)
    (cases_eq n k)
  where
    same : (o : Option File) → is_some (option_map change o) ≡ is_some o
    same None = refl
    same (Some f) = refl

-- the file whose attributes were set is there
pub set_there : (w : Files) (who : Caller) (now : Timeval) (n : ℕ) (a : GivenFields) (after : Files)
    → SetOk w who now n a after → IsSome (file_at after n)
set_there w who now n a after o =
    subst (λ (v : Files). IsSome (file_at v n)) (sym o.effect)
    (kept w n (apply_fields now a) n (ap is_some o.there))

-- so is the file that was written
pub write_there : (w : Files) (who : Caller) (now : Timeval) (n offset : ℕ) (new : List ℕ) (after : Files)
    → WriteOk w who now n offset new after → IsSome (file_at after n)
write_there w who now n offset new after o =
    subst (λ (v : Files). IsSome (file_at v n)) (sym o.effect) (by (length new == 0))
  where
    by : (b : Bool) → IsSome (file_at (cond b w
        (with_changed_file w n (with_bytes_written now offset new o.old))) n)
    by true = ap is_some o.there
    by false = kept w n (with_bytes_written now offset new o.old) n (ap is_some o.there)

made_there : (now : Timeval) (w : Files) (dir : ℕ) (name : List ℕ) (f : File)
    → IsSome (file_at (add_file now w dir name f) w.next)
made_there now w dir name f =
    kept (with_name (with_new_file w f) dir name w.next) dir _ w.next
    (kept (with_new_file w f) dir _ w.next (ap is_some (new_here w f w.next refl)))

-- and the file that was made
pub make_there : (w : Files) (who : Caller) (now : Timeval) (dir : ℕ) (name : List ℕ) (f : File) (number : ℕ)
    (after : Files) → MakeOk w who now dir name f number after → IsSome (file_at after number)
make_there w who now dir name f number after o =
    subst (λ (v : Files). IsSome (file_at v number)) (sym o.effect)
    (subst (λ n. IsSome (file_at (add_file now w dir name f) n)) (sym o.is_next)
    (made_there now w dir name f))

-- and the file that CREATE made or found
pub create_there : (w : Files) (who : Caller) (now : Timeval) (dir : ℕ) (name : List ℕ) (a : GivenFields)
    (number : ℕ) (after : Files) → CreateOk w who now dir name a number after → IsSome (file_at after number)
create_there w who now dir name a number after o = by (directory_entries w dir name) refl
  where
    by : (entry : Option (ℕ × ℕ)) → directory_entries w dir name ≡ entry → IsSome (file_at after number)
    by None free = make_there w who now dir name _ number after (o.fresh free).make
    by (Some e) at = let over = o.over e.0 e.1 at in
        subst (λ n. IsSome (file_at after n)) (sym over.is_same) (set_there w who now e.0 a after over.set)
