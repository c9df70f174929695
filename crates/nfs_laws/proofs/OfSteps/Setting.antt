-- What follows from the Ok of SETATTR and WRITE.
-- Serves: granted_changes_pass_their_checks.
use Rattle.std.proofs.Common.{◌≡◌, ◌≢◌, ℕ, ◌+◌, ◌≤◌, Bool, true, false, List, [], length, Option, Some}
use Rattle.std.proofs.Common.{Result, Ok, refl, sym, ap, subst, ◌∙◌}
use Rattle.std.specs.Prelude.{◌==◌, is_some, if◌then◌else◌}
use Rattle.std.proofs.lemmas.Bool.{eqb-true}
use Rattle.nfs_spec.specs.nfs_items.Timeval.{Timeval}
use Rattle.nfs_spec.specs.nfs_items.Caller.{Caller}
use Rattle.nfs_spec.specs.nfs_items.declared.stat.Stat.{Stat}
use Rattle.nfs_spec.specs.nfs_items.declared.stat.Stat.TheVariants as stats
use Rattle.nfs_spec.specs.fs_spec.Files.{File, Files}
use Rattle.nfs_spec.specs.fs_spec.Changes.Edits.{with_changed_file}
use Rattle.nfs_spec.specs.fs_spec.Changes.Limits.{has_room}
use Rattle.nfs_spec.specs.ProcedureChecks.{◌>>=◌, file_of, bytes_of, check, check_size, check_room, may_write}
use Rattle.nfs_spec.specs.Sattr.{GivenFields}
use Rattle.nfs_spec.specs.Changes.{check_owner, check_resize, apply_fields}
use Rattle.nfs_spec.specs.Procedures.{set_attributes, write, with_bytes_written}
use Rattle.nfs_laws.specs.Steps.Granted.{ResizeOk, SetOk, WriteOk}
use Rattle.nfs_laws.proofs.OfSteps.Steps.{bind_ok, check_ok, size_ok, file_ok, bytes_ok, no_length}
use Rattle.nfs_laws.proofs.OfSteps.Steps.{same_files}

-- a size that was let through
pub resize_ok : (who : Caller) (f : File) (size : ℕ) (u : Unit {0}) → check_resize who f (Some size) ≡ Ok u
    → ResizeOk who f size
resize_ok who f size u h =
    let a = bind_ok (bytes_of f.body) _ u h in
    let b = bind_ok (check (may_write who f) stats.Acces) _ u a.2 in
    record {
      bytes = a.0;
      regular = bytes_ok f.body a.0 a.1;
      written = check_ok (may_write who f) stats.Acces b.0 b.1;
      fits = size_ok size u b.2;
    }

-- SETATTR
pub set_ok : (w : Files) (who : Caller) (now : Timeval) (n : ℕ) (a : GivenFields) (after : Files)
    → set_attributes w who now n a ≡ Ok (tt, after) → SetOk w who now n a after
set_ok w who now n a after h =
    let changed = with_changed_file w n (apply_fields now a) in
    let room : Result (Unit {0}) Stat = if is_some a.size then check_room changed else Ok tt in
    let f = bind_ok (file_of w n) _ (tt, after) h in
    let o = bind_ok (check_owner who f.0 a) _ (tt, after) f.2 in
    let r = bind_ok (check_resize who f.0 a.size) _ (tt, after) o.2 in
    let s = bind_ok room _ (tt, after) r.2 in
    let effect = same_files s.2 in
    record {
      file = f.0;
      there = file_ok w n f.0 f.1;
      owner = o.1;
      resize = λ size given. resize_ok who f.0 size tt (ap (check_resize who f.0) (sym given) ∙ r.1);
      room = λ size given. subst (λ v. has_room v ≡ true) (sym effect)
          (check_ok (has_room changed) stats.NoSpc tt
          (ap (λ (size : Option ℕ). if is_some size then check_room changed else Ok tt) (sym given) ∙ s.1));
      effect = effect;
    }

-- ---- WRITE

module _ (w : Files) (who : Caller) (now : Timeval) (n offset : ℕ) (new : List ℕ) (after : Files) where
  -- the files with the bytes written
  abbrev changed : List ℕ → Files
  changed old = with_changed_file w n (with_bytes_written now offset new old)

  -- what is left of WRITE when it may write
  abbrev end : List ℕ → Bool → Result (Unit {0} × Files) Stat
  end old none =
      if none then Ok (tt, w)
      else check_size (offset + length new) >>= λ _. check_room (changed old) >>= λ _. Ok (tt, changed old)

  ends : (old : List ℕ) (none : Bool) → (length new == 0) ≡ none → end old none ≡ Ok (tt, after)
      → (after ≡ (if none then w else changed old))
      × (new ≢ [] → (offset + length new ≤ 1048576) × (has_room after ≡ true))
  ends old true is h = (same_files h, λ some. absurd (some (no_length new (eqb-true (length new) 0 is))))
  ends old false is h =
      let s = bind_ok (check_size (offset + length new)) _ (tt, after) h in
      let r = bind_ok (check_room (changed old)) _ (tt, after) s.2 in
      let effect = same_files r.2 in (
        effect,
        λ _. (
          size_ok (offset + length new) s.0 s.1,
          subst (λ v. has_room v ≡ true) (sym effect) (check_ok (has_room (changed old)) stats.NoSpc r.0 r.1),
        ),
      )

  -- WRITE
  pub write_ok : write w who now n offset new ≡ Ok (tt, after) → WriteOk w who now n offset new after
  write_ok h =
      let f = bind_ok (file_of w n) _ (tt, after) h in
      let b = bind_ok (bytes_of f.0.body) _ (tt, after) f.2 in
      let m = bind_ok (check (may_write who f.0) stats.Acces) (λ _. end b.0 (length new == 0))
      (tt, after) b.2 in
      let e = ends b.0 (length new == 0) refl m.2 in
      record {
        file = f.0;
        old = b.0;
        there = file_ok w n f.0 f.1;
        regular = bytes_ok f.0.body b.0 b.1;
        written = check_ok (may_write who f.0) stats.Acces m.0 m.1;
        fits = λ some. (e.1 some).0;
        room = λ some. (e.1 some).1;
        effect = e.0;
      }
