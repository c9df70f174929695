-- SETATTR gives the stat of the first of `set_checks` that fails: the owner's tests, those of a size, and
-- room.
-- Serves: stats_of_set_attributes; by CreateChecks stats_of_create, by CallChecks stats_of_calls.
use Rattle.std.proofs.Common.{◌≡◌, ℕ, Bool, cond, not, [], ◌∷◌, Option, Some, None, Ok, refl, ap}
use Rattle.std.specs.Prelude.{◌&&◌, ◌||◌, ◌==◌, nat_le, is_some, is_none}
use Rattle.nfs_items.specs.Timeval.{Timeval}
use Rattle.nfs_items.specs.Caller.{Caller}
use Rattle.nfs_items.specs.declared.stat.Stat.TheVariants as stats
use Rattle.fs_spec.specs.Files.{File, Files, file_at}
use Rattle.fs_spec.specs.Changes.Edits.{with_changed_file}
use Rattle.fs_spec.specs.Changes.Limits.{has_room}
use Rattle.nfs_spec.specs.FileAttributes.{is_directory_at}
use Rattle.nfs_spec.specs.ProcedureChecks.{file_of, check, check_room, bytes_of, owns, may_write}
use Rattle.nfs_spec.specs.Sattr.{GivenFields}
use Rattle.nfs_spec.specs.Changes.{check_owner, check_resize, apply_fields, is_in_group}
use Rattle.nfs_spec.specs.Procedures.{set_attributes}
use Rattle.nfs_laws.proofs.OfSteps.Steps.{found_ok}
use Rattle.nfs_error_laws.specs.Checks.{holds_at, if_given, is_link}
use Rattle.nfs_error_laws.specs.Tables.{set_checks}
use Rattle.nfs_error_laws.proofs.StepsInTurn.{HasStat, in_turn, done, of_check, of_same, of_file, test_at}
use Rattle.nfs_error_laws.proofs.StepsInTurn.{of_bytes_at, of_test_at}

given_same : {A : Type 0} (o : Option A) (p q : A → Bool) → ((x : A) → p x ≡ q x)
    → if_given o p ≡ if_given o q
given_same None p q same = refl
given_same (Some x) p q same = same x

module _ (w : Files) (who : Caller) (n : ℕ) (a : GivenFields) (f : File) (there : file_at w n ≡ Some f) where
  of_owner : HasStat (check_owner who f a) ((
    holds_at w n (owns who) || (who.uid == 0) || (is_none a.mode && is_none a.atime && is_none a.mtime),
    stats.Perm,
  )
      ∷ (
        if_given a.uid (λ uid. (who.uid == 0) || holds_at w n (λ f. owns who f && (uid == f.uid))),
        stats.Perm,
      )
      ∷ (
        if_given a.gid (λ gid. (who.uid == 0) || holds_at w n
            (λ f. owns who f && ((gid == f.gid) || is_in_group who gid))),
        stats.Perm,
      )
      ∷ []
      )
  of_owner =
      in_turn (check (owns who f || (who.uid == 0) ||
      (is_none a.mode && is_none a.atime && is_none a.mtime)) stats.Perm) _
      (of_same _ _ stats.Perm (ap (λ b. b || (who.uid == 0) ||
      (is_none a.mode && is_none a.atime && is_none a.mtime)) (test_at w n f (owns who) there))) (λ _ _.
      in_turn (check (if_given a.uid (λ uid. (who.uid == 0) || (owns who f && (uid == f.uid)))) stats.Perm) _
      (of_same _ _ stats.Perm (given_same a.uid _ _
      (λ uid. ap (λ b. (who.uid == 0) || b) (test_at w n f (λ f. owns who f && (uid == f.uid)) there))))
      (λ _ _.
      of_same (if_given a.gid (λ gid. (who.uid == 0) ||
      (owns who f && ((gid == f.gid) || is_in_group who gid)))) _ stats.Perm
      (given_same a.gid _ _ (λ gid. ap (λ b. (who.uid == 0) || b)
      (test_at w n f (λ f. owns who f && ((gid == f.gid) || is_in_group who gid)) there)))))

  of_resize : (size : Option ℕ) → HasStat (check_resize who f size) (
      (if_given size (λ size. not (is_directory_at w n)), stats.IsDir)
      ∷ (if_given size (λ size. not (holds_at w n (λ f. is_link f.body))), stats.NxIo)
      ∷ (if_given size (λ size. holds_at w n (may_write who)), stats.Acces)
      ∷ (if_given size (λ size. nat_le size 1048576), stats.FBig)
      ∷ []
      )
  of_resize None = record { says = refl }
  of_resize (Some size) =
      in_turn (bytes_of f.body) _ (of_bytes_at w n f there) (λ _ _.
      in_turn (check (may_write who f) stats.Acces) _ (of_test_at w n f there (may_write who) stats.Acces)
      (λ _ _.
      of_check (nat_le size 1048576) stats.FBig))

of_room : (size : Option ℕ) (room : Bool)
    → HasStat (cond (is_some size) (check room stats.NoSpc) (Ok tt))
    ((if_given size (λ size. room), stats.NoSpc) ∷ [])
of_room None room = record { says = refl }
of_room (Some size) room = record { says = (of_check room stats.NoSpc).says }

-- SETATTR: the file, the owner's tests, those of a size, and room
pub of_set : (w : Files) (who : Caller) (now : Timeval) (n : ℕ) (a : GivenFields)
    → HasStat (set_attributes w who now n a) (set_checks w who now n a)
of_set w who now n a =
    in_turn (file_of w n) _ (of_file w n) (λ f is.
    let there = found_ok stats.Stale (file_at w n) f is in
    in_turn (check_owner who f a) _ (of_owner w who n a f there) (λ _ _.
    in_turn (check_resize who f a.size) _ (of_resize w who n a f there a.size) (λ _ _.
    in_turn (cond (is_some a.size) (check_room (with_changed_file w n (apply_fields now a))) (Ok tt)) _
    (of_room a.size (has_room (with_changed_file w n (apply_fields now a)))) (λ _ _. done _))))
