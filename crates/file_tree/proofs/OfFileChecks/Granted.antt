-- What a granted call does, and that the table takes the edit.
-- Serves: the calls of `Tree` in file_tree.
use Rattle.std.proofs.Common.{◌≡◌, ◌≢◌, ℕ, ◌+◌, ◌≤◌, true, false, List, [], length, Some, Ok, sym, ap, subst}
use Rattle.std.proofs.Common.{◌∙◌, arith}
use Rattle.std.specs.Prelude.{◌==◌, if◌then◌else◌}
use Rattle.nfs_spec.specs.nfs_items.Timeval.{Timeval}
use Rattle.nfs_spec.specs.nfs_items.Caller.{Caller}
use Rattle.nfs_spec.specs.fs_spec.Files.{File, Files, file_at}
use Rattle.nfs_spec.specs.fs_spec.Changes.Edits.{with_changed_file}
use Rattle.nfs_spec.specs.fs_spec.Changes.Limits.{has_room, block_count, blocks_in}
use Rattle.nfs_spec.proofs.fs_spec.OfChanges.Finite.{total_changed}
use Rattle.nfs_spec.proofs.fs_spec.OfChanges.Room.{within}
use Rattle.nfs_spec.specs.Sattr.{GivenFields}
use Rattle.nfs_spec.specs.Changes.{apply_fields, body_with_length}
use Rattle.nfs_spec.specs.Procedures.{set_attributes, write, with_bytes_written}
use Rattle.inode_table.specs.nfs_laws.Steps.Granted.{SetOk, WriteOk}
use Rattle.inode_table.proofs.nfs_laws.OfSteps.Setting.{set_ok, write_ok}
use Rattle.inode_table.specs.inodes.Edits.{MaySet, MayWriteAt}

-- room after another body of a file, told by its blocks before and after
blocks_left : (w : Files) (n : ℕ) (change : File → File) (f : File) → file_at w n ≡ Some f
    → has_room (with_changed_file w n change) ≡ true
    → block_count w + blocks_in (change f).body ≤ 32768 + blocks_in f.body
blocks_left w n change f there room =
    omega (
      arith,
      (within (with_changed_file w n change) room).blocks,
      total_changed
          (λ g. blocks_in g.body) w n change f there,
    )

module _ (w : Files) (who : Caller) (now : Timeval) (n : ℕ) where
  -- SETATTR
  module _ (a : GivenFields) (x : Unit {0} × Files) (h : set_attributes w who now n a ≡ Ok x) where
    granted_set : SetOk w who now n a x.1
    granted_set = set_ok w who now n a x.1 h

    -- the table takes the attributes
    pub may_set : MaySet w n a
    may_set = record {
      file = granted_set.file;
      there = granted_set.there;
      sized = λ size given. let r = granted_set.resize size given in record {
        bytes = r.bytes;
        regular = r.regular;
        fits = r.fits;
        room = subst (λ s. block_count w + blocks_in (body_with_length s granted_set.file.body)
            ≤ 32768 + blocks_in granted_set.file.body) given
            (blocks_left w n (apply_fields now a) granted_set.file granted_set.there
            (subst (λ v. has_room v ≡ true) granted_set.effect (granted_set.room size given)));
      };
    }

    -- the table's edit is the effect
    pub set_does : (after : Files) → after ≡ with_changed_file w n (apply_fields now a)
        → set_attributes w who now n a ≡ Ok (tt, after)
    set_does after is = h ∙ ap (λ (v : Files). Ok (tt, v)) (granted_set.effect ∙ sym is)

  -- WRITE
  module _ (offset : ℕ) (new : List ℕ) (x : Unit {0} × Files) (h : write w who now n offset new ≡ Ok x) where
    granted_write : WriteOk w who now n offset new x.1
    granted_write = write_ok w who now n offset new x.1 h

    -- the file is there
    pub write_file : (f : File) × (file_at w n ≡ Some f)
    write_file = (granted_write.file, granted_write.there)

    -- no bytes leave the files as they were
    pub write_does_nothing : (length new == 0) ≡ true → write w who now n offset new ≡ Ok (tt, w)
    write_does_nothing none = h ∙ ap (λ (v : Files). Ok (tt, v))
        (granted_write.effect
        ∙ ap (λ b. if b then w else with_changed_file w n
        (with_bytes_written now offset new granted_write.old)) none)

    module _ (some : (length new == 0) ≡ false) where
      not_none : new ≢ []
      not_none is = tf (sym (ap (λ (bytes : List ℕ). length bytes == 0) is) ∙ some)
        where
          tf : true ≡ false → ⊥
          tf h = cc

      written : x.1 ≡ with_changed_file w n (with_bytes_written now offset new granted_write.old)
      written = granted_write.effect
          ∙ ap (λ b. if b then w else with_changed_file w n
          (with_bytes_written now offset new granted_write.old)) some

      -- the table takes the bytes
      pub may_write_at : (old : List ℕ) × MayWriteAt w n offset new old
      may_write_at = (
        granted_write.old,
        record {
          file = granted_write.file;
          there = granted_write.there;
          regular = granted_write.regular;
          fits = granted_write.fits not_none;
          room = blocks_left w n (with_bytes_written now offset new granted_write.old)
              granted_write.file granted_write.there
              (subst (λ v. has_room v ≡ true) written (granted_write.room not_none));
        },
      )

      -- the table's edit is the effect
      pub write_does : (after : Files) → ((old : List ℕ) → MayWriteAt w n offset new old
          → after ≡ with_changed_file w n (with_bytes_written now offset new old))
          → write w who now n offset new ≡ Ok (tt, after)
      unfolding may_write_at
      write_does after is = h
          ∙ ap (λ (v : Files). Ok (tt, v)) (written ∙ sym (is may_write_at.0 may_write_at.1))
