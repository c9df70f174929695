-- SETATTR and WRITE, told by the file before them.
-- Serves: `check_set`, `check_write`.
use Rattle.std.proofs.Common.{◌≡◌, ℕ, ◌+◌, ◌-◌, ◌≤◌, ◌/◌, Bool, true, false, List, length, max, Option, Some}
use Rattle.std.proofs.Common.{None, Result, Ok, refl, sym, ap, ◌∙◌, arith}
use Rattle.std.specs.Prelude.{◌↔◌, ◌==◌, is_some, if◌then◌else◌}
use Rattle.std.proofs.lemmas.Bool.{le-leb}
use Rattle.nfs_spec.specs.nfs_items.Timeval.{Timeval}
use Rattle.nfs_spec.specs.nfs_items.Caller.{Caller}
use Rattle.nfs_spec.specs.nfs_items.declared.stat.Stat.{Stat}
use Rattle.nfs_spec.specs.nfs_items.declared.stat.Stat.TheVariants as stats
use Rattle.nfs_spec.specs.fs_spec.Files.{Body, Regular, File, Files, file_at, listing_in}
use Rattle.nfs_spec.specs.fs_spec.Changes.Edits.{with_changed_file}
use Rattle.nfs_spec.specs.fs_spec.Changes.Limits.{has_room, block_count, blocks_in}
use Rattle.nfs_spec.specs.ProcedureChecks.{◌>>=◌, ok_or, bytes_of, check, check_size, check_room, may_write}
use Rattle.nfs_spec.specs.Sattr.{GivenFields}
use Rattle.nfs_spec.specs.Changes.{Effect, check_owner, check_resize, apply_fields, body_with_length}
use Rattle.nfs_spec.specs.Changes.{with_bytes_at}
use Rattle.nfs_spec.specs.Procedures.{set_attributes, write, with_bytes_written}
use Rattle.inode_table.specs.nfs_laws.Steps.Granted.{ResizeOk}
use Rattle.inode_table.proofs.nfs_laws.OfSteps.Steps.{bytes_ok}
use Rattle.inode_table.proofs.nfs_laws.OfSteps.Setting.{resize_ok}
use Rattle.inode_table.proofs.nfs_laws.Bytes.{length-resized, written_length}
use Rattle.inode_table.proofs.nfs_laws.FilesFit.{set_lists}
use Rattle.inode_table.proofs.nfs_laws.RoomBefore.{to_write}
use Rattle.file_tree.specs.FileChecks.Decides.{Decides, IsCheckOf}
use Rattle.file_tree.proofs.OfFileChecks.Steps.{passes, told, decides}

-- blocks, as code counts them
round_up : (size : ℕ) → (size + 511) / 512 ≡ (size + 512 - 1) / 512
round_up size = let same : size + 511 ≡ size + 512 - 1 = omega arith in ap (λ (n : ℕ). n / 512) same

-- the blocks of a regular file with a size
sized_blocks : (size : ℕ) (b : Body) (bytes : List ℕ) → b ≡ Regular bytes
    → blocks_in (body_with_length (Some size) b) ≡ (size + 512 - 1) / 512
sized_blocks size b bytes is =
    ap (λ b. blocks_in (body_with_length (Some size) b)) is
    ∙ ap (λ (n : ℕ). (n + 511) / 512) (length-resized size bytes) ∙ round_up size

-- the same room, by numbers that are the same
same_room : (b : Bool) (sum blocks blocks' had had' : ℕ) → blocks ≡ blocks' → had' ≡ had
    → (b ≡ true) ↔ (sum + blocks ≤ 32768 + had) → (b ≡ true) ↔ (sum + blocks' ≤ 32768 + had')
same_room b sum blocks blocks' had had' e e' iff =
    (λ h. omega (arith, e, e', iff.0 h), λ h. iff.1 (omega (arith, e, e', h)))

module _ (w : Files) (who : Caller) (now : Timeval) (n : ℕ) (f : File) (there : file_at w n ≡ Some f) where
  module _ (a : GivenFields) (owner : check_owner who f a ≡ Ok tt)
      (resize : check_resize who f a.size ≡ Ok tt) where
    abbrev set : Files
    set = with_changed_file w n (apply_fields now a)

    -- what is left of SETATTR after its first checks
    set_left : set_attributes w who now n a
        ≡ ((if is_some a.size then check_room set else Ok tt) >>= λ _. Ok (tt, set))
    set_left =
        passes (ok_or stats.Stale (file_at w n)) f _ _ (ap (ok_or stats.Stale) there)
        (passes (check_owner who f a) tt _ _ owner (passes (check_resize who f a.size) tt _ _ resize refl))

    -- with no size nothing else is asked
    pub set_unsized : a.size ≡ None → (x : Unit {0} × Files) × (set_attributes w who now n a ≡ Ok x)
    set_unsized none = (
      (tt, set),
      set_left
          ∙ ap (λ (size : Option ℕ). (if is_some size then check_room set else Ok tt) >>= λ _.
          Ok (tt, set)) none,
    )

    -- a size asks for room, told by the blocks before and after
    pub set_sized : has_room w ≡ true → (size : ℕ) → a.size ≡ Some size → (had : ℕ) → had ≡ blocks_in f.body
        → (r : Result (Unit {0}) Stat)
        → IsCheckOf (block_count w + (size + 512 - 1) / 512 ≤ 32768 + had) stats.NoSpc r
        → Decides (set_attributes w who now n a) r
    set_sized before size given had was r asked =
        decides (set_attributes w who now n a) r (tt, set) (set_left
        ∙ ap (λ (size : Option ℕ). (if is_some size then check_room set else Ok tt) >>= λ _.
        Ok (tt, set)) given
        ∙ ap (λ r. r >>= λ _. Ok (tt, set)) (told (has_room set) stats.NoSpc r room asked))
      where
        ok : ResizeOk who f size
        ok = resize_ok who f size tt (ap (check_resize who f) (sym given) ∙ resize)

        blocks : blocks_in (body_with_length a.size f.body) ≡ (size + 512 - 1) / 512
        blocks = ap (λ s. blocks_in (body_with_length s f.body)) given
            ∙ sized_blocks size f.body ok.bytes ok.regular

        room : (has_room set ≡ true) ↔ (block_count w + (size + 512 - 1) / 512 ≤ 32768 + had)
        room = same_room (has_room set) (block_count w) _ _ _ _ blocks was
            (to_write w before n (apply_fields now a) f there (set_lists a.size f.body))

  module _ (offset : ℕ) (new old : List ℕ) (regular : bytes_of f.body ≡ Ok old)
      (may : may_write who f ≡ true) where
    abbrev written : Files
    written = with_changed_file w n (with_bytes_written now offset new old)

    -- what is left of WRITE after its first checks
    abbrev rest : Bool → Effect (Unit {0})
    rest none = if none then Ok (tt, w) else
        check_size (offset + length new) >>= λ _. check_room written >>= λ _. Ok (tt, written)

    write_left : write w who now n offset new ≡ rest (length new == 0)
    write_left =
        passes (ok_or stats.Stale (file_at w n)) f _ _ (ap (ok_or stats.Stale) there)
        (passes (bytes_of f.body) old _ _ regular
        (passes (check (may_write who f) stats.Acces) tt _ _ (ap (λ b. check b stats.Acces) may) refl))

    -- no bytes are written
    pub write_none : (length new == 0) ≡ true → (x : Unit {0} × Files) × (write w who now n offset new ≡ Ok x)
    write_none none = ((tt, w), write_left ∙ ap rest none)

    -- bytes ask for room, told by the blocks before and after
    pub write_some : has_room w ≡ true → (length new == 0) ≡ false → offset + length new ≤ 1048576
        → (size : ℕ) → size ≡ max (offset + length new) (length old) → (had : ℕ) → had ≡ blocks_in f.body
        → (r : Result (Unit {0}) Stat)
        → IsCheckOf (block_count w + (size + 512 - 1) / 512 ≤ 32768 + had) stats.NoSpc r
        → Decides (write w who now n offset new) r
    write_some before some fits size is had was r asked =
        decides (write w who now n offset new) r (tt, written) (write_left ∙ ap rest some
        ∙ passes (check_size (offset + length new)) tt _ _
        (ap (λ b. check b stats.FBig) (le-leb (offset + length new) 1048576 fits))
        (ap (λ r. r >>= λ _. Ok (tt, written)) (told (has_room written) stats.NoSpc r room asked)))
      where
        blocks : blocks_in (Regular (with_bytes_at offset new old)) ≡ (size + 512 - 1) / 512
        blocks = ap (λ (n : ℕ). (n + 511) / 512) (written_length offset new old ∙ sym is) ∙ round_up size

        room : (has_room written ≡ true) ↔ (block_count w + (size + 512 - 1) / 512 ≤ 32768 + had)
        room = same_room (has_room written) (block_count w) _ _ _ _ blocks was
            (to_write w before n (with_bytes_written now offset new old) f there
            (sym (ap listing_in (bytes_ok f.body old regular))))
