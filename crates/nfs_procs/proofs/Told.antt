-- What a call that changes files tells: its effect's answer is what was done, with the attributes after it.
-- Serves: `setattr`, `write`, `create`, `make_dir`.
use Rattle.std.proofs.Common.{◌≡◌, ℕ, Option, Some, None, Result, Ok, Err, IsSome, refl, sym, ap, ◌∙◌}
use Rattle.nfs_items.specs.Handle.{FileHandle, handle_of}
use Rattle.nfs_items.specs.declared.attributes.Fattr.{Fattr}
use Rattle.nfs_items.specs.declared.stat.Stat.{Stat}
use Rattle.nfs_items.specs.declared.stat.Stat.TheVariants as stats
use Rattle.file_tree.specs.nfs_types.Calls.{Attributes, DirOp}
use Rattle.nfs_laws.specs.fs_spec.Files.{File, Files, file_at}
use Rattle.nfs_laws.specs.nfs_spec.ProcedureChecks.{◌>>=◌, ok_or}
use Rattle.nfs_laws.specs.nfs_spec.FileAttributes.{attributes_of}
use Rattle.nfs_laws.specs.nfs_spec.Effects.{attributes_at}
use Rattle.nfs_laws.specs.nfs_spec.Changes.{Effect}
use Rattle.nfs_laws.proofs.nfs_spec.Present.{none_there}
use Rattle.nfs_laws.specs.nfs_spec.NfsCalls.{answer_and_files, with_attributes, with_handle}
use Rattle.file_tree.specs.Performs.{Does, DoesAt}
use Rattle.nfs_procs.specs.Changed.{file_then}

-- the attributes of a file that is there
shown : (fs : Files) (n : ℕ) → IsSome (file_at fs n) → (a : Fattr) × (attributes_at fs n ≡ Ok a)
shown fs n there = by (file_at fs n) refl there
  where
    by : (o : Option File) → file_at fs n ≡ o → IsSome o → (a : Fattr) × (attributes_at fs n ≡ Ok a)
    by None e h = absurd (none_there {A = File} None refl h)
    by (Some f) e h = (
      attributes_of fs n f,
      ap
          (λ o. ok_or stats.Stale o >>= (λ f. Ok (attributes_of fs n f))) e,
    )

module _ (fs new : Files) where
  -- SETATTR and WRITE answer what was done, with the attributes after it
  pub attributes_told : (n : ℕ) (e : Effect (Unit {0})) (r : Result Fattr Stat) → DoesAt e n fs r new
      → answer_and_files Attributes fs (with_attributes n e) ≡ (Attributes r, new)
  attributes_told n e (Ok a) done =
      ap (λ e. answer_and_files Attributes fs (with_attributes n e)) done.0
      ∙ ap (λ r. answer_and_files Attributes fs (r >>= (λ a. Ok (a, new)))) done.1
  attributes_told n e (Err s) refused =
      ap (λ e. answer_and_files Attributes fs (with_attributes n e)) refused.0
      ∙ ap (λ w. (Attributes (Err s), w)) (sym refused.1)

  -- CREATE and MKDIR answer what was made, with the handle and attributes of a file that is there after it
  pub handle_told : (e : Effect ℕ) (made : Result ℕ Stat) (r : Result (FileHandle × Fattr) Stat)
      → Does e fs made new
      → r ≡ file_then new made → ((n : ℕ) (after : Files) → e ≡ Ok (n, after) → IsSome (file_at after n))
      → answer_and_files DirOp fs (with_handle e) ≡ (DirOp r, new)
  handle_told e (Ok n) r does is there =
      let a = shown new n (there n new does) in
      ap (λ e. answer_and_files DirOp fs (with_handle e)) does
      ∙ ap (λ r. answer_and_files DirOp fs (r >>= (λ a. Ok ((handle_of new.fsid n, a), new)))) a.1
      ∙ ap (λ r. (DirOp r, new)) (sym (is ∙ ap (λ r. r >>= (λ a. Ok (handle_of new.fsid n, a))) a.1))
  handle_told e (Err s) r does is there =
      ap (λ e. answer_and_files DirOp fs (with_handle e)) does.0
      ∙ ap (λ w. (DirOp (Err s), w)) (sym does.1)
      ∙ ap (λ r. (DirOp r, new)) (sym is)
