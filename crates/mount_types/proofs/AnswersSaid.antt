-- The spelling of an answer is its bytes, told by what the answer is.
-- Serves: `write_mount_result`, `add_mounts`, `add_list`.
use Rattle.std.proofs.Common.{◌≡◌, ℕ, List, [], ◌∷◌, ◌++◌, take, map, Ok, Err, refl, sym, ap, ◌∙◌}
use Rattle.std.proofs.Common.{append_assoc}
use Rattle.std.specs.Prelude.{Result, IsErr}
use Rattle.std.specs.List.{flat_map}
use Rattle.nfs_items.specs.xdr.Item.{word, spelling}
use Rattle.nfs_items.specs.xdr.Writing.{Adds, Appends, Begins}
use Rattle.nfs_items.specs.Handle.{fhandle}
use Rattle.nfs_items.proofs.Outcomes.{outcome_says}
use Rattle.mount_types.specs.Items.{mount, mountlist}
use Rattle.mount_types.specs.Texts.{answer_text}
use Rattle.mount_types.specs.Results.{answer_of, answer_bytes}
use Rattle.mount_types.specs.declared.results.MountResult.{MountResult}
use Rattle.mount_types.specs.declared.results.MountResult.TheVariants as code

-- an answer's spelling is its bytes
pub answers_say : (r : MountResult) → answer_text (answer_of r) ≡ answer_bytes r
answers_say code.Nothing = refl
answers_say (code.Mounted r) = outcome_says fhandle (λ handle. handle.0) (λ handle. handle) r
answers_say (code.Mounts hosts directory) = refl
answers_say (code.Exported directory) = refl

module _ {A : Type 0} (host : A → List ℕ) (directory : List ℕ) where
  -- each mount after TRUE, and then FALSE, is the list of mounts
  pub mounts_say : (hosts : List A)
      → flat_map (λ h. spelling word 1 ++ spelling mount (host h, directory)) hosts ++ spelling word 0
      ≡ spelling mountlist (map (λ h. (host h, directory)) hosts)
  mounts_say [] = refl
  mounts_say (h ∷ hosts) =
      append_assoc (spelling word 1 ++ spelling mount (host h, directory)) _ _
      ∙ ap (λ (t : List ℕ). (spelling word 1 ++ spelling mount (host h, directory)) ++ t) (mounts_say hosts)
      ∙ sym (append_assoc (spelling word 1 ++ spelling mount (host h, directory)) _ _)

  -- mounts that stand after what was there, and FALSE written after them, add the list
  pub list_ends : {E : Type 0} (hosts : List A) (old middle new : List ℕ) (r : Result (Unit {0}) E)
      → middle ≡ old ++ flat_map (λ h. spelling word 1 ++ spelling mount (host h, directory)) hosts
      → Appends (spelling word 0) middle r new
      → Adds (spelling mountlist (map (λ h. (host h, directory)) hosts)) old r new
  list_ends hosts old middle new (Ok x) mounts end =
      end ∙ ap (λ (t : List ℕ). t ++ spelling word 0) mounts ∙ append_assoc old _ _
      ∙ ap (λ (t : List ℕ). old ++ t) (mounts_say hosts)
  list_ends hosts old middle new (Err e) mounts end =
      (flat_map (λ h. spelling word 1 ++ spelling mount (host h, directory)) hosts, end ∙ mounts)

  -- where memory is refused after some mounts, a part stands
  pub mounts_break : {E : Type 0} (hosts : List A) (n : ℕ) (old middle new : List ℕ) (r : Result (Unit {0}) E)
      → IsErr r
      → middle ≡ old ++ flat_map (λ h. spelling word 1 ++ spelling mount (host h, directory)) (take n hosts)
      → Begins middle new → Adds (flat_map (λ h. spelling word 1 ++ spelling mount (host h, directory)) hosts)
      old r new
  mounts_break hosts n old middle new (Ok x) h mounts more = absurd cc
  mounts_break hosts n old middle new (Err e) h mounts more = (
    flat_map (λ h. spelling word 1 ++ spelling mount (host h, directory)) (take n hosts) ++ more.0,
    more.1 ∙ ap (λ (t : List ℕ). t ++ more.0) mounts ∙ append_assoc old _ more.0,
  )
