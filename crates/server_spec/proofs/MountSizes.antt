-- The answers to calls have a spelling, and these are their bytes.
-- Serves: `laws::answers_fit_a_reply`.
use Rattle.std.proofs.Common.{◌≡◌, ℕ, ◌+◌, ◌-◌, ◌*◌, ◌/◌, ◌%◌, ◌≤◌, List, [], ◌∷◌, ◌++◌, length, refl, ap}
use Rattle.std.proofs.Common.{arith}
use Rattle.std.specs.List.{AllByRecursion, flat_map}
use Rattle.std.proofs.lemmas.List.{length-append, length-replicate}
use Rattle.xdr.specs.Item.{Fits, spelling, number_spelling, padding, word, opaque}
use Rattle.xdr.proofs.Front.{length-number_spelling}
use Rattle.mount_types.specs.nfs_items.Caller.{Caller}
use Rattle.mount_types.specs.nfs_items.Handle.{handle_of}
use Rattle.nfs_laws.specs.fs_spec.Files.{Files}
use Rattle.mount_types.specs.declared.arguments.MountProcedure.TheVariants as procedures
use Rattle.mount_types.specs.Calls as calls
use Rattle.mount_types.specs.Calls.{Mount, MountCall, MountAnswer}
use Rattle.mount_types.specs.Items.{mount, mountlist}
use Rattle.mount_types.specs.Texts.{procedure_in, answer_item, answer_value, answer_text, IsAnswerTo}
use Rattle.mount_types.specs.Mounts.{Mounts, root_path, IsMount, AreMounts}
use Rattle.server_spec.specs.Paths.{names_on}
use Rattle.server_spec.specs.MountCalls.{host_of, mount_does}
use Rattle.nfs_laws.proofs.OfSizes.Lengths.{handle_length, opaque_length}
use Rattle.server_spec.proofs.MountSteps.{mount_answers}

-- ---- the mounts

mount_fits : (m : Mount) → IsMount m → Fits mount m
mount_fits m is =
    let root : length m.1 ≡ 1 = ap length is.1 in
    ((omega (arith, is.0), is.0), (omega (arith, root), omega (arith, root)))

mounts_fit : (mounts : Mounts) → AllByRecursion IsMount mounts → AllByRecursion (Fits mount) mounts
mounts_fit [] all = tt
mounts_fit (m ∷ mounts) all = (mount_fits m all.0, mounts_fit mounts all.1)

mount_length : (m : Mount) → IsMount m → length (spelling word 1 ++ spelling mount m) ≤ 272
mount_length m is =
    let root : length m.1 ≡ 1 = ap length is.1 in
    omega (
      arith,
      length-append (number_spelling 4 1) (spelling mount m),
      length-append (spelling (opaque 255) m.0) (spelling (opaque 1024) m.1),
      length-number_spelling 4 1,
      opaque_length 255 m.0,
      opaque_length 1024 m.1,
      root,
      is.0,
    )

mounts_length : (mounts : Mounts) → AllByRecursion IsMount mounts
    → length (flat_map (λ m. spelling word 1 ++ spelling mount m) mounts) ≤ 272 * length mounts
mounts_length [] all = omega arith
mounts_length (m ∷ mounts) all =
    omega (
      arith,
      length-append (spelling word 1 ++ spelling mount m)
          (flat_map (λ m. spelling word 1 ++ spelling mount m) mounts),
      mount_length m all.0,
      mounts_length mounts all.1,
    )

list_length : (mounts : Mounts) → AreMounts mounts → length (spelling mountlist mounts) ≤ 10884
list_length mounts are =
    omega (
      arith,
      length-append (flat_map (λ m. spelling word 1 ++ spelling mount m) mounts) (number_spelling 4 0),
      length-number_spelling 4 0,
      mounts_length mounts are.each,
      are.count,
    )

-- the one export
exports_length : length (answer_text (calls.Exports ((root_path, []) ∷ []))) ≡ 20
unfolding number_spelling
exports_length = refl

-- ---- the answers

-- an answer is one of its call's procedure
pub answer_is_own : (fs : Files) (mounts : Mounts) (who : Caller) (call : MountCall)
    → IsAnswerTo (procedure_in call) (mount_does fs mounts who call).0
answer_is_own fs mounts who calls.Null = tt
answer_is_own fs mounts who (calls.Mnt path) =
    mount_answers fs mounts (host_of who) (IsAnswerTo procedures.Mnt) tt tt tt tt (names_on path)
answer_is_own fs mounts who calls.Dump = tt
answer_is_own fs mounts who (calls.Umnt path) = tt
answer_is_own fs mounts who calls.Umntall = tt
answer_is_own fs mounts who calls.Export = tt

-- an answer has a spelling
pub answer_fits : (fs : Files) (mounts : Mounts) (who : Caller) (call : MountCall) → AreMounts mounts
    → Fits (answer_item (mount_does fs mounts who call).0) (answer_value (mount_does fs mounts who call).0)
answer_fits fs mounts who calls.Null are = tt
answer_fits fs mounts who (calls.Mnt path) are =
    mount_answers fs mounts (host_of who) (λ a. Fits (answer_item a) (answer_value a))
    (omega arith, refl, handle_length fs.fsid 1) (omega arith, refl, tt) (omega arith, refl, tt)
    (omega arith, refl, tt) (names_on path)
answer_fits fs mounts who calls.Dump are = mounts_fit mounts are.each
answer_fits fs mounts who (calls.Umnt path) are = tt
answer_fits fs mounts who calls.Umntall are = tt
answer_fits fs mounts who calls.Export are = (((omega arith, omega arith), tt), tt)

-- the spelling takes at most 10,884 bytes
pub answer_is_short : (fs : Files) (mounts : Mounts) (who : Caller) (call : MountCall) → AreMounts mounts
    → length (answer_text (mount_does fs mounts who call).0) ≤ 10884
answer_is_short fs mounts who calls.Null are = omega arith
answer_is_short fs mounts who (calls.Mnt path) are =
    mount_answers fs mounts (host_of who) (λ a. length (answer_text a) ≤ 10884) root (status 2) (status 13)
    (status 28) (names_on path)
  where
    root : length (number_spelling 4 0 ++ (handle_of fs.fsid 1 ++ padding 32)) ≤ 10884
    root =
        omega (
          arith,
          length-append (number_spelling 4 0) (handle_of fs.fsid 1 ++ padding 32),
          length-append (handle_of fs.fsid 1) (padding 32),
          length-number_spelling 4 0,
          handle_length fs.fsid 1,
        )

    status : (n : ℕ) → length (number_spelling 4 n ++ []) ≤ 10884
    status n = omega (arith, length-append (number_spelling 4 n) [], length-number_spelling 4 n)
answer_is_short fs mounts who calls.Dump are = list_length mounts are
answer_is_short fs mounts who (calls.Umnt path) are = omega arith
answer_is_short fs mounts who calls.Umntall are = omega arith
answer_is_short fs mounts who calls.Export are = omega (arith, exports_length)
