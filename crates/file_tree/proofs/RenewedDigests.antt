-- Digests that are counted and computed, file by file.
-- Serves: `FileDigests::renew`, `FileDigests::count_missing`.
use Rattle.std.proofs.Common.{◌≡◌, ◌≢◌, ◌⊎◌, ⊎_elim, ℕ, ◌+◌, cond, List, [], ◌∷◌}
use Rattle.std.proofs.Common.{Option, Some, None, IsSome, is_none, inl, inr, refl, sym, ap, subst, ◌∙◌}
use Rattle.std.proofs.Common.{get_or, length, map}
use Rattle.std.proofs.lemmas.List.{length-map}
use Rattle.std.specs.Ordering.{nat_cmp}
use Rattle.std.specs.FinMap as finite
use Rattle.std.proofs.lemmas.Bool.{cases_eq}
use Rattle.std.specs.List.{AllByRecursion, filter}
use Rattle.std.proofs.lemmas.List.Elements.{recursion_from_All}
use Rattle.std.proofs.lemmas.List.Sums.{length-filter, sum_by-cons}
use Rattle.std.proofs.lemmas.Option.{slice_get-get_or}
use Rattle.nfs_spec.specs.fs_spec.Files.{File, Files, file_at}
use Rattle.nfs_spec.proofs.fs_spec.OfChanges.Finite.{cmp_other}
use Rattle.inode_table.specs.inodes.Inodes.{file_in}
use Rattle.inode_table.specs.inodes.declared.inode.Inode.{Inode}
use Rattle.inode_table.specs.tree_rules.Listed.{files_in}
use Rattle.file_texts.specs.server_spec.FileItems.{file_digest}
use Rattle.file_tree.specs.declared.digests.FileDigests.{FileDigests}
use Rattle.file_tree.specs.KeptDigests.{AreKept, count_missing, has_none, kept_at, missing_in}
use Rattle.file_tree.proofs.WritableFiles.{there}

-- a file is one of these inodes
abbrev IsOneOf : ℕ → List (ℕ × Inode) → Type 0
IsOneOf n inodes = IsSome (finite.find nat_cmp n (files_in inodes))

-- each file has a digest, but those that are left
abbrev pub AreKeptBut : FileDigests → Files → List (ℕ × Inode) → Type 0
AreKeptBut k w left = (n : ℕ) → IsSome (file_at w n) → IsSome (kept_at k n) ⊎ IsOneOf n left

-- before the first
pub all_left : (k : FileDigests) (w : Files) (inodes : List (ℕ × Inode))
    → files_in inodes ≡ finite.entries w.files → AreKeptBut k w inodes
all_left k w inodes same n there =
    inr (subst (λ (es : List (ℕ × File)). IsSome (finite.find nat_cmp n es)) (sym same)
    (subst IsSome (finite.get-entries w.files n) there))

-- one of those left is the first, or one of the others
first_or_other : (n : ℕ) (e : ℕ × Inode) (after : List (ℕ × Inode)) → n ≢ e.0 → IsOneOf n (e ∷ after)
    → IsOneOf n after
first_or_other n e after ne is =
    subst (λ b. IsSome (cond b (Some (file_in e.1)) (finite.find nat_cmp n (files_in after))))
    (cmp_other n e.0 ne) is

-- after one more
pub one_less : (k k' : FileDigests) (w : Files) (left after : List (ℕ × Inode)) (e : ℕ × Inode)
    → left ≡ e ∷ after → IsSome (kept_at k' e.0)
    → ((n : ℕ) → IsSome (kept_at k n) → IsSome (kept_at k' n))
    → AreKeptBut k w left → AreKeptBut k' w after
one_less k k' w left after e is here stay old n there = ⊎_elim
    (λ same. inl (subst (λ m. IsSome (kept_at k' m)) (sym same) here))
    (λ ne. ⊎_elim
    (λ kept. inl (stay n kept))
    (λ one. inr (first_or_other n e after ne (subst (IsOneOf n) is one)))
    (old n there))
    (cases_eq n e.0)

-- of no inodes, none
is_none_of : (n : ℕ) → IsOneOf n [] → ⊥
is_none_of n h = cc

-- after the last
pub none_left : (k : FileDigests) (w : Files) (left : List (ℕ × Inode)) → left ≡ [] → AreKeptBut k w left
    → (n : ℕ) → IsSome (file_at w n) → IsSome (kept_at k n)
none_left k w left is old n there =
    ⊎_elim (λ kept. kept) (λ one. absurd (is_none_of n (subst (IsOneOf n) is one))) (old n there)

-- a digest more, of a file that is there
pub one_more : (k k' : FileDigests) (w : Files) (m : ℕ) (f : File) → file_at w m ≡ Some f
    → ((n : ℕ) (d : List ℕ) → kept_at k' n ≡ Some d
    → (kept_at k n ≡ Some d) ⊎ ((n ≡ m) × (d ≡ file_digest (m, f))))
    → AreKept k w → AreKept k' w
one_more k k' w m f there new kept n d is = ⊎_elim
    (λ old. kept n d old)
    (λ x. (f, ap (file_at w) x.0 ∙ there, x.1 ∙ ap (λ j. file_digest (j, f)) (sym x.0)))
    (new n d is)

-- ---- how many are missing

-- of one file more
pub missing_first : (k : FileDigests) (e : ℕ × Inode) (after : List (ℕ × Inode))
    → count_missing k (files_in (e ∷ after))
    ≡ (cond (is_none (kept_at k e.0)) 1 0) + count_missing k (files_in after)
missing_first k e after =
    sum_by-cons (λ (x : ℕ × File). cond (is_none (kept_at k x.0)) 1 0) (e.0, file_in e.1) (files_in after)

-- as many as are listed
pub as_many_missing : (k : FileDigests) (w : Files) (n : ℕ)
    → n ≡ count_missing k (finite.entries w.files) → n ≡ length (missing_in k w)
as_many_missing k w n is =
    is ∙ sym (length-filter (has_none k) (finite.entries w.files))
    ∙ sym (length-map (filter (has_none k) (finite.entries w.files)) (λ (e : ℕ × File). e.0))

-- files that all have one
none_of : (k : FileDigests) (es : List (ℕ × File)) → AllByRecursion
    (λ (e : ℕ × File). IsSome (kept_at k e.0)) es
    → filter (has_none k) es ≡ []
none_of k [] all = refl
none_of k (e ∷ es) all = is_kept (kept_at k e.0) all.0 (filter (has_none k) es) (none_of k es all.1)
  where
    is_kept : (o : Option (List ℕ)) → IsSome o → (rest : List (ℕ × File)) → rest ≡ []
        → cond (is_none o) (e ∷ rest) rest ≡ []
    is_kept (Some d) h rest is = is
    is_kept None h rest is = absurd cc

-- none is missing where each file has one
pub none_missing : (k : FileDigests) (w : Files)
    → ((n : ℕ) → IsSome (file_at w n) → IsSome (kept_at k n)) → missing_in k w ≡ []
none_missing k w all =
    ap (map (λ (e : ℕ × File). e.0)) (none_of k (finite.entries w.files)
    (recursion_from_All (λ (e : ℕ × File). IsSome (kept_at k e.0)) (finite.entries w.files)
    (λ i d h.
    let e = get_or (finite.entries w.files) i d in
    all e.0 (subst IsSome (sym (there w i e (slice_get-get_or (finite.entries w.files) i d h))) cc))))
