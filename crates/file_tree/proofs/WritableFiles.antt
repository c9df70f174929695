-- A text can hold each file of a tree.
-- Serves: `FileDigests::renew`; `add_tree`, `add_tree_digests` (checkpoint).
use Rattle.std.proofs.Common.{◌≡◌, ℕ, ◌≤◌, false, T, List, [], ◌∷◌, length, get_or, Some, is_some, refl, sym}
use Rattle.std.proofs.Common.{ap, ◌∙◌, arith}
use Rattle.std.specs.Prelude.{IsTrue, slice_get}
use Rattle.std.specs.List.{All, AllByRecursion, IsDistinct}
use Rattle.std.specs.Map.{keys_of}
use Rattle.std.specs.Ordering.{nat_cmp, eq_by_cmp, is_lt, is_eq}
use Rattle.std.specs.Cmp.{nat_cmp_total, eq_by_cmp_equiv}
use Rattle.std.specs.declared.cmp.Ordering.{Ordering}
use Rattle.std.specs.declared.cmp.Ordering.TheVariants.{Less, Equal, Greater}
use Rattle.std.specs.FinMap as finite
use Rattle.std.specs.FinMap.Entries.{below_all, is_sorted}
use Rattle.std.proofs.lemmas.List.Elements.{recursion_from_All}
use Rattle.std.proofs.lemmas.Map.Entries.{lookup_from_place}
use Rattle.nfs_spec.specs.fs_spec.Maxima.{max_files, max_entries, max_name}
use Rattle.nfs_spec.specs.fs_spec.Listing.{NamedEntry}
use Rattle.nfs_spec.specs.fs_spec.Files.{Body, Regular, Symlink, Directory, File, Files, file_at, listing_in}
use Rattle.nfs_spec.specs.fs_spec.Trees.{IsBody, IsFileTree}
use Rattle.nfs_spec.proofs.fs_spec.Counts.{count_of_one, file_in, find_lookup, sum_by_second}
use Rattle.nfs_spec.proofs.fs_spec.Reached.{both_of, distinct_in}
use Rattle.nfs_spec.specs.fs_spec.Changes.Limits.{has_room}
use Rattle.nfs_spec.proofs.fs_spec.OfChanges.Room.{within}
use Rattle.inode_table.proofs.tree_rules.OfFileRules.ListedEntries.{entry_in_order}
use Rattle.inode_table.proofs.tree_rules.Seen.{at_inode, length_files}
use Rattle.inode_table.specs.inodes.Inodes as stored
use Rattle.inode_table.specs.inodes.declared.inode.Inode.{Inode}
use Rattle.inode_table.specs.tree_rules.Listed.{files_in}
use Rattle.file_texts.specs.Bounds.{IsWritable}
use Rattle.file_tree.specs.KeptDigests.{IsWritableAt}

-- ---- the files of a map, place by place

-- what is less is not equal
not_equal : (r : Ordering) → T (is_lt r) → is_eq r ≡ false
not_equal Less h = refl
not_equal Equal h = absurd h
not_equal Greater h = refl

-- a key below all others is none of them
apart : {X : Type 0} (x : ℕ) (es : List (ℕ × X)) → T (below_all nat_cmp x es)
    → AllByRecursion (λ y. eq_by_cmp nat_cmp x y ≡ false) (keys_of es)
apart x [] h = tt
apart x (e ∷ es) h =
    let b = both_of (is_lt (nat_cmp x e.0)) (below_all nat_cmp x es) h in
    (not_equal (nat_cmp x e.0) b.0, apart x es b.1)

-- the keys of a map differ
distinct : {X : Type 0} (es : List (ℕ × X)) → T (is_sorted nat_cmp es)
    → IsDistinct (eq_by_cmp nat_cmp) (keys_of es)
unfolding IsDistinct
distinct [] h = tt
distinct (e ∷ es) h =
    let b = both_of (below_all nat_cmp e.0 es) (is_sorted nat_cmp es) h in
    (apart e.0 es b.0, distinct es b.1)

-- what stands at a place is there
pub there : (w : Files) (k : ℕ) (e : ℕ × File) → slice_get (finite.entries w.files) k ≡ Some e
    → file_at w e.0 ≡ Some e.1
there w k e at =
    finite.get-entries w.files e.0
    ∙ find_lookup e.0 (finite.entries w.files)
    ∙ lookup_from_place (eq_by_cmp_equiv nat_cmp_total) (finite.entries w.files) k e.0 e.1
    (distinct (finite.entries w.files) (finite.entries_sorted w.files)) at

-- ---- what a text can hold

module _ (w : Files) (tree : IsFileTree w) (room : IsTrue (has_room w)) where
  -- a directory has no more entries than all together may have
  few_entries : (n : ℕ) (f : File) → file_at w n ≡ Some f → length (listing_in f.body).entries ≤ max_entries
  few_entries n f is =
      let count : File → ℕ = λ g. length (listing_in g.body).entries in
      let one = count_of_one count (eq_by_cmp nat_cmp n) (finite.entries w.files) f (file_in w n f is) in
      let all = sum_by_second count (finite.entries w.files) in
      omega (arith, one, all, (within w room).entries)

  -- its names are within their limit
  short_names : (n : ℕ) (f : File) → file_at w n ≡ Some f
      → All (λ (e : NamedEntry). length e.0 ≤ max_name) (listing_in f.body).entries
  short_names n f is = λ i d h.
      let x = get_or (listing_in f.body).entries i d in
      (tree.names n x.0 (ap is_some (entry_in_order w n f is (distinct_in f.body (tree.files n f is).body) i d
      h))).1

  -- what is known of a file bounds its body
  bounded : (b : Body) → IsBody b → length (listing_in b).entries ≤ max_entries
      → All (λ (e : NamedEntry). length e.0 ≤ max_name) (listing_in b).entries → IsWritable b
  bounded (Regular bytes) h few short = h
  bounded (Symlink target) h few short = h
  bounded (Directory l) h few short = (
    few,
    recursion_from_All (λ (e : NamedEntry). length e.0 ≤ max_name)
        l.entries short,
  )

  -- so a text can hold each file
  writable_file : (n : ℕ) (f : File) → file_at w n ≡ Some f → IsWritable f.body
  writable_file n f is = bounded f.body (tree.files n f is).body (few_entries n f is) (short_names n f is)

  module _ (inodes : List (ℕ × Inode)) (same : files_in inodes ≡ finite.entries w.files) where
    each_writable : All (IsWritableAt w) inodes
    each_writable k d h =
        let e = get_or inodes k d in
        let at = sym (ap (λ es. slice_get es k) same) ∙ at_inode inodes k d h in
        let is = there w k (e.0, stored.file_in e.1) at in
        (is, writable_file e.0 (stored.file_in e.1) is)

    -- the inodes of a tree are its files, and a text can hold each
    pub writable_at : AllByRecursion (IsWritableAt w) inodes
    writable_at = recursion_from_All (IsWritableAt w) inodes each_writable

    -- so they can be written
    pub writable : AllByRecursion (λ (e : ℕ × Inode). IsWritable (stored.file_in e.1).body) inodes
    writable = recursion_from_All (λ (e : ℕ × Inode). IsWritable (stored.file_in e.1).body) inodes
        (λ k d h. (each_writable k d h).1)

  -- the files are within their limit
  pub few_files : length (finite.entries w.files) ≤ max_files
  few_files = let same = finite.len-entries w.files in omega (arith, same, (within w room).files)

-- as many inodes as files
pub as_many : (inodes : List (ℕ × Inode)) (es : List (ℕ × File)) → files_in inodes ≡ es
    → length inodes ≡ length es
as_many inodes es same = sym (length_files inodes) ∙ ap length same
