-- How great and how small kept numbers are.
-- Serves: kept_numbers_are_bounded.
use Rattle.std.proofs.Common.{◌≡◌, ℕ, ◌+◌, ◌≤◌, Bool, true, false, cond, List, length, Option, Some, None}
use Rattle.std.proofs.Common.{is_some, nat_eq, sum_by, option_map, refl, sym, ap, ◌∙◌, arith}
use Rattle.std.specs.Option.{option_map_or}
use Rattle.std.specs.Ordering.{nat_cmp, eq_by_cmp}
use Rattle.std.specs.Cmp.Lexicographic.{pointwise}
use Rattle.std.specs.FinMap as finite
use Rattle.std.proofs.lemmas.List.Sums.{count_by-le-length, sum_by-le-sum_by}
use Rattle.nfs_laws.specs.fs_spec.Listing.{entry_number}
use Rattle.nfs_laws.specs.fs_spec.Files.{Body, Regular, Symlink, Directory, File, Files, file_at, listing_in}
use Rattle.nfs_laws.specs.fs_spec.Files.{is_directory, IsDirectory, directory_entries, names_of, names_in}
use Rattle.nfs_laws.proofs.fs_spec.Walks.{none_some, some_same}
use Rattle.nfs_laws.proofs.fs_spec.Counts.{count_of_one, sum_by_second, file_in, listed_in}
use Rattle.nfs_laws.specs.fs_spec.Changes.Limits.{entry_count}
use Rattle.nfs_laws.proofs.fs_spec.OfChanges.Shapes.{kind}
use Rattle.nfs_laws.proofs.fs_spec.OfChanges.Room.{within}
use Rattle.nfs_laws.specs.nfs_spec.FileAttributes.{is_directory_at, nlink_of}
use Rattle.nfs_count_laws.specs.Counted.{IsKept}

-- no number has more names than there are entries
names_most : (w : Files) (n : ℕ) → names_of w n ≤ entry_count w
names_most w n =
    sum_by-le-sum_by (names_in n) (λ (f : File). length (listing_in f.body).entries) (finite.values w.files)
    (λ f. count_by-le-length (λ e. nat_eq (entry_number e) n) (listing_in f.body).entries)

-- no directory has more entries than there are
listed_most : (w : Files) (n : ℕ) (f : File) → file_at w n ≡ Some f
    → length (listing_in f.body).entries ≤ entry_count w
listed_most w n f there =
    let one = count_of_one (λ (f : File). length (listing_in f.body).entries) (eq_by_cmp nat_cmp n)
    (finite.entries w.files) f (file_in w n f there) in
    let all = sum_by_second (λ (f : File). length (listing_in f.body).entries) (finite.entries w.files) in
    omega (arith, one, all)

module _ (fs : Files) (links above : ℕ → ℕ) (entries blocks : ℕ)
    (kept : IsKept fs links above entries blocks) where
  -- entries are within their limit
  pub entries_bounded : entries ≤ 16384
  entries_bounded = omega (arith, kept.entries, (within fs kept.room).entries)

  -- so are blocks
  pub blocks_bounded : blocks ≤ 32768
  blocks_bounded = omega (arith, kept.blocks, (within fs kept.room).blocks)

  -- a file has one link at least
  pub links_positive : (n : ℕ) (f : File) → file_at fs n ≡ Some f → 1 ≤ links n
  links_positive n f there = omega (arith, kept.counted.nlinks n f there, by f.body refl)
    where
      true_false : ◌≡◌ {A = Option Bool} (Some true) (Some false) → ⊥
      true_false h = cc

      plain : is_directory f.body ≡ false → 1 ≤ names_of fs n
      plain e = kept.tree.named n
          (λ root. true_false (sym (ap (kind fs) root ∙ kept.tree.tree.root)
          ∙ ap (option_map (λ f. is_directory f.body)) there ∙ ap (λ b. Some b) e))
          (ap is_some there)

      by : (b : Body) → f.body ≡ b → 1 ≤ nlink_of fs n b
      by (Regular bytes) e = plain (ap is_directory e)
      by (Symlink t) e = plain (ap is_directory e)
      by (Directory l) e = omega arith

  -- and two more than there are entries at most
  pub links_bounded : (n : ℕ) (f : File) → file_at fs n ≡ Some f → links n ≤ entries + 2
  links_bounded n f there =
      omega (arith, kept.counted.nlinks n f there, kept.entries, by f.body (listed_most fs n f there))
    where
      by : (b : Body) → length (listing_in b).entries ≤ entry_count fs → nlink_of fs n b ≤ entry_count fs + 2
      by (Regular bytes) e = omega (arith, names_most fs n)
      by (Symlink t) e = omega (arith, names_most fs n)
      by (Directory l) e =
          omega (arith, e, count_by-le-length (λ e. is_directory_at fs (entry_number e)) l.entries)

  module _ (dir : ℕ) (name : List ℕ) (n cookie : ℕ) (had : directory_entries fs dir name ≡ Some (n, cookie))
      (is : IsDirectory fs n) where
    -- a directory that names a directory has three
    pub links_of_parent : 3 ≤ links dir
    links_of_parent =
        let f = listed_in fs dir name (n, cookie) had in
        let one = count_of_one (λ (p : ℕ × ℕ). cond (is_directory_at fs p.0) 1 0) (pointwise nat_eq name)
        (listing_in f.0.body).entries (n, cookie) f.2 in
        let own : ◌≡◌ {A = ℕ} (cond (is_directory_at fs n) 1 0) 1 =
        ap (λ b. cond b 1 0) (directory (file_at fs n) is) in
        let kind : is_directory f.0.body
        ≡ true = some_same (sym (ap (option_map (λ f. is_directory f.body)) f.1)
        ∙ kept.tree.tree.lists dir name n cookie had) in
        omega (arith, kept.counted.nlinks dir f.0 f.1, by f.0.body kind (omega (arith, one, own)))
      where
        directory : (o : Option File) → option_map (λ f. is_directory f.body) o ≡ Some true
            → option_map_or (λ f. is_directory f.body) o false ≡ true
        directory None h = absurd (none_some h)
        directory (Some f) h = some_same h

        by : (b : Body) → is_directory b ≡ true
            → 1 ≤ sum_by (λ e. cond (is_directory_at fs e.1.0) 1 0) (listing_in b).entries
            → 3 ≤ nlink_of fs dir b
        by (Regular bytes) e h = absurd cc
        by (Symlink t) e h = absurd cc
        by (Directory l) e h = omega (arith, h)

    -- and is above it
    pub above_named : above n ≡ dir
    above_named = kept.counted.parents n is ∙ kept.tree.tree.up dir name n cookie had is
