-- What the definitions say of a file by its number, told by the inode of that number.
-- Serves: `InodeTable::get`, `InodeTable::file_count`.
use Rattle.std.proofs.Common.{◌≡◌, ℕ, ◌+◌, arith, length, is_some, cond, List, [], ◌∷◌, Some, None, Ok}
use Rattle.std.proofs.Common.{option_map, refl, sym, ap, subst, ◌∙◌}
use Rattle.std.specs.Ordering.{nat_cmp, eq_by_cmp}
use Rattle.std.specs.Cmp.{nat_cmp_total, eq_by_cmp_equiv}
use Rattle.std.specs.Map.{keys_of}
use Rattle.std.specs.List.Sorted.{IsStrictlySortedBy}
use Rattle.std.proofs.lemmas.Map.Keys.{IsDistinct-from_sorted, IsDistinct-head, sorted_tail}
use Rattle.fs_spec.proofs.Reached.{not_before}
use Rattle.fs_spec.specs.Changes.Limits.{file_count}
use Rattle.std.specs.FinMap as finite
use Rattle.std.specs.Prelude.{Option}
use Rattle.std.specs.Option.{option_map_or}
use Rattle.fs_spec.specs.Files.{File, Files, file_at, is_directory, parent_of}
use Rattle.fs_spec.specs.Trees.{IsBody}
use Rattle.fs_spec.proofs.Walks.{none_some}
use Rattle.fs_spec.specs.nfs_items.declared.attributes.Fattr.{Fattr}
use Rattle.fs_spec.specs.nfs_items.declared.stat.Stat.TheVariants as stats
use Rattle.nfs_count_laws.specs.nfs_spec.ProcedureChecks.{◌>>=◌, ok_or}
use Rattle.nfs_count_laws.specs.nfs_spec.Effects.{attributes_at}
use Rattle.nfs_count_laws.specs.nfs_spec.FileAttributes.{attributes_of}
use Rattle.inode_table.specs.Kept.{AreKept}
use Rattle.tree_rules.specs.inodes.Inodes.{body_in, file_in, inode_at, files_of, fattr_of, parent_in}
use Rattle.tree_rules.specs.inodes.Inodes.{KeepsParent, stored_at}
use Rattle.tree_rules.specs.inodes.declared.inode.Body as stored
use Rattle.tree_rules.specs.inodes.declared.inode.Body.TheVariants as code
use Rattle.tree_rules.specs.inodes.declared.inode.Inode.{Inode}
use Rattle.tree_rules.proofs.inodes.FilesSeen.{file_seen}
use Rattle.inode_table.specs.declared.table.InodeTable.TheInside.{Inside}
use Rattle.inode_table.proofs.Tables.{files_in, IsWhole}

-- as many files as inodes, whose numbers rise
pub count_seen : (fsid next : ℕ) (inodes : List (ℕ × Inode)) → IsStrictlySortedBy nat_cmp (keys_of inodes)
    → file_count (files_of fsid next inodes) ≡ length inodes
count_seen fsid next [] sorted = finite.len-empty nat_cmp File
count_seen fsid next (e ∷ es) sorted =
    let rest = files_of fsid next es in
    let cmp = eq_by_cmp_equiv nat_cmp_total in
    let distinct = IsDistinct-from_sorted nat_cmp (keys_of (e ∷ es)) sorted in
    let apart = IsDistinct-head (eq_by_cmp nat_cmp) e.0 (keys_of es) distinct in
    let first = not_before cmp e.0 e.0 (cmp.refl e.0) es apart in
    finite.len-insert nat_cmp_total rest.files e.0 (file_in e.1)
    ∙ ap (λ b. cond b (finite.len rest.files) (finite.len rest.files + 1))
    (ap is_some (file_seen fsid next es e.0 ∙ ap (option_map file_in) first))
    ∙ ap (λ n. n + 1) (count_seen fsid next es (sorted_tail nat_cmp e.0 (keys_of es) sorted))
    ∙ omega arith

-- the attributes of an inode are those of its file where all is kept
pub fattr_kept : (fsid next entries blocks : ℕ) (es : List (ℕ × Inode)) → AreKept fsid next entries blocks es
    → (n : ℕ) {inode : Inode} → inode_at es n ≡ Some inode
    → fattr_of fsid n inode ≡ attributes_of (files_of fsid next es) n (file_in inode)
fattr_kept fsid next entries blocks es kept n {inode} at =
    ap (λ k. record (fattr_of fsid n inode) { nlink = k })
    (sym (ap (λ (o : Option Inode). option_map_or (λ i. i.nlink) o 0) at)
    ∙ kept.counted.nlinks n (file_in inode) (file_seen fsid next es n ∙ ap (option_map file_in) at))

-- attributes that are an inode's are what the definitions say of its file
pub attributes_told : (fsid next entries blocks : ℕ) (es : List (ℕ × Inode))
    → AreKept fsid next entries blocks es
    → (n : ℕ) (f : File) → stored_at es n ≡ Some f → (a : Fattr)
    → ((inode : Inode) → inode_at es n ≡ Some inode → a ≡ fattr_of fsid n inode)
    → attributes_at (files_of fsid next es) n ≡ Ok a
attributes_told fsid next entries blocks es kept n f at a told = by (inode_at es n) refl
  where
    by : (o : Option Inode) → inode_at es n ≡ o → attributes_at (files_of fsid next es) n ≡ Ok a
    by None e = absurd (none_some (sym (ap (option_map file_in) e) ∙ at))
    by (Some inode) e =
        ap (λ o. ok_or stats.Stale o >>= (λ f. Ok (attributes_of (files_of fsid next es) n f)))
        (file_seen fsid next es n ∙ ap (option_map file_in) e)
        ∙ ap (λ x. Ok x) (sym (told inode e ∙ fattr_kept fsid next entries blocks es kept n e))

-- where an inode has a number
module _ (t : Inside) (whole : IsWhole t) (n : ℕ) {inode : Inode}
    (at : inode_at t.inodes.entries n ≡ Some inode) where
  there : file_at (files_in t) n ≡ Some (file_in inode)
  there = file_seen t.fsid t.next t.inodes.entries n ∙ ap (option_map file_in) at

  -- its body is within its limit
  pub is_body : IsBody (body_in inode.body)
  is_body = (whole.tree.files n (file_in inode) there).body

  module _ {w : Files} (view : files_in t ≡ w) where
    -- its attributes are those that it keeps
    pub attributes_kept : fattr_of w.fsid n inode ≡ attributes_of w n (file_in inode)
    attributes_kept = subst (λ (v : Files). fattr_of v.fsid n inode ≡ attributes_of v n (file_in inode)) view
        (fattr_kept t.fsid t.next t.entries t.blocks t.inodes.entries whole n at)

    -- and the directory above a directory is the one that it keeps
    pub parent_kept : KeepsParent inode.body (parent_of w n)
    parent_kept = subst (λ (v : Files). KeepsParent inode.body (parent_of v n)) view (by inode.body refl)
      where
        by : (b : stored.Body) → inode.body ≡ b → KeepsParent b (parent_of (files_in t) n)
        by (code.Regular bytes) e = tt
        by (code.Symlink target) e = tt
        by (code.Directory parent l) e =
            sym (ap (λ (o : Option Inode). option_map_or (λ i. parent_in i.body) o 1) at ∙ ap parent_in e)
            ∙ whole.counted.parents n (ap (option_map (λ f. is_directory f.body)) there
            ∙ ap (λ c. Some (is_directory (body_in c))) e)
