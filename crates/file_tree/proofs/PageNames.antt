-- The names of a page are those of a tree, so none is longer than a name may be.
-- Serves: `Tree::list`.
use Rattle.std.proofs.Common.{◌≡◌, ℕ, zero, suc, ◌≤◌, List, [], ◌∷◌, map, length, All, Ok, Err, IfOk, Result}
use Rattle.std.proofs.Common.{arith, sym, ap, subst}
use Rattle.std.specs.Prelude.{IsTrue}
use Rattle.std.specs.List.{AllByRecursion}
use Rattle.nfs_spec.specs.nfs_items.Caller.{Caller}
use Rattle.nfs_spec.specs.nfs_items.declared.stat.Stat.{Stat}
use Rattle.nfs_spec.specs.nfs_types.Calls.{Page}
use Rattle.nfs_spec.specs.nfs_types.Results.{entry_of, page_of}
use Rattle.nfs_spec.specs.nfs_items.Attributes.{outcome_of}
use Rattle.nfs_spec.specs.nfs_types.declared.results.PageEntry as stored_entry
use Rattle.nfs_spec.specs.nfs_types.declared.results.Page as stored
use Rattle.nfs_spec.specs.fs_spec.Files.{Files, is_directory, listing_in}
use Rattle.nfs_spec.specs.fs_spec.Trees.{IsFileTree}
use Rattle.nfs_spec.specs.fs_spec.Changes.Limits.{has_room}
use Rattle.nfs_spec.proofs.fs_spec.OfChanges.Room.{within}
use Rattle.nfs_spec.specs.Procedures.{read_dir}
use Rattle.inode_table.specs.nfs_laws.Steps.Read.{ReadDirOk}
use Rattle.inode_table.proofs.nfs_laws.OfSteps.Reading.{read_dir_ok}
use Rattle.inode_table.specs.nfs_laws.Sizes.Bounds.{AreWords}
use Rattle.inode_table.proofs.nfs_laws.OfSizes.Values.{EntryFits, page_fits}

-- what is so by recursion is so of each
all_of : {A : Type 0} (P : A → Type 0) (xs : List A) → AllByRecursion P xs → All P xs
all_of P [] a k d low = absurd (omega (arith, low))
all_of P (x ∷ xs) a zero d low = a.0
all_of P (x ∷ xs) a (suc k) d low = all_of P xs a.1 k d (omega (arith, low))

-- entries that fit have names of at most 255 bytes
names_given : (es : List stored_entry.PageEntry) → AllByRecursion EntryFits (map entry_of es)
    → AllByRecursion (λ e. length e.name.now ≤ 255) es
names_given [] a = tt
names_given (e ∷ es) a = (a.0.name, names_given es a.1)

module _ (w : Files) (tree : IsFileTree w) (room : IsTrue (has_room w)) (words : AreWords w) (who : Caller)
    (dir cookie count : ℕ) where
  -- the entries of a page that READDIR gives fit
  entries_fit : (page : Page) → ReadDirOk w who dir cookie count page → AllByRecursion EntryFits page.entries
  entries_fit page o =
      subst (λ (p : Page). AllByRecursion EntryFits p.entries) (sym o.answer)
      (page_fits w (record { tree = tree; room = within w room; words = words }) dir o.file o.listing o.there
      (ap is_directory o.directory) (ap listing_in o.directory) cookie count)

  -- a page that is what READDIR gives has names of at most 255 bytes
  pub names_fit : (r : Result stored.Page Stat) → outcome_of page_of r ≡ read_dir w who dir cookie count
      → IfOk r (λ page. All (λ e. length e.name.now ≤ 255) page.entries.items)
  names_fit (Ok page) e =
      let given = read_dir_ok w who dir cookie count (page_of page) (sym e) in
      all_of _ page.entries.items (names_given page.entries.items (entries_fit (page_of page) given))
  names_fit (Err s) e = tt

  -- the same where memory may be refused
  pub names_fit_if : {E : Type 0} (r : Result (Result stored.Page Stat) E)
      → IfOk r (λ r. outcome_of page_of r ≡ read_dir w who dir cookie count)
      → IfOk r (λ r. IfOk r (λ page. All (λ e. length e.name.now ≤ 255) page.entries.items))
  names_fit_if (Ok r) e = names_fit r e
  names_fit_if (Err s) e = tt
