-- What stands at the new name of an entry that moves goes first.
-- Serves: Moving here.
use Rattle.std.proofs.Common.{◌≡◌, ◌≢◌, ⊎_elim, ℕ, Bool, true, false, List, Option, Some, None, IsSome}
use Rattle.std.proofs.Common.{is_some, nat_eq, option_map, option_and_then, refl, sym, ap, ◌∙◌, arith}
use Rattle.std.specs.Map.{lookup}
use Rattle.std.specs.Cmp.Lexicographic.{pointwise}
use Rattle.nfs_items.specs.Timeval.{Timeval}
use Rattle.nfs_laws.specs.fs_spec.Listing.{entry_at}
use Rattle.nfs_laws.specs.fs_spec.Files.{File, Files, listing_in, is_directory, IsDirectory}
use Rattle.nfs_laws.specs.fs_spec.Files.{directory_entries}
use Rattle.nfs_laws.specs.fs_spec.Trees.{IsTime}
use Rattle.nfs_laws.proofs.fs_spec.Walks.{none_some, some_same}
use Rattle.nfs_laws.specs.fs_spec.Changes.Limits.{entry_count, block_count}
use Rattle.nfs_laws.proofs.fs_spec.OfChanges.Shapes.{kind, AllFiles}
use Rattle.nfs_laws.specs.nfs_spec.Procedures.{unlink_target}
use Rattle.nfs_laws.proofs.OfTrees.Removing.{unnamed_taken}
use Rattle.nfs_count_laws.specs.Links.Links.{link_count}
use Rattle.nfs_count_laws.specs.Counted.{IsKept}
use Rattle.nfs_count_laws.specs.CountChanges.{MayMove, blocks_freed, CountsCleared}
use Rattle.nfs_count_laws.proofs.Kept.{kept_links}
use Rattle.nfs_count_laws.proofs.Unnaming.{unlinks, unlinked_links}

-- files in which nothing stands at a name any more, and what is kept of them
pub record IsCleared (w w₁ : Files) (d : ℕ) (x : List ℕ) (target : Option ℕ) (links₁ : ℕ → ℕ)
    (entries₁ blocks₁ : ℕ) : Type 0 where
  -- the name leads to nothing
  pub free : directory_entries w₁ d x ≡ None
  -- each other name leads to what it led to
  pub rest : (n : ℕ) (y : List ℕ) → ((n ≡ d) × (y ≡ x) → ⊥)
      → directory_entries w₁ n y ≡ directory_entries w n y
  -- each file is as a file may be
  pub files : AllFiles w₁
  -- all numbers but that of what stood at the name keep their kinds
  pub kinds : (n : ℕ) → target ≢ Some n → kind w₁ n ≡ kind w n
  -- which is no directory any more
  pub plain : (n : ℕ) → IsDirectory w₁ n → target ≢ Some n
  -- the nlink that is kept of each file is the one that counting gives
  pub links : (n : ℕ) → IsSome (kind w₁ n) → links₁ n ≡ link_count w₁ n
  -- the count of entries that is kept is right
  pub entries : entries₁ ≡ entry_count w₁
  -- and so is the count of blocks
  pub blocks : blocks₁ ≡ block_count w₁

no_entry : (p : Option (ℕ × ℕ)) → option_map (λ e. e.0) p ≡ None → p ≡ None
no_entry None e = refl
no_entry (Some p) e = absurd (none_some (sym e))

-- the entry of a number that stands somewhere
pub entry_there : (p : Option (ℕ × ℕ)) (t : ℕ) → option_map (λ e. e.0) p ≡ Some t
    → (c : ℕ) × (p ≡ Some (t, c))
entry_there None t e = absurd (none_some e)
entry_there (Some p) t e = (p.1, ap (λ m. Some (m, p.1)) (some_same e))

module _ (now : Timeval) (time : IsTime now) (fs : Files) (links links₁ above : ℕ → ℕ)
    (entries blocks entries₁ blocks₁ : ℕ) (kept : IsKept fs links above entries blocks) (number from : ℕ)
    (from_name : List ℕ) (to : ℕ) (to_name : List ℕ) (f : File) (cookie : ℕ) (target : Option ℕ)
    (may : MayMove fs number from from_name to to_name f cookie target)
    (counts : CountsCleared fs to target links links₁ entries blocks entries₁ blocks₁) where
  -- what stands at the new name lists nothing
  pub unlists : (t : ℕ) → target ≡ Some t → (y : List ℕ) → directory_entries fs t y ≡ None
  unlists t is y =
      let g = may.replaces t is in
      ap (option_and_then (λ f. entry_at (listing_in f.body) y)) g.there
      ∙ ap (λ (es : List (List ℕ × (ℕ × ℕ))). lookup (pointwise nat_eq y) es) g.empty

  -- it goes, if it is there
  pub cleared : IsCleared fs
      (unlink_target now fs to to_name target) to to_name target links₁ entries₁ blocks₁
  cleared = by target refl
    where
      some_false : ◌≡◌ {A = Option Bool} (Some false) (Some true) → ⊥
      some_false h = cc

      by : (o : Option ℕ) → target ≡ o
          → IsCleared fs (unlink_target now fs to to_name o) to to_name target links₁ entries₁ blocks₁
      by None e =
          let same = counts.kept e in
          record {
            free = no_entry (directory_entries fs to to_name) (sym may.is_target ∙ e);
            rest = λ n y not. refl;
            files = kept.tree.files;
            kinds = λ n not. refl;
            plain = λ n is at. none_some (sym e ∙ at);
            links = λ n is. same.0 n ∙ kept_links fs links above kept.counted n is;
            entries = same.1 ∙ kept.entries;
            blocks = same.2 ∙ kept.blocks;
          }
      by (Some t) e =
          let g = may.replaces t e in
          let p = entry_there (directory_entries fs to to_name) t (sym may.is_target ∙ e) in
          let a = unnamed_taken now time fs kept.tree to to_name t p.0 p.1 g.other g.there g.empty in
          let u = unlinks fs kept.tree to to_name t p.0 p.1 g.other g.there g.empty now in
          let less = counts.unlinked t g.other e g.there in
          let own = kept_links fs links above kept.counted t
          (ap (λ (o : Option File). is_some (option_map (λ f. is_directory f.body) o)) g.there) in
          let same_number = λ (n : ℕ) (at : target ≡ Some n). some_same (sym at ∙ e) in
          record {
            free = a.change.here;
            rest = a.change.rest;
            files = a.files;
            kinds = λ n not. a.kinds n (λ same. not (e ∙ ap (λ m. Some m) (sym same)));
            plain = λ n is at. ⊎_elim
                (λ left. some_false (sym (ap (kind (unlink_target now fs to to_name (Some t)))
                (same_number n at) ∙ left.0) ∙ is))
                (λ gone. none_some (sym (ap (kind (unlink_target now fs to to_name (Some t)))
                (same_number n at) ∙ gone.0) ∙ is))
                a.left;
            links = unlinked_links fs _ to t g.other links links₁ u own less.0
                (kept_links fs links above kept.counted);
            entries = omega (arith, less.1, kept.entries, u.entries);
            blocks = let freed = ap (blocks_freed g.other.body) own in
                omega (arith, less.2, kept.blocks, freed, u.blocks);
          }
