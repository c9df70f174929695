-- Other contents of a file leave what is kept, but for the blocks.
-- Serves: contents_leave_the_links.
use Rattle.std.proofs.Common.{◌≡◌, ⊎_elim, ℕ, ◌+◌, ◌<◌, ◌≤◌, ◌^◌, Option, Some, None, is_some, option_map}
use Rattle.std.proofs.Common.{refl, sym, ap, subst, ◌∙◌, arith}
use Rattle.std.proofs.lemmas.Bool.{cases_eq}
use Rattle.nfs_items.specs.Timeval.{Timeval}
use Rattle.nfs_laws.specs.fs_spec.Files.{File, Files, file_at, listing_in, is_directory}
use Rattle.nfs_laws.specs.fs_spec.Trees.{IsTime, IsFile}
use Rattle.nfs_laws.proofs.fs_spec.Walks.{none_some, some_same}
use Rattle.nfs_laws.specs.fs_spec.Changes.Edits.{with_changed_file}
use Rattle.nfs_laws.specs.fs_spec.Changes.Limits.{blocks_in}
use Rattle.nfs_laws.proofs.fs_spec.OfChanges.Finite.{nothing_changes, changed_here, changed_other}
use Rattle.nfs_laws.proofs.fs_spec.OfChanges.Finite.{total_changed}
use Rattle.nfs_laws.proofs.fs_spec.OfChanges.Shapes.{same_shape, changed_files}
use Rattle.nfs_laws.proofs.fs_spec.OfEditedTrees.SameShape.{stays_shaped}
use Rattle.nfs_laws.proofs.fs_spec.OfChanges.Room.{within}
use Rattle.nfs_laws.specs.nfs_spec.Changes.{touch, with_mtime, touch_ctime, with_ctime}
use Rattle.nfs_laws.proofs.OfTrees.FilesFit.{touched_fits, marked_fits}
use Rattle.nfs_laws.proofs.RoomBefore.{to_write}
use Rattle.nfs_laws.specs.Sizes.Bounds.{HasWords}
use Rattle.nfs_count_laws.specs.Counted.{IsKept}
use Rattle.nfs_count_laws.specs.CountChanges.{MayChange}
use Rattle.nfs_count_laws.proofs.OfLinks.LinkCounts.{changed_links, changed_entries}
use Rattle.nfs_count_laws.proofs.Kept.{kept_links, counted_by, parent_stays}

-- numbers that are the same are kept as well
pub kept_alike : (fs : Files) (links above links' above' : ℕ → ℕ) (entries blocks entries' blocks' : ℕ)
    → IsKept fs links above entries blocks → ((n : ℕ) → links' n ≡ links n) → ((n : ℕ) → above' n ≡ above n)
    → entries' ≡ entries → blocks' ≡ blocks → IsKept fs links' above' entries' blocks'
kept_alike fs links above links' above' entries blocks entries' blocks' kept same same_above e b = record {
  tree = kept.tree;
  room = kept.room;
  words = kept.words;
  counted = record {
    nlinks = λ n f there. same n ∙ kept.counted.nlinks n f there;
    parents = λ n is. same_above n ∙ kept.counted.parents n is;
  };
  entries = e ∙ kept.entries;
  blocks = b ∙ kept.blocks;
}

-- files with words have words where a file changes to one with words
changed_words : (w : Files) (k : ℕ) (change : File → File)
    → ((n : ℕ) (f : File) → file_at w n ≡ Some f → HasWords f)
    → ((f : File) → file_at w k ≡ Some f → HasWords (change f))
    → (n : ℕ) (g : File) → file_at (with_changed_file w k change) n ≡ Some g → HasWords g
changed_words w k change all own n g h = ⊎_elim
    (λ e. by (file_at w k) refl (sym (changed_here w k change n e) ∙ h))
    (λ ne. all n g (sym (changed_other w k change n ne) ∙ h))
    (cases_eq n k)
  where
    by : (o : Option File) → file_at w k ≡ o → option_map change o ≡ Some g → HasWords g
    by None e h = absurd (none_some h)
    by (Some f) e h = subst HasWords (some_same h) (own f e)

-- other contents leave what is kept, but for the blocks
pub kept_by_change : (fs : Files) (links above links' above' : ℕ → ℕ) (entries blocks entries' blocks' : ℕ)
    → (k : ℕ) (f : File) (change : File → File)
    → IsKept fs links above entries blocks → MayChange fs k f change
    → ((n : ℕ) → links' n ≡ links n) → ((n : ℕ) → above' n ≡ above n)
    → entries' ≡ entries → blocks' + blocks_in f.body ≡ blocks + blocks_in (change f).body → blocks' ≤ 32768
    → IsKept (with_changed_file fs k change) links' above' entries' blocks'
kept_by_change fs links above links' above' entries blocks entries' blocks' k f change kept may same
    same_above e b most =
    let after = with_changed_file fs k change in
    let lists = λ (g : File) (h : file_at fs k ≡ Some g). of_file
    (λ g. listing_in (change g).body ≡ listing_in g.body) may.listing g h in
    let keeps = λ (g : File) (h : file_at fs k ≡ Some g). of_file
    (λ g. is_directory (change g).body ≡ is_directory g.body) may.kind g h in
    let shape = same_shape fs k change lists keeps in
    let tree = stays_shaped fs after kept.tree shape
    (changed_files fs k change kept.tree.files (λ g h. of_file (λ g. IsFile (change g)) may.file g h)) in
    let blocks_after = total_changed (λ g. blocks_in g.body) fs k change f may.there in
    record {
      tree = tree;
      room = (to_write fs kept.room k change f may.there may.listing).1 (omega (arith, b, most, kept.blocks));
      words = record {
        fsid = kept.words.fsid;
        files = changed_words fs k change kept.words.files
            (λ g h. of_file (λ g. HasWords (change g)) may.words g h);
      };
      counted = counted_by after links' above'
          (λ n is. same n ∙ kept_links fs links above kept.counted n (sym (ap is_some (shape.kinds n)) ∙ is)
          ∙ sym (changed_links fs k change lists keeps n))
          (λ n is.
          let was = sym (shape.kinds n) ∙ is in
          same_above n ∙ kept.counted.parents n was
          ∙ sym (parent_stays fs after kept.tree tree n was is
          (λ d c y h. (c, sym (shape.directory_entries d y) ∙ h))));
      entries = e ∙ kept.entries ∙ sym (changed_entries fs k change lists keeps);
      blocks = omega (arith, b, kept.blocks, blocks_after);
    }
  where
    of_file : (P : File → Type 0) → P f → (g : File) → file_at fs k ≡ Some g → P g
    of_file P h g there = subst P (some_same (sym may.there ∙ there)) h

-- a change of times alone leaves all that is kept
stamped : (fs : Files) (links above : ℕ → ℕ) (entries blocks : ℕ) → IsKept fs links above entries blocks
    → (k : ℕ) (change : File → File) → ((f : File) → (change f).body ≡ f.body)
    → ((f : File) → IsFile f → IsFile (change f)) → ((f : File) → HasWords f → HasWords (change f))
    → IsKept (with_changed_file fs k change) links above entries blocks
stamped fs links above entries blocks kept k change body fits words = by (file_at fs k) refl
  where
    by : (o : Option File) → file_at fs k ≡ o
        → IsKept (with_changed_file fs k change) links above entries blocks
    by None e = subst (λ w. IsKept w links above entries blocks) (sym (nothing_changes fs k change 0 e)) kept
    by (Some f) e =
        kept_by_change fs links above links above entries blocks entries blocks k f change kept (record {
          there = e;
          listing = ap listing_in (body f);
          kind = ap is_directory (body f);
          file = fits f (kept.tree.files k f e);
          words = words f (kept.words.files k f e);
        }) (λ n. refl) (λ n. refl) refl (ap (λ b. blocks + blocks_in b) (sym (body f)))
        (omega (arith, kept.blocks, (within fs kept.room).blocks))

-- times leave what is kept
pub kept_by_touch : (now : Timeval) → IsTime now → now.seconds < 2 ^ 32
    → (fs : Files) (links above : ℕ → ℕ) (entries blocks : ℕ) → IsKept fs links above entries blocks
    → (k : ℕ) → IsKept (touch now fs k) links above entries blocks
kept_by_touch now time word fs links above entries blocks kept k =
    stamped fs links above entries blocks kept k (with_mtime now) (λ f. refl) (touched_fits now time)
    (λ f own. record { uid = own.uid; gid = own.gid; atime = own.atime; mtime = word; ctime = word })

-- so does ctime alone
pub kept_by_touch_ctime : (now : Timeval) → IsTime now → now.seconds < 2 ^ 32
    → (fs : Files) (links above : ℕ → ℕ) (entries blocks : ℕ) → IsKept fs links above entries blocks
    → (k : ℕ) → IsKept (touch_ctime now fs k) links above entries blocks
kept_by_touch_ctime now time word fs links above entries blocks kept k =
    stamped fs links above entries blocks kept k (with_ctime now) (λ f. refl) (marked_fits now time)
    (λ f own. record { uid = own.uid; gid = own.gid; atime = own.atime; mtime = own.mtime; ctime = word })
