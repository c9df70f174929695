-- A new file under a name counts where it is named, and is kept.
-- Serves: making_counts_the_new_file.
use Rattle.std.proofs.Common.{◌≡◌, ◌≢◌, ⊎_elim, ℕ, ◌+◌, ◌<◌, ◌^◌, Bool, true, false, cond, List, Some, None}
use Rattle.std.proofs.Common.{IsSome, is_some, refl, sym, ap, subst, ◌∙◌, arith}
use Rattle.std.specs.Prelude.{IsTrue}
use Rattle.std.proofs.lemmas.Bool.{cases_eq}
use Rattle.nfs_items.specs.Timeval.{Timeval}
use Rattle.nfs_laws.specs.fs_spec.Listing.{Listing}
use Rattle.nfs_laws.specs.fs_spec.Files.{File, Files, file_at, listing, is_directory, parent_of}
use Rattle.nfs_laws.specs.fs_spec.Trees.{IsTime}
use Rattle.nfs_laws.proofs.fs_spec.Walks.{some_same}
use Rattle.nfs_laws.specs.fs_spec.Changes.Edits.{with_new_file, with_name}
use Rattle.nfs_laws.specs.fs_spec.Changes.Limits.{blocks_in, has_room}
use Rattle.nfs_laws.proofs.fs_spec.OfChanges.Finite.{new_other}
use Rattle.nfs_laws.proofs.fs_spec.OfChanges.Listings.{one, one_same, one_other}
use Rattle.nfs_laws.proofs.fs_spec.OfChanges.Shapes.{kind, IsOneMore, new_shape}
use Rattle.nfs_laws.proofs.fs_spec.OfEditedTrees.Adding.{IsAdded}
use Rattle.nfs_laws.specs.nfs_spec.Procedures.{add_file}
use Rattle.nfs_laws.specs.Steps.Granted.{MayEdit, MakeOk}
use Rattle.nfs_laws.proofs.OfSteps.Steps.{listing_there}
use Rattle.nfs_laws.specs.Trees.Anew.{Follows}
use Rattle.nfs_laws.proofs.OfTrees.FilesFit.{next_free, next_unnamed, distinct_names, touch_shape}
use Rattle.nfs_laws.proofs.OfTrees.Making.{make_added, make_follows}
use Rattle.nfs_laws.specs.Room.{HasRoomToMake}
use Rattle.nfs_laws.proofs.RoomBefore.{to_make}
use Rattle.nfs_laws.proofs.OfSizes.Words.{make_on}
use Rattle.nfs_count_laws.specs.Counted.{IsKept}
use Rattle.nfs_count_laws.specs.CountChanges.{MayMake, CountsMade}
use Rattle.nfs_count_laws.specs.Links.Links.{link_count}
use Rattle.nfs_count_laws.proofs.OfLinks.LinkCounts.{touched_alike, HasEntryMore, more_links, named_more}
use Rattle.nfs_count_laws.proofs.OfLinks.LinkCounts.{new_others, new_own, new_entries, new_blocks}
use Rattle.nfs_count_laws.proofs.Kept.{kept_links, counted_by, added_parents, superuser, may_edit, says_words}

module _ (now : Timeval) (time : IsTime now) (word : now.seconds < 2 ^ 32) (fs : Files)
    (links above links' above' : ℕ → ℕ) (entries blocks entries' blocks' : ℕ)
    (kept : IsKept fs links above entries blocks) (dir : ℕ) (name : List ℕ) (f : File)
    (may : MayMake fs dir name f) where
  abbrev after : Files
  after = add_file now fs dir name f

  abbrev one_more : Files
  one_more = with_new_file fs f

  edit : MayEdit fs superuser dir name
  edit = may_edit fs dir name may.directory may.named

  free : file_at fs fs.next ≡ None
  free = next_free fs kept.tree

  other : dir ≢ fs.next
  other e = omega (arith, e, kept.tree.numbers dir (kept.tree.tree.there dir may.directory))

  room : IsTrue (has_room after)
  room = (to_make now fs kept.tree kept.room dir name edit.file edit.there edit.directory may.free f may.empty
      may.cookie).1
      (subst (λ c. HasRoomToMake fs c (blocks_in f.body))
      (ap (λ (l : Listing). l.next) (listing_there fs dir edit.file edit.there)) may.room)

  ok : MakeOk fs superuser now dir name f fs.next after
  ok = record { directory = edit; free = may.free; room = room; is_next = refl; effect = refl }

  added : IsAdded fs after dir name fs.next (listing fs dir).next
  added = make_added now time fs kept.tree superuser dir name may.bounded f may.empty may.file fs.next after
      ok

  follows : Follows fs after
  follows = make_follows now time fs kept.tree superuser dir name may.bounded f may.empty may.file fs.next
      after ok

  shape : IsOneMore fs one_more fs.next (is_directory f.body)
  shape = new_shape fs f free may.empty

  more : HasEntryMore one_more (with_name one_more dir name fs.next) dir fs.next (is_directory f.body)
  more = named_more one_more dir fs.next name (is_directory f.body) edit.file
      (new_other fs f dir other ∙ edit.there) edit.directory
      (distinct_names fs dir edit.file kept.tree.files edit.there) shape.new
      (shape.directory_entries dir name ∙ may.free)

  own_kind : kind after fs.next ≡ Some (is_directory f.body)
  own_kind = (touch_shape now (with_name one_more dir name fs.next) dir).kinds fs.next ∙ more.kinds fs.next
      ∙ shape.new

  counts : (n : ℕ) → link_count after n ≡ link_count one_more n + one n
      (cond (is_directory f.body) dir fs.next)
  counts n = (touched_alike now (with_name one_more dir name fs.next) dir).links n
      ∙ more_links one_more _ dir fs.next (is_directory f.body) more n

  own_links : (b : Bool) → cond b 2 0 + one fs.next (cond b dir fs.next) ≡ cond b 2 1
  own_links true = let zero = one_other fs.next dir (λ e. other (sym e)) in omega (arith, zero)
  own_links false = let one = one_same fs.next fs.next refl in omega (arith, one)

  dir_links : (b : Bool) → one dir (cond b dir fs.next) ≡ cond b 1 0
  dir_links true = one_same dir dir refl
  dir_links false = one_other dir fs.next other

  other_links : (b : Bool) (n : ℕ) → n ≢ fs.next → n ≢ dir → one n (cond b dir fs.next) ≡ 0
  other_links true n not ne = one_other n dir ne
  other_links false n not ne = one_other n fs.next not

  unfolded : (n : ℕ) → n ≢ fs.next → IsSome (kind after n) → links n ≡ link_count one_more n
  unfolded n not is =
      kept_links fs links above kept.counted n (sym (ap is_some (added.kinds n not)) ∙ is)
      ∙ sym (new_others fs f free (next_unnamed fs kept.tree) may.empty n not)

  -- what is kept after a new file
  pub kept_by_make : CountsMade fs dir f links above links' above' → entries' ≡ entries + 1
      → blocks' ≡ blocks + blocks_in f.body → IsKept after links' above' entries' blocks'
  kept_by_make made e b = record {
    tree = follows.tree;
    room = room;
    words = record {
      fsid = kept.words.fsid;
      files =
          make_on now superuser (says_words now word) fs dir name f may.words kept.words.files;
    };
    counted = counted_by after links' above'
        (λ n is. ⊎_elim
        (λ new. ap links' new ∙ made.own
        ∙ sym (ap (link_count after) new ∙ counts fs.next
        ∙ ap (λ a. a + one fs.next (cond (is_directory f.body) dir fs.next))
        (new_own fs f free (next_unnamed fs kept.tree) may.empty) ∙ own_links (is_directory f.body)))
        (λ not. ⊎_elim
        (λ d. let same = ap links' d in let was = ap links d in let one =
        ap (λ m. one m (cond (is_directory f.body) dir fs.next)) d ∙ dir_links (is_directory f.body) in
        omega (arith, same, was, made.directory, unfolded n not is, counts n, one))
        (λ ne. omega (
          arith,
          made.others n not ne,
          unfolded n not is,
          counts n,
          other_links (is_directory f.body) n not ne,
        ))
        (cases_eq n dir))
        (cases_eq n fs.next))
        (λ n is. ⊎_elim
        (λ new. ap above' new ∙ made.own_above (some_same (sym own_kind ∙ sym (ap (kind after) new) ∙ is))
        ∙ sym (ap (parent_of after) new
        ∙ follows.tree.tree.up dir name fs.next (listing fs dir).next added.change.here
        (sym (ap (kind after) new) ∙ is)))
        (λ not. made.others_above n not ∙ kept.counted.parents n (sym (added.kinds n not) ∙ is)
        ∙ sym (added_parents fs after kept.tree follows.tree dir name fs.next
        (listing fs dir).next added n not is))
        (cases_eq n fs.next));
    entries = omega (
      arith,
      e,
      kept.entries,
      (touched_alike now (with_name one_more dir name fs.next) dir).entries,
      more.entries,
      new_entries fs f free (next_unnamed fs kept.tree) may.empty,
    );
    blocks = omega (
      arith,
      b,
      kept.blocks,
      (touched_alike now
          (with_name one_more dir name fs.next) dir).blocks,
      more.blocks,
      new_blocks fs f free (next_unnamed fs kept.tree) may.empty,
    );
  }
