-- Another name of a file counts for the file, and is kept.
-- Serves: linking_counts_one_name_more.
use Rattle.std.proofs.Common.{◌≡◌, ◌≢◌, ⊎_elim, ℕ, ◌+◌, ◌<◌, ◌^◌, Bool, true, false, List, Option, Some}
use Rattle.std.proofs.Common.{is_some, option_map, refl, sym, ap, subst, ◌∙◌, arith}
use Rattle.std.specs.Prelude.{IsTrue}
use Rattle.std.proofs.lemmas.Bool.{cases_eq}
use Rattle.nfs_items.specs.Timeval.{Timeval}
use Rattle.nfs_laws.specs.fs_spec.Listing.{Listing}
use Rattle.nfs_laws.specs.fs_spec.Files.{File, Files, listing, is_directory}
use Rattle.nfs_laws.specs.fs_spec.Trees.{IsTime}
use Rattle.nfs_laws.specs.fs_spec.Changes.Edits.{with_name}
use Rattle.nfs_laws.specs.fs_spec.Changes.Limits.{has_room}
use Rattle.nfs_laws.proofs.fs_spec.OfChanges.Finite.{changed_other}
use Rattle.nfs_laws.proofs.fs_spec.OfChanges.Listings.{one, one_same, one_other}
use Rattle.nfs_laws.proofs.fs_spec.OfChanges.Shapes.{kind, IsSameShape}
use Rattle.nfs_laws.proofs.fs_spec.OfEditedTrees.Adding.{IsAdded}
use Rattle.nfs_laws.specs.nfs_spec.Changes.{touch, touch_ctime, with_ctime}
use Rattle.nfs_laws.specs.Steps.Granted.{MayEdit, LinkOk}
use Rattle.nfs_laws.proofs.OfSteps.Steps.{listing_there}
use Rattle.nfs_laws.specs.Trees.Anew.{Follows}
use Rattle.nfs_laws.proofs.OfTrees.FilesFit.{distinct_names, mark_shape, touch_shape}
use Rattle.nfs_laws.proofs.OfTrees.Making.{link_added, link_follows}
use Rattle.nfs_laws.specs.Room.{HasRoomToLink}
use Rattle.nfs_laws.proofs.RoomBefore.{to_link}
use Rattle.nfs_laws.proofs.OfSizes.Words.{touch_on, name_on, mark_on}
use Rattle.nfs_count_laws.specs.Counted.{IsKept}
use Rattle.nfs_count_laws.specs.CountChanges.{MayLink}
use Rattle.nfs_count_laws.specs.Links.Links.{link_count}
use Rattle.nfs_count_laws.proofs.OfLinks.LinkCounts.{touched_alike, marked_alike, HasEntryMore, more_links}
use Rattle.nfs_count_laws.proofs.OfLinks.LinkCounts.{named_more}
use Rattle.nfs_count_laws.proofs.Kept.{kept_links, counted_by, added_parents, superuser, may_edit, says_words}

module _ (now : Timeval) (time : IsTime now) (word : now.seconds < 2 ^ 32) (fs : Files)
    (links above links' above' : ℕ → ℕ) (entries blocks entries' blocks' : ℕ)
    (kept : IsKept fs links above entries blocks) (from dir : ℕ) (name : List ℕ) (f : File)
    (may : MayLink fs from dir name f) where
  abbrev marked : Files
  marked = touch_ctime now fs from

  abbrev named : Files
  named = with_name marked dir name from

  abbrev after : Files
  after = touch now named dir

  edit : MayEdit fs superuser dir name
  edit = may_edit fs dir name may.directory may.named

  from_kind : kind fs from ≡ Some false
  from_kind = ap (option_map (λ f. is_directory f.body)) may.there ∙ ap (λ b. Some b) may.plain

  true_false : ◌≡◌ {A = Option Bool} (Some true) (Some false) → ⊥
  true_false h = cc

  other : dir ≢ from
  other e = true_false (sym may.directory ∙ ap (kind fs) e ∙ from_kind)

  room : IsTrue (has_room after)
  room = (to_link now fs kept.room dir name edit.file edit.there edit.directory may.free from).1
      (subst (HasRoomToLink fs)
      (ap (λ (l : Listing). l.next) (listing_there fs dir edit.file edit.there)) may.room)

  ok : LinkOk fs superuser now from dir name after
  ok = record {
    file = f;
    there = may.there;
    plain = may.plain;
    directory = edit;
    free = may.free;
    room =
        room;
    effect = refl;
  }

  added : IsAdded fs after dir name from (listing fs dir).next
  added = link_added now time fs kept.tree superuser dir name may.bounded from after ok

  follows : Follows fs after
  follows = link_follows now time fs kept.tree superuser dir name may.bounded from after ok

  shape : IsSameShape fs marked
  shape = mark_shape now fs from

  more : HasEntryMore marked named dir from false
  more = named_more marked dir from name false edit.file
      (changed_other fs from (with_ctime now) dir other ∙ edit.there) edit.directory
      (distinct_names fs dir edit.file kept.tree.files edit.there) (shape.kinds from ∙ from_kind)
      (shape.directory_entries dir name ∙ may.free)

  counts : (n : ℕ) → link_count after n ≡ link_count fs n + one n from
  counts n = (touched_alike now named dir).links n ∙ more_links marked named dir from false more n
      ∙ ap (λ a. a + one n from) ((marked_alike now fs from).links n)

  kinds : (n : ℕ) → kind after n ≡ kind fs n
  kinds n = (touch_shape now named dir).kinds n ∙ more.kinds n ∙ shape.kinds n

  -- what is kept after another name
  pub kept_by_link : links' from ≡ links from + 1 → ((n : ℕ) → n ≢ from → links' n ≡ links n)
      → ((n : ℕ) → above' n ≡ above n) → entries' ≡ entries + 1 → blocks' ≡ blocks
      → IsKept after links' above' entries' blocks'
  kept_by_link own others same_above e b = record {
    tree = follows.tree;
    room = room;
    words = record {
      fsid = kept.words.fsid;
      files =
          let says = says_words now word in
          touch_on now superuser says named dir
          (name_on now superuser says marked dir name from
          (mark_on now superuser says fs from kept.words.files));
    };
    counted = counted_by after links' above'
        (λ n is.
        let was = kept_links fs links above kept.counted n (sym (ap is_some (kinds n)) ∙ is) in
        ⊎_elim
        (λ e. let same = ap links' e in let before = ap links e in
        omega (arith, same, before, own, was, counts n, one_same n from e))
        (λ ne. omega (arith, others n ne, was, counts n, one_other n from ne))
        (cases_eq n from))
        (λ n is. same_above n ∙ kept.counted.parents n (sym (kinds n) ∙ is)
        ∙ sym (added_parents fs after kept.tree follows.tree dir name from (listing fs dir).next added n
        (λ e. true_false (sym is ∙ kinds n ∙ ap (kind fs) e ∙ from_kind)) is));
    entries = omega (
      arith,
      e,
      kept.entries,
      (touched_alike now named dir).entries,
      more.entries,
      (marked_alike now fs from).entries,
    );
    blocks = omega (
      arith,
      b,
      kept.blocks,
      (touched_alike now named dir).blocks,
      more.blocks,
      (marked_alike now fs from).blocks,
    );
  }
