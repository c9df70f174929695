-- A name that goes counts no more, and is kept.
-- Serves: unlinking_counts_one_name_less.
use Rattle.std.proofs.Common.{◌≡◌, ◌≢◌, ℕ, ◌+◌, ◌<◌, ◌^◌, List, Option, is_some, option_map, refl, sym, ap}
use Rattle.std.proofs.Common.{◌∙◌, arith, eqb}
use Rattle.nfs_items.specs.Timeval.{Timeval}
use Rattle.nfs_laws.specs.fs_spec.Files.{File, Files, is_directory, names_of}
use Rattle.nfs_laws.specs.fs_spec.Trees.{IsTime}
use Rattle.nfs_laws.specs.fs_spec.Changes.Edits.{without_name}
use Rattle.nfs_laws.proofs.fs_spec.OfEditedTrees.Taking.{IsTaken}
use Rattle.nfs_laws.specs.nfs_spec.Changes.{touch, unlink}
use Rattle.nfs_laws.specs.Steps.Granted.{UnnameOk}
use Rattle.nfs_laws.specs.Trees.Anew.{Follows}
use Rattle.nfs_laws.proofs.OfTrees.FilesFit.{touch_shape}
use Rattle.nfs_laws.proofs.OfTrees.Removing.{remove_taken, remove_follows}
use Rattle.nfs_laws.proofs.OfSizes.Words.{touch_on, unname}
use Rattle.nfs_count_laws.specs.Counted.{IsKept}
use Rattle.nfs_count_laws.specs.CountChanges.{MayUnlink, is_last_name, blocks_freed, CountsUnlinked}
use Rattle.nfs_count_laws.specs.Links.Links.{link_count}
use Rattle.nfs_count_laws.proofs.OfLinks.LinkCounts.{touched_alike}
use Rattle.nfs_count_laws.proofs.Kept.{kept_links, counted_by, taken_parents, superuser, may_edit, says_words}
use Rattle.nfs_count_laws.proofs.Unnaming.{IsUnlinked, last_by_links, unlinks, unlinked_links}

module _ (fs : Files) (links above : ℕ → ℕ) (entries blocks : ℕ) (kept : IsKept fs links above entries blocks)
    (dir : ℕ) (name : List ℕ) (number cookie : ℕ) (f : File)
    (may : MayUnlink fs dir name number cookie f) where
  own_links : links number ≡ link_count fs number
  own_links = kept_links fs links above kept.counted number
      (ap (λ (o : Option File). is_some (option_map (λ f. is_directory f.body) o)) may.there)

  -- which name is the last is told by what is kept
  pub last_name_told : eqb (names_of (without_name fs dir name) number) 0 ≡ is_last_name f.body (links number)
  last_name_told =
      last_by_links fs kept.tree dir name number cookie may.is_named f may.there may.empty
      ∙ ap (is_last_name f.body) (sym own_links)

module _ (now : Timeval) (time : IsTime now) (word : now.seconds < 2 ^ 32) (fs : Files)
    (links above links' above' : ℕ → ℕ) (entries blocks entries' blocks' : ℕ)
    (kept : IsKept fs links above entries blocks) (dir : ℕ) (name : List ℕ) (number cookie : ℕ) (f : File)
    (may : MayUnlink fs dir name number cookie f) where
  abbrev left : Files
  left = unlink now fs dir name number

  abbrev after : Files
  after = touch now left dir

  ok : UnnameOk (is_directory f.body) fs superuser now dir name after
  ok = record {
    directory = may_edit fs dir name (kept.tree.tree.lists dir name number cookie may.is_named)
        (kept.tree.names dir name (ap is_some may.is_named)).0;
    number = number;
    cookie = cookie;
    is_named = may.is_named;
    file = f;
    there = may.there;
    kind = refl;
    empty = may.empty;
    effect = refl;
  }

  follows : Follows fs after
  follows = remove_follows now time fs kept.tree superuser dir name after (is_directory f.body) ok

  taken : IsTaken fs after dir name number cookie
  unfolding ok
  taken = remove_taken now time fs kept.tree superuser dir name after (is_directory f.body) ok

  unlinked : IsUnlinked fs left dir number f (is_last_name f.body (link_count fs number))
  unlinked = unlinks fs kept.tree dir name number cookie may.is_named f may.there may.empty now

  same_links : links number ≡ link_count fs number
  same_links = own_links fs links above entries blocks kept dir name number cookie f may

  -- what is kept after a name went
  pub kept_by_unlink : CountsUnlinked dir number f.body links links'
      → ((n : ℕ) → n ≢ number → above' n ≡ above n) → entries' + 1 ≡ entries
      → blocks' + blocks_freed f.body (links number) ≡ blocks → IsKept after links' above' entries' blocks'
  kept_by_unlink counts same_above e b = record {
    tree = follows.tree;
    room = follows.room kept.room;
    words = record {
      fsid = kept.words.fsid;
      files =
          let says = says_words now word in
          touch_on now superuser says left dir
          (unname now superuser says fs dir name number kept.words.files);
    };
    counted = counted_by after links' above'
        (λ n is. unlinked_links fs left dir number f links links' unlinked same_links counts
        (kept_links fs links above kept.counted) n
        (sym (ap is_some ((touch_shape now left dir).kinds n)) ∙ is)
        ∙ sym ((touched_alike now left dir).links n))
        (λ n is.
        let p = taken_parents fs after kept.tree follows.tree dir name number cookie taken n is in
        same_above n p.0 ∙ kept.counted.parents n (sym (taken.kinds n p.0) ∙ is) ∙ sym p.1);
    entries = omega (arith, e, kept.entries, unlinked.entries, (touched_alike now left dir).entries);
    blocks = let freed = ap (blocks_freed f.body) same_links in
        omega (arith, b, kept.blocks, freed, unlinked.blocks, (touched_alike now left dir).blocks);
  }
