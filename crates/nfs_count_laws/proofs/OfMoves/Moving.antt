-- An entry that moves counts where it goes, and is kept.
-- Serves: moving_counts_the_entry_where_it_goes.
use Rattle.std.proofs.Common.{◌≡◌, ◌≢◌, ⊎_elim, inr, ℕ, ◌+◌, ◌<◌, ◌^◌, Bool, true, false, cond, List, Option}
use Rattle.std.proofs.Common.{Some, None, IsSome, is_some, option_map, refl, sym, ap, ◌∙◌, arith}
use Rattle.std.proofs.lemmas.Bool.{cases_eq}
use Rattle.nfs_items.specs.Timeval.{Timeval}
use Rattle.nfs_laws.specs.fs_spec.Files.{File, Files, file_at, is_directory, IsDirectory, directory_entries}
use Rattle.nfs_laws.specs.fs_spec.Files.{parent_of}
use Rattle.nfs_laws.specs.fs_spec.Trees.{IsTime}
use Rattle.nfs_laws.proofs.fs_spec.Walks.{none_some, some_same, one_number, same_entry}
use Rattle.nfs_laws.specs.fs_spec.Changes.Edits.{with_name, without_name}
use Rattle.nfs_laws.proofs.fs_spec.OfChanges.Listings.{one, one_same, one_other}
use Rattle.nfs_laws.proofs.fs_spec.OfChanges.Shapes.{kind, AllFiles, IsSameShape, IsNamed, IsUnnamed}
use Rattle.nfs_laws.proofs.fs_spec.OfChanges.Shapes.{same_then, named_shape, unnamed_shape}
use Rattle.nfs_laws.specs.nfs_spec.Changes.{touch, touch_ctime}
use Rattle.nfs_laws.specs.nfs_spec.Procedures.{unlink_target, move_entry}
use Rattle.nfs_laws.specs.Steps.Granted.{MoveOk, RenameOk}
use Rattle.nfs_laws.specs.Trees.Anew.{Follows}
use Rattle.nfs_laws.proofs.OfTrees.FilesFit.{dir_file, distinct_names, unnamed_files, touch_shape, mark_shape}
use Rattle.nfs_laws.proofs.OfTrees.Renaming.{renames_follows}
use Rattle.nfs_laws.proofs.OfSizes.Words.{moved_words}
use Rattle.nfs_count_laws.specs.Links.Links.{link_count}
use Rattle.nfs_count_laws.proofs.OfLinks.LinkCounts.{CountsAlike, touched_alike, marked_alike, HasEntryMore}
use Rattle.nfs_count_laws.proofs.OfLinks.LinkCounts.{more_links, named_more, unnamed_less}
use Rattle.nfs_count_laws.specs.Counted.{IsKept}
use Rattle.nfs_count_laws.specs.CountChanges.{MayMove, CountsCleared, CountsMoved}
use Rattle.nfs_count_laws.proofs.Kept.{counted_by, parent_stays, superuser, may_edit, says_words}
use Rattle.nfs_count_laws.proofs.OfMoves.Clearing.{IsCleared, entry_there, unlists, cleared}

zero_in : (b : Bool) (n : ℕ) → n ≡ 0 → ◌≡◌ {A = ℕ} (cond b n 0) 0
zero_in true n e = e
zero_in false n e = refl

module _ (now : Timeval) (time : IsTime now) (word : now.seconds < 2 ^ 32) (fs : Files)
    (links links₁ links₂ links' above above' : ℕ → ℕ) (entries blocks entries' blocks' : ℕ)
    (kept : IsKept fs links above entries blocks) (number from : ℕ) (from_name : List ℕ) (to : ℕ)
    (to_name : List ℕ) (f : File) (cookie : ℕ) (target : Option ℕ)
    (may : MayMove fs number from from_name to to_name f cookie target)
    (clears : CountsCleared fs to target links links₁ entries blocks entries' blocks') where
  abbrev after : Files
  after = move_entry now fs number from from_name to to_name target

  abbrev found : (n c : ℕ) → directory_entries fs to to_name ≡ Some (n, c) → target ≡ Some n
  found n c h = may.is_target ∙ ap (option_map (λ (e : ℕ × ℕ). e.0)) h

  -- a rename that is granted
  moves : MoveOk fs now from from_name to to_name number f after
  moves = record {
    other = λ c h. may.other (found number c h);
    not_above = may.not_above;
    replaces = λ n c h. may.replaces n (found n c h);
    cookie = may.next_cookie;
    effect = ap (λ o. move_entry now fs number from from_name to to_name o) may.is_target;
  }

  abbrev ok : RenameOk fs superuser now from from_name to to_name after
  ok = record {
    source = may_edit fs from from_name (kept.tree.tree.lists from from_name number cookie may.is_named)
        (kept.tree.names from from_name (ap is_some may.is_named)).0;
    target = may_edit fs to to_name may.directory may.named;
    number = number;
    cookie = cookie;
    is_named = may.is_named;
    file = f;
    there = may.there;
    outcome = inr moves;
  }

  follows : Follows fs after
  follows = renames_follows now time fs kept.tree superuser from from_name to to_name after ok moves
      may.bounded

  abbrev directory : Bool
  directory = is_directory f.body

  cleared_files : Files
  cleared_files = unlink_target now fs to to_name target

  clear : IsCleared fs cleared_files to to_name target links₁ entries' blocks'
  unfolding cleared_files
  clear = cleared now time fs links links₁ above entries blocks entries' blocks' kept number from from_name to
      to_name f cookie target may clears

  -- what has an entry is not the target
  lists_on : (n : ℕ) (y : List ℕ) (e : ℕ × ℕ) → directory_entries fs n y ≡ Some e → target ≢ Some n
  lists_on n y e h at = none_some
      (sym (unlists now time fs links links₁ above entries blocks entries' blocks' kept number from from_name
      to to_name f cookie target may clears n at y) ∙ h)

  to_stays : target ≢ Some to
  to_stays at = let p = entry_there (directory_entries fs to to_name) to (sym may.is_target ∙ at) in
      lists_on to to_name (to, p.0) p.1 at

  apart : (from ≡ to) × (from_name ≡ to_name) → ⊥
  apart e = may.other (found number cookie (sym (λ i. directory_entries fs (e.0 i) (e.1 i)) ∙ may.is_named))

  source : directory_entries cleared_files from from_name ≡ Some (number, cookie)
  source = clear.rest from from_name apart ∙ may.is_named

  from_kind : kind cleared_files from ≡ Some true
  from_kind = clear.kinds from (lists_on from from_name (number, cookie) may.is_named)
      ∙ kept.tree.tree.lists from from_name number cookie may.is_named

  own_kind : kind cleared_files number ≡ Some directory
  own_kind = clear.kinds number may.other ∙ ap (option_map (λ f. is_directory f.body)) may.there

  from_file : (g : File) × (file_at cleared_files from ≡ Some g) × (is_directory g.body ≡ true)
  from_file = dir_file cleared_files from from_kind

  taken : Files
  taken = without_name cleared_files from from_name

  unnamed : IsUnnamed cleared_files taken from from_name
  unfolding taken
  unnamed = unnamed_shape cleared_files from from_name from_file.0 from_file.1 from_file.2
      (distinct_names cleared_files from from_file.0 clear.files from_file.1)

  less : HasEntryMore taken cleared_files from number directory
  unfolding taken
  less = unnamed_less cleared_files from number from_name directory from_file.0 from_file.1 from_file.2
      (distinct_names cleared_files from from_file.0 clear.files from_file.1) own_kind cookie source

  taken_files : AllFiles taken
  unfolding taken
  taken_files = unnamed_files cleared_files from from_name clear.files

  to_file : (g : File) × (file_at taken to ≡ Some g) × (is_directory g.body ≡ true)
  to_file = dir_file taken to (unnamed.kinds to ∙ clear.kinds to to_stays ∙ may.directory)

  free : directory_entries taken to to_name ≡ None
  free = unnamed.change.rest to to_name (λ e. apart (sym e.0, sym e.1)) ∙ clear.free

  put : Files
  put = with_name taken to to_name number

  named : (g : ℕ) × IsNamed taken put to to_name number g
  unfolding put
  named = (
    _,
    named_shape taken to to_name to_file.0 to_file.1 to_file.2
        (distinct_names taken to to_file.0 taken_files to_file.1) number,
  )

  more : HasEntryMore taken put to number directory
  unfolding put
  more = named_more taken to number to_name directory to_file.0 to_file.1 to_file.2
      (distinct_names taken to to_file.0 taken_files to_file.1) (unnamed.kinds number ∙ own_kind) free

  stamps : IsSameShape put after
  unfolding put taken cleared_files
  stamps =
      let marked = touch_ctime now put number in
      let touched = touch now marked from in
      same_then put marked after (mark_shape now put number)
      (same_then marked touched after (touch_shape now marked from) (touch_shape now touched to))

  alike : CountsAlike put after
  unfolding put taken cleared_files
  alike =
      let marked = touch_ctime now put number in
      let touched = touch now marked from in
      let a = marked_alike now put number in
      let b = touched_alike now marked from in
      let c = touched_alike now touched to in
      record {
        links = λ n. c.links n ∙ b.links n ∙ a.links n;
        entries = c.entries ∙ b.entries ∙ a.entries;
        blocks = c.blocks ∙ b.blocks ∙ a.blocks;
      }

  kinds : (n : ℕ) → kind after n ≡ kind cleared_files n
  kinds n = stamps.kinds n ∙ more.kinds n ∙ unnamed.kinds n

  there : directory_entries after to to_name ≡ Some (number, named.0)
  there = stamps.directory_entries to to_name ∙ named.1.change.here

  before : (n d c : ℕ) (y : List ℕ) → n ≢ number → directory_entries after d y ≡ Some (n, c)
      → directory_entries fs d y ≡ Some (n, c)
  before n d c y not h = ⊎_elim
      (λ e. absurd (not (one_number n c number named.0
      (sym h ∙ (λ i. directory_entries after (e.0 i) (e.1 i)) ∙ there))))
      (λ not_to. ⊎_elim
      (λ e. absurd (none_some (sym (named.1.change.rest d y not_to
      ∙ (λ i. directory_entries taken (e.0 i) (e.1 i)) ∙ unnamed.change.here)
      ∙ sym (stamps.directory_entries d y) ∙ h)))
      (λ not_from.
      sym (stamps.directory_entries d y ∙ named.1.change.rest d y not_to ∙ unnamed.change.rest d y not_from
      ∙ clear.rest d y not_to) ∙ h)
      (same_entry d from y from_name))
      (same_entry d to y to_name)

  counts : (n : ℕ) → link_count after n + one n (cond directory from number)
      ≡ link_count cleared_files n + one n (cond directory to number)
  counts n =
      let a = alike.links n in
      let b = more_links taken put to number directory more n in
      let c = more_links taken cleared_files from number directory less n in
      omega (arith, a, b, c)

  module _ (moved : CountsMoved number from to f target links₁ links₂ links' above above') where
    left_by : (n : ℕ) → links₂ n + cond directory (one n from) 0 ≡ links₁ n
    left_by n = ⊎_elim
        (λ e.
        let own = ap links₂ e in
        let was = ap links₁ e in
        let here : cond directory (one n from) 0 ≡ cond directory 1 0 =
        ap (λ m. cond directory m 0) (one_same n from e) in
        omega (arith, own, was, here, moved.leaves))
        (λ ne. omega (arith, moved.others_left n ne, zero_in directory (one n from) (one_other n from ne)))
        (cases_eq n from)

    reached_by : (n : ℕ) → links' n ≡ links₂ n + cond directory (one n to) 0
    reached_by n = ⊎_elim
        (λ e.
        let own = ap links' e in
        let was = ap links₂ e in
        let here : cond directory (one n to) 0 ≡ cond directory 1 0 =
        ap (λ m. cond directory m 0) (one_same n to e) in
        omega (arith, own, was, here, moved.reaches))
        (λ ne. omega (arith, moved.others_reached n ne, zero_in directory (one n to) (one_other n to ne)))
        (cases_eq n to)

    links_after : (n : ℕ) → IsSome (kind after n) → links' n ≡ link_count after n
    links_after n is = by directory (counts n) (left_by n) (reached_by n)
      where
        was : links₁ n ≡ link_count cleared_files n
        was = clear.links n (sym (ap is_some (kinds n)) ∙ is)

        by : (b : Bool)
            → link_count after n + one n (cond b from number)
            ≡ link_count cleared_files n + one n (cond b to number)
            → links₂ n + cond b (one n from) 0 ≡ links₁ n → links' n ≡ links₂ n + cond b (one n to) 0
            → links' n ≡ link_count after n
        by true c l r = omega (arith, c, l, r, was)
        by false c l r = omega (arith, c, l, r, was)

    above_after : (n : ℕ) → IsDirectory after n → above' n ≡ parent_of after n
    above_after n is = ⊎_elim
        (λ e.
        let own = sym (ap (kind after) e) ∙ is in
        ap above' e ∙ moved.own_above (is_moved own)
        ∙ sym (ap (parent_of after) e ∙ follows.tree.tree.up to to_name number named.0 there own))
        (λ not.
        let stays = clear.plain n (sym (kinds n) ∙ is) in
        let was = sym (clear.kinds n stays) ∙ sym (kinds n) ∙ is in
        moved.others_above n not stays ∙ kept.counted.parents n was
        ∙ sym (parent_stays fs after kept.tree follows.tree n was is (λ d c y h. (c, before n d c y not h))))
        (cases_eq n number)
      where
        is_moved : kind after number ≡ Some true → is_directory f.body ≡ true
        is_moved own = some_same (sym own_kind ∙ sym (kinds number) ∙ own)

    -- what is kept after an entry moved
    pub kept_by_move : IsKept after links' above' entries' blocks'
    kept_by_move = record {
      tree = follows.tree;
      room = follows.room kept.room;
      words = record {
        fsid = kept.words.fsid;
        files = moved_words now superuser
            (says_words now word) fs kept.words.files number from from_name to to_name target;
      };
      counted = counted_by after links' above' links_after above_after;
      entries = omega (arith, clear.entries, less.entries, more.entries, alike.entries);
      blocks = omega (arith, clear.blocks, less.blocks, more.blocks, alike.blocks);
    }
