-- Room after an effect, told by the files before it.
-- Serves: room_is_told_before.
use Rattle.std.proofs.Common.{◌≡◌, ◌≢◌, ⊎_elim, ℕ, ◌+◌, ◌≤◌, true, List, [], length, Option, Some, None}
use Rattle.std.proofs.Common.{option_map, refl, sym, ap, ◌∙◌, arith}
use Rattle.std.specs.Prelude.{◌↔◌}
use Rattle.std.proofs.lemmas.Bool.{cases_eq}
use Rattle.nfs_spec.specs.nfs_items.Timeval.{Timeval}
use Rattle.nfs_spec.specs.fs_spec.Listing.{Listing, entry_at}
use Rattle.nfs_spec.specs.fs_spec.Files.{Body, File, Files, file_at, listing_in, is_directory}
use Rattle.nfs_spec.specs.fs_spec.Files.{directory_entries}
use Rattle.nfs_spec.specs.fs_spec.Trees.{IsFileTree}
use Rattle.nfs_spec.proofs.fs_spec.Walks.{none_some, some_same}
use Rattle.nfs_spec.specs.fs_spec.Changes.Edits.{with_changed_file, with_new_file, with_name}
use Rattle.nfs_spec.specs.fs_spec.Changes.Limits.{blocks_in, entry_count, block_count, has_room}
use Rattle.nfs_spec.proofs.fs_spec.OfChanges.Finite.{nothing_changes, changed_next, changed_here}
use Rattle.nfs_spec.proofs.fs_spec.OfChanges.Finite.{changed_other, new_here, new_other, total}
use Rattle.nfs_spec.proofs.fs_spec.OfChanges.Finite.{total_changed, total_new}
use Rattle.nfs_spec.proofs.fs_spec.OfChanges.Room.{count_new, count_changed, AllCookies, within, room}
use Rattle.nfs_spec.proofs.fs_spec.OfChanges.Room.{still_room}
use Rattle.nfs_spec.specs.Changes.{touch, with_mtime, touch_ctime, with_ctime}
use Rattle.nfs_spec.specs.Procedures.{add_file}
use Rattle.nfs_laws.specs.Room.{HasRoomToMake, HasRoomToLink}
use Rattle.nfs_laws.proofs.OfTrees.FilesFit.{next_free}
use Rattle.nfs_laws.proofs.OfTrees.EditRoom.{touch_no_more, mark_no_more, free_in, named_needs, named_has}

-- ---- a change that leaves bodies

module _ (w : Files) (k : ℕ) (change : File → File) (keeps : (f : File) → (change f).body ≡ f.body) where
  same_total : (p : Body → ℕ) → total (λ f. p f.body) (with_changed_file w k change) ≡ total (λ f. p f.body) w
  same_total p = by (file_at w k) refl
    where
      by : (o : Option File) → file_at w k ≡ o
          → total (λ f. p f.body) (with_changed_file w k change) ≡ total (λ f. p f.body) w
      by None e = ap (total (λ f. p f.body)) (nothing_changes w k change 0 e)
      by (Some f) e = let same = ap p (keeps f) in
          omega (arith, total_changed (λ g. p g.body) w k change f e, same)

  -- a file after the change has the body that it had
  body_there : (n : ℕ) (f : File) → file_at w n ≡ Some f
      → (g : File) × (file_at (with_changed_file w k change) n ≡ Some g) × (g.body ≡ f.body)
  body_there n f there = ⊎_elim
      (λ e. (
        change f,
        changed_here w k change n e ∙ ap (option_map change) (sym (ap (file_at w) e) ∙ there),
        keeps f,
      ))
      (λ ne. (f, changed_other w k change n ne ∙ there, refl))
      (cases_eq n k)

  room_back : has_room (with_changed_file w k change) ≡ true → has_room w ≡ true
  unfolding AllCookies
  room_back h =
      let was = within (with_changed_file w k change) h in
      room w (record {
        files = omega (arith, count_changed w k change, was.files);
        entries = omega (arith, same_total (λ b. length (listing_in b).entries), was.entries);
        blocks = omega (arith, same_total blocks_in, was.blocks);
        next = omega (arith, changed_next w k change 0, was.next);
        cookies = λ n f there. let g = body_there n f there in let same = ap (λ b. (listing_in b).next) g.2 in
            omega (arith, was.cookies n g.0 g.1, same);
      })

-- ---- in a tree

touched_back : (now : Timeval) (w : Files) (d : ℕ) → has_room (touch now w d) ≡ true → has_room w ≡ true
touched_back now w d = room_back w d (with_mtime now) (λ f. refl)

touched_on : (now : Timeval) (w : Files) (d : ℕ) → has_room w ≡ true → has_room (touch now w d) ≡ true
touched_on now w d = still_room w (touch now w d) (touch_no_more now w d)

module _ (now : Timeval) (w : Files) (tree : IsFileTree w) (before : has_room w ≡ true) (dir : ℕ)
    (name : List ℕ) (d : File) (there : file_at w dir ≡ Some d) (is : is_directory d.body ≡ true)
    (free : directory_entries w dir name ≡ None) where
  not_next : dir ≢ w.next
  not_next e = absurd (none_some (sym (next_free w tree) ∙ sym (ap (file_at w) e) ∙ there))

  module _ (f : File) (empty : (listing_in f.body).entries ≡ [])
      (low : (listing_in f.body).next ≤ 4294967295) where
    one : Files
    one = with_new_file w f

    there₁ : file_at one dir ≡ Some d
    unfolding one
    there₁ = new_other w f dir not_next ∙ there

    entries₁ : entry_count one ≡ entry_count w
    unfolding one
    entries₁ = let none = ap length empty in
        omega (arith, total_new (λ g. length (listing_in g.body).entries) w f (next_free w tree), none)

    blocks₁ : block_count one ≡ block_count w + blocks_in f.body
    unfolding one
    blocks₁ = total_new (λ g. blocks_in g.body) w f (next_free w tree)

    all₁ : AllCookies one
    unfolding one AllCookies
    all₁ n g at = ⊎_elim
        (λ e. let same = ap (λ (z : File). (listing_in z.body).next)
        (some_same (sym (new_here w f n e) ∙ at)) in omega (arith, same, low))
        (λ ne. (within w before).cookies n g (sym (new_other w f n ne) ∙ at))
        (cases_eq n w.next)

    -- room after a new file with a name, by the counts before
    pub to_make : (has_room (add_file now w dir name f) ≡ true) ↔ HasRoomToMake w (listing_in d.body).next
        (blocks_in f.body)
    unfolding one
    to_make = (
      (λ h.
          let n = named_needs one dir name w.next d there₁ is (free_in w dir name d there free)
          (touched_back now (with_name one dir name w.next) dir h) in
          record {
            files = omega (arith, count_new w f (next_free w tree), n.files);
            entries = omega (arith, entries₁, n.entries);
            blocks = omega (arith, blocks₁, n.blocks);
            number = omega (arith, n.next);
            cookie = n.cookie;
          }),
      (λ h. touched_on now (with_name one dir name w.next) dir
          (named_has one dir name w.next d there₁ is (free_in w dir name d there free) all₁ (record {
            files = omega (arith, count_new w f (next_free w tree), h.files);
            entries = omega (arith, entries₁, h.entries);
            blocks = omega (arith, blocks₁, h.blocks);
            next = omega (arith, h.number);
            cookie = h.cookie;
          }))),
    )

-- room after a name more, by the counts before
pub to_link : (now : Timeval) (w : Files) → has_room w ≡ true → (dir : ℕ) (name : List ℕ) (d : File)
    → file_at w dir ≡ Some d → is_directory d.body ≡ true → directory_entries w dir name ≡ None → (from : ℕ)
    → (has_room (touch now (with_name (touch_ctime now w from) dir name from) dir) ≡ true)
    ↔ HasRoomToLink w (listing_in d.body).next
to_link now w before dir name d there is free from =
    let v = touch_ctime now w from in
    let g = body_there w from (with_ctime now) (λ f. refl) dir d there in
    let is_g : is_directory g.0.body ≡ true = ap is_directory g.2 ∙ is in
    let free_g : entry_at (listing_in g.0.body) name ≡ None = ap (λ b. entry_at (listing_in b) name) g.2
    ∙ free_in w dir name d there free in
    let same_next = ap (λ b. (listing_in b).next) g.2 in
    let same_entries = same_total w from (with_ctime now) (λ f. refl) (λ b. length (listing_in b).entries) in
    let within_v = within v (still_room w v (mark_no_more now w from) before) in (
      (λ h. let n = named_needs v dir name from g.0 g.1 is_g free_g
          (touched_back now (with_name v dir name from) dir h) in
          record {
            entries = omega (arith, same_entries, n.entries);
            cookie =
                omega (arith, same_next, n.cookie);
          }),
      (λ h. touched_on now (with_name v dir name from) dir
          (named_has v dir name from g.0 g.1 is_g free_g within_v.cookies
          (record {
            files = within_v.files;
            entries = omega (arith, same_entries, h.entries);
            blocks =
                within_v.blocks;
            next = within_v.next;
            cookie = omega (arith, same_next, h.cookie);
          }))),
    )

-- ---- other bytes

-- room after other bytes, by the blocks before
pub to_write : (w : Files) → has_room w ≡ true → (n : ℕ) (change : File → File) (f : File)
    → file_at w n ≡ Some f → listing_in (change f).body ≡ listing_in f.body
    → (has_room (with_changed_file w n change) ≡ true)
    ↔ (block_count w + blocks_in (change f).body ≤ 32768 + blocks_in f.body)
unfolding AllCookies
to_write w before n change f there lists =
    let was = within w before in
    let blocks = total_changed (λ g. blocks_in g.body) w n change f there in
    let entries = total_changed (λ g. length (listing_in g.body).entries) w n change f there in
    let same = ap (λ (l : Listing). length l.entries) lists in
    let same_next = ap (λ (l : Listing). l.next) lists in (
      (λ h. let now = within (with_changed_file w n change) h in omega (arith, now.blocks, blocks)),
      (λ h. room (with_changed_file w n change) (record {
        files = omega (arith, count_changed w n change, was.files);
        entries = omega (arith, entries, same, was.entries);
        blocks = omega (arith, blocks, h);
        next = omega (arith, changed_next w n change 0, was.next);
        cookies = λ m g at. ⊎_elim
            (λ e. let z = ap (λ (z : File). (listing_in z.body).next)
            (some_same (sym (changed_here w n change m e ∙ ap (option_map change) there) ∙ at)) in
            omega (arith, z, same_next, was.cookies n f there))
            (λ ne. was.cookies m g (sym (changed_other w n change m ne) ∙ at))
            (cases_eq m n);
      })),
    )
