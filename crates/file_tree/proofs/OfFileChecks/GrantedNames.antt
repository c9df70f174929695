-- What a granted call that puts a name into a directory does, and that the table takes the edit.
-- Serves: `make`, `create_new` and `link` of `Tree` in file_tree.
use Rattle.std.proofs.Common.{◌≡◌, ℕ, ◌≤◌, true, List, [], length, Some, Ok, option_map, sym, ap, subst, ◌∙◌}
use Rattle.nfs_spec.specs.nfs_items.Timeval.{Timeval}
use Rattle.nfs_spec.specs.nfs_items.Caller.{Caller}
use Rattle.nfs_spec.specs.fs_spec.Listing.{Listing}
use Rattle.nfs_spec.specs.fs_spec.Files.{File, Files, listing_in, listing, is_directory, IsDirectory}
use Rattle.nfs_spec.specs.fs_spec.Trees.{IsTime, IsFile, IsFileTree}
use Rattle.nfs_spec.specs.fs_spec.Changes.Edits.{with_name}
use Rattle.nfs_spec.specs.fs_spec.Changes.Limits.{has_room, blocks_in}
use Rattle.nfs_spec.specs.Changes.{Effect, touch, touch_ctime}
use Rattle.nfs_spec.specs.Procedures.{add_file, link}
use Rattle.inode_table.specs.nfs_laws.Steps.Granted.{MayEdit, MakeOk, LinkOk}
use Rattle.inode_table.proofs.nfs_laws.OfSteps.Steps.{listing_there}
use Rattle.inode_table.proofs.nfs_laws.OfSteps.Making.{link_ok}
use Rattle.inode_table.specs.nfs_laws.Laws.{NamesIn}
use Rattle.inode_table.specs.nfs_laws.Room.{HasRoomToMake, HasRoomToLink}
use Rattle.inode_table.proofs.nfs_laws.Paths.{make_adds, link_adds}
use Rattle.inode_table.proofs.nfs_laws.RoomBefore.{to_make, to_link}
use Rattle.inode_table.specs.nfs_laws.Sizes.Bounds.{HasWords}
use Rattle.inode_table.specs.nfs_count_laws.CountChanges.{MayMake, MayLink}

module _ (w : Files) (tree : IsFileTree w) (before : has_room w ≡ true) (who : Caller) (now : Timeval)
    (dir : ℕ)
    (name : List ℕ) (bound : length name ≤ 255) where
  -- a directory that may be edited is there
  there : MayEdit w who dir name → IsDirectory w dir
  there e = ap (option_map (λ f. is_directory f.body)) e.there ∙ ap (λ b. Some b) e.directory

  -- its next cookie is that of its file
  next_there : (e : MayEdit w who dir name) → (listing_in e.file.body).next ≡ (listing w dir).next
  next_there e = ap (λ (l : Listing). l.next) (sym (listing_there w dir e.file e.there))

  -- CREATE of a new name, MKDIR and SYMLINK
  module _ (f : File) (empty : (listing_in f.body).entries ≡ []) (low : (listing_in f.body).next ≤ 4294967295)
      (fits : IsFile f) (words : HasWords f) (number : ℕ) (after : Files)
      (o : MakeOk w who now dir name f number after) where
    -- the table takes the new file
    pub may_make : MayMake w dir name f
    may_make =
        let e = o.directory in
        let room : HasRoomToMake w (listing_in e.file.body).next (blocks_in f.body) =
        (to_make now w tree before dir name e.file e.there e.directory o.free f empty low).0
        (subst (λ v. has_room v ≡ true) o.effect o.room) in
        record {
          directory = there e;
          free = o.free;
          named = e.named;
          bounded = bound;
          empty = empty;
          cookie = low;
          file = fits;
          words = words;
          room = subst (λ n. HasRoomToMake w n (blocks_in f.body)) (next_there e) room;
        }

    -- the table's edit is the effect
    pub make_does : (effect : Effect ℕ) → effect ≡ Ok (number, after) → (n : ℕ) (v : Files) → n ≡ w.next
        → v ≡ add_file now w dir name f → effect ≡ Ok (n, v)
    make_does effect h n v is does =
        h ∙ ap (λ (m : ℕ). Ok (m, after)) (o.is_next ∙ sym is)
        ∙ ap (λ (u : Files). Ok (n, u)) (o.effect ∙ sym does)

    -- there is one path more for each of the directory
    pub make_names : IsTime now → (n : ℕ) (v : Files) → n ≡ w.next → v ≡ add_file now w dir name f
        → NamesIn w v dir name n
    make_names time n v is does =
        subst (λ n. NamesIn w v dir name n) (o.is_next ∙ sym is)
        (subst (λ u. NamesIn w u dir name number) (o.effect ∙ sym does)
        (make_adds now time w tree who dir name bound f empty fits number after o).1)

  -- LINK
  module _ (from : ℕ) (x : Unit {0} × Files) (h : link w who now from dir name ≡ Ok x) where
    granted : LinkOk w who now from dir name x.1
    granted = link_ok w who now from dir name x.1 h

    abbrev linked : Files
    linked = touch now (with_name (touch_ctime now w from) dir name from) dir

    -- the table takes the name
    pub may_link : (f : File) × MayLink w from dir name f
    may_link =
        let o = granted in
        let e = o.directory in
        let room : HasRoomToLink w (listing_in e.file.body).next =
        (to_link now w before dir name e.file e.there e.directory o.free from).0
        (subst (λ v. has_room v ≡ true) o.effect o.room) in (
          o.file,
          record {
            there = o.there;
            plain = o.plain;
            directory = there e;
            free = o.free;
            named = e.named;
            bounded = bound;
            room = subst (λ n. HasRoomToLink w n) (next_there e) room;
          },
        )

    -- the table's edit is the effect
    pub link_does : (v : Files) → v ≡ linked → link w who now from dir name ≡ Ok (tt, v)
    link_does v does = h ∙ ap (λ (u : Files). Ok (tt, u)) (granted.effect ∙ sym does)

    -- there is one path more for each of the directory
    pub link_names : IsTime now → (v : Files) → v ≡ linked → NamesIn w v dir name from
    link_names time v does =
        link_adds now time w tree who from dir name bound v
        (link_ok w who now from dir name v (link_does v does))
