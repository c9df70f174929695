-- A name more, of a new inode or of one that is there, is kept.
-- Serves: `InodeTable::make`, `InodeTable::link`.
use Rattle.std.proofs.Common.{◌≡◌, ◌≢◌, ℕ, ◌+◌, ◌<◌, ◌≤◌, ◌^◌, Bool, true, false, cond, List, [], Option}
use Rattle.std.proofs.Common.{Some, None, option_map, IsSome, refl, sym, ap, subst, ◌∙◌, arith}
use Rattle.std.specs.Option.{option_map_or}
use Rattle.fs_spec.specs.nfs_items.Timeval.{Timeval}
use Rattle.fs_spec.specs.Listing.{Listing, with_entry}
use Rattle.fs_spec.specs.Files.{File, Files, file_at, listing, listing_in, is_directory, IsDirectory}
use Rattle.fs_spec.specs.Trees.{IsTime}
use Rattle.fs_spec.specs.Changes.Edits.{with_name, map_listing}
use Rattle.fs_spec.specs.Changes.Limits.{blocks_in}
use Rattle.nfs_count_laws.specs.nfs_spec.Changes.{touch, touch_ctime, with_mtime, with_ctime}
use Rattle.nfs_count_laws.specs.nfs_spec.Procedures.{add_file}
use Rattle.nfs_count_laws.proofs.nfs_laws.OfTrees.FilesFit.{dir_file, next_free}
use Rattle.nfs_count_laws.specs.Counted.{IsKept}
use Rattle.nfs_count_laws.specs.CountChanges.{MayMake, MayLink}
use Rattle.nfs_count_laws.proofs.Facts.{links_bounded, entries_bounded}
use Rattle.nfs_count_laws.proofs.Making.{kept_by_make}
use Rattle.nfs_count_laws.proofs.Linking.{kept_by_link}
use Rattle.tree_rules.specs.inodes.declared.inode.Inode.{Inode}
use Rattle.tree_rules.specs.inodes.Inodes.{body_in, file_in, files_of, inode_at, parent_in, stored_at}
use Rattle.tree_rules.specs.inodes.Inodes.{links_at}
use Rattle.tree_rules.specs.inodes.Inodes.{above_at}
use Rattle.inode_table.specs.Edits.Slots.{ChangesFile, ChangesLinks, AddsNamed}
use Rattle.inode_table.proofs.OfEdits.EditedInodes.{other_stored}
use Rattle.tree_rules.proofs.inodes.FilesSeen.{file_seen}
use Rattle.inode_table.proofs.OfEdits.Listed.{swap}
use Rattle.inode_table.proofs.OfEdits.NamedInodes.{has_inode, listed_room}
use Rattle.inode_table.specs.declared.table.InodeTable.TheInside.{Inside}
use Rattle.inode_table.specs.Kept.{AreKept}
use Rattle.inode_table.proofs.Tables.{files_in, IsWhole, stored}

module _ (t : Inside) (whole : IsWhole t) where
  -- its inodes by their numbers
  abbrev pub es : List (ℕ × Inode)
  es = t.inodes.entries

  -- the files that they are
  abbrev pub files : Files
  files = files_in t

  -- the file of a directory, with room for an entry
  directory_room : (dir : ℕ) → IsDirectory (files_in t) dir → (listing (files_in t) dir).next ≤ 4294967294
      → (f : File) × (stored_at t.inodes.entries dir ≡ Some f) × ((listing_in f.body).next < 4294967295)
  directory_room dir is room =
      let d = dir_file files dir is in
      let none : Listing = record { next = 0; entries = [] } in
      let same = ap (λ o. (option_map_or (λ (f : File). listing_in f.body) o none).next) d.1 in
      (d.0, stored t whole dir d.0 d.1, omega (arith, same, room))

  -- links are far from their greatest number
  linked_room : (n : ℕ) (f : File) → stored_at t.inodes.entries n ≡ Some f
      → links_at t.inodes.entries n < 4294967295
  linked_room n f at =
      let there = file_seen t.fsid t.next es n ∙ at in
      let links = links_bounded files (links_at es) (above_at es) t.entries t.blocks whole n f there in
      let most = entries_bounded files (links_at es) (above_at es) t.entries t.blocks whole in
      omega (arith, links, most)

  -- the next number has no file
  pub next_stored : stored_at t.inodes.entries t.next ≡ None
  next_stored = sym (file_seen t.fsid t.next es t.next) ∙ next_free files whole.tree

  module _ {w : Files} (view : files_in t ≡ w) where
    -- ---- a new file

    module _ {dir : ℕ} {name : List ℕ} {f : File} (asked : MayMake w dir name f) where
      may : MayMake (files_in t) dir name f
      may = subst (λ v. MayMake v dir name f) (sym view) asked

      -- the directory has a cookie for one entry more
      pub make_room : (f : File) × (stored_at t.inodes.entries dir ≡ Some f)
          × ((listing_in f.body).next < 4294967295)
      make_room = directory_room dir may.directory may.room.cookie

      -- and may have one link more
      pub make_links : links_at t.inodes.entries dir < 4294967295
      make_links = let d = make_room in linked_room dir d.0 d.1

      module _ (now : Timeval) {inode : Inode} {b : Bool} {es' : List (ℕ × Inode)}
          (a : AddsNamed now dir name t.next inode b t.inodes.entries es') (file : file_in inode ≡ f) where
        -- the files with a new one
        pub made_files : files_of t.fsid (t.next + 1) es' ≡ add_file now w dir name f
        made_files =
            a.files t.fsid ∙ ap (add_file now files dir name) file ∙ ap (λ v. add_file now v dir name f) view

        -- are kept
        pub make_kept : IsTime now → now.seconds < 2 ^ 32 → b ≡ is_directory f.body → {more : ℕ}
            → more ≡ blocks_in f.body → inode.nlink ≡ cond b 2 1
            → (is_directory f.body ≡ true → parent_in inode.body ≡ dir)
            → AreKept t.fsid (t.next + 1) (t.entries + 1) (t.blocks + more) es'
        make_kept time word kind {more} same nlink parent =
            subst (λ v. IsKept v (links_at es') (above_at es') (t.entries + 1) (t.blocks + more))
            (sym (a.files t.fsid ∙ ap (add_file now files dir name) file))
            (kept_by_make now time word files (links_at es) (above_at es) (links_at es') (above_at es')
            t.entries t.blocks (t.entries + 1) (t.blocks + more) whole dir name f may
            (record {
              own = a.own ∙ nlink ∙ ap (λ c. cond c 2 1) kind;
              directory = a.directory ∙ ap (λ c. links_at es dir + cond c 1 0) kind;
              others = a.links;
              own_above = λ is. a.own_above ∙ parent is;
              others_above = a.above;
            })
            refl (ap (λ m. t.blocks + m) same))

    -- ---- one more name of a file

    module _ {number dir : ℕ} {name : List ℕ} {f : File} (asked : MayLink w number dir name f) where
      may_link : MayLink (files_in t) number dir name f
      may_link = subst (λ v. MayLink v number dir name f) (sym view) asked

      -- the directory has a cookie for one entry more
      pub link_room : (inode : Inode) → inode_at t.inodes.entries dir ≡ Some inode
          → (listing_in (body_in inode.body)).next < 4294967295
      link_room =
          let d = directory_room dir may_link.directory may_link.room.cookie in
          listed_room es dir d.0 d.1 d.2

      -- a file that is no directory is not the directory
      apart : number ≢ dir
      apart e =
          true_false (sym may_link.directory
          ∙ ap (option_map (λ (f : File). is_directory f.body)) (sym (ap (file_at files) e) ∙ may_link.there)
          ∙ ap (λ b. Some b) may_link.plain)
        where
          true_false : ◌≡◌ {A = Option Bool} (Some true) (Some false) → ⊥
          true_false h = cc

      link_stored : stored_at t.inodes.entries number ≡ Some f
      link_stored = stored t whole number f may_link.there

      module _ {put : List (ℕ × Inode)}
          (p : ChangesFile dir (map_listing (λ l. with_entry l name number)) t.inodes.entries put) where
        -- the file is there while the directory lists it once more
        pub link_there : IsSome (inode_at put number)
        link_there =
            has_inode put number f
            (other_stored es put dir (map_listing (λ l. with_entry l name number)) p number apart
            ∙ link_stored)

        -- and may have one link more
        pub link_bound : links_at put number < 4294967295
        link_bound =
            let same = p.links number in
            let bound = linked_room number f link_stored in
            omega (arith, same, bound)

        module _ (now : Timeval) {more set es' : List (ℕ × Inode)} (l : ChangesLinks number put more)
            (own : links_at more number ≡ links_at put number + 1)
            (s : ChangesFile number (with_ctime now) more set)
            (c : ChangesFile dir (with_mtime now) set es') where
          after : files_of t.fsid t.next es'
              ≡ touch now (with_name (touch_ctime now (files_in t) number) dir name number) dir
          after =
              c.files t.fsid t.next ∙ ap (λ v. touch now v dir)
              (s.files t.fsid t.next
              ∙ ap (λ v. touch_ctime now v number) (l.files t.fsid t.next ∙ p.files t.fsid t.next)
              ∙ swap files dir number (map_listing (λ l. with_entry l name number)) (with_ctime now)
              (λ e. apart (sym e)))

          -- the files with one more name
          pub linked_files : files_of t.fsid t.next es'
              ≡ touch now (with_name (touch_ctime now w number) dir name number) dir
          linked_files =
              after ∙ ap (λ v. touch now (with_name (touch_ctime now v number) dir name number) dir) view

          -- are kept
          pub link_kept : IsTime now → now.seconds < 2 ^ 32
              → AreKept t.fsid t.next (t.entries + 1) t.blocks es'
          link_kept time word =
              subst (λ v. IsKept v (links_at es') (above_at es') (t.entries + 1) t.blocks) (sym after)
              (kept_by_link now time word files (links_at es) (above_at es) (links_at es') (above_at es')
              t.entries t.blocks (t.entries + 1) t.blocks whole number dir name f may_link
              (c.links number ∙ s.links number ∙ own ∙ ap (λ m. m + 1) (p.links number))
              (λ n ne. c.links n ∙ s.links n ∙ l.links n ne ∙ p.links n)
              (λ n. c.above n ∙ s.above n ∙ l.above n ∙ p.above n)
              refl refl)
