-- Attributes that are set, and bytes that are written, are kept.
-- Serves: `InodeTable::set`, `InodeTable::write`.
use Rattle.std.proofs.Common.{◌≡◌, ℕ, ◌+◌, ◌-◌, ◌≤◌, List, Option, Some, None, option_map, sym, ap, subst}
use Rattle.std.proofs.Common.{◌∙◌, IsSome, is_some, Ok, refl, arith}
use Rattle.fs_spec.specs.nfs_items.Timeval.{Timeval}
use Rattle.fs_spec.specs.Files.{File, Files, file_at, listing_in, is_directory}
use Rattle.fs_spec.specs.Trees.{IsBody, IsFile, IsTime}
use Rattle.fs_spec.proofs.Walks.{some_same}
use Rattle.fs_spec.specs.Changes.Edits.{with_changed_file}
use Rattle.fs_spec.specs.Changes.Limits.{blocks_in, block_count}
use Rattle.fs_spec.proofs.OfChanges.Room.{within}
use Rattle.nfs_count_laws.specs.nfs_spec.Sattr.{GivenFields}
use Rattle.nfs_count_laws.specs.nfs_spec.Changes.{with_mtime, apply_fields, body_with_length}
use Rattle.nfs_count_laws.specs.nfs_spec.Procedures.{with_bytes_written}
use Rattle.nfs_count_laws.specs.nfs_laws.Laws.{AreValidFields}
use Rattle.nfs_count_laws.proofs.nfs_laws.Bytes.{length-resized}
use Rattle.nfs_count_laws.proofs.nfs_laws.FilesFit.{set_lists, set_keeps, set_fits, rewritten_fits}
use Rattle.nfs_count_laws.specs.nfs_laws.Sizes.Bounds.{HasWords}
use Rattle.tree_rules.specs.inodes.declared.inode.Inode.{Inode}
use Rattle.tree_rules.specs.inodes.Contents.{body_with_bytes_at}
use Rattle.tree_rules.specs.inodes.Inodes.{fattr_of, file_in, files_of, inode_at, stored_at}
use Rattle.inode_table.specs.Edits.Slots.{ChangesFile, IsBlockChange}
use Rattle.inode_table.proofs.OfEdits.EditedInodes.{own_stored, changed_alike, some_mapped}
use Rattle.inode_table.specs.declared.table.InodeTable.TheInside.{Inside}
use Rattle.tree_rules.specs.inodes.Edits.{IsSizable, MaySet, MayWriteAt}
use Rattle.inode_table.specs.Kept.{AreKept}
use Rattle.inode_table.proofs.InodesSeen.{attributes_told}
use Rattle.nfs_count_laws.specs.nfs_spec.Effects.{attributes_at}
use Rattle.fs_spec.specs.nfs_items.declared.attributes.Fattr.{Fattr}
use Rattle.inode_table.proofs.Tables.{files_in, IsWhole, stored, kept_blocks, change_kept}

-- what fits a limit where a size is given, and where none is
module _ (fs : Files) (f : File) (room : block_count fs ≤ 32768) (fits : IsBody f.body) where
  -- a body of a size that it may take is within its limit
  sized_fits : (size : Option ℕ) → ((n : ℕ) → size ≡ Some n → IsSizable fs f n)
      → IsBody (body_with_length size f.body)
  sized_fits None may = fits
  sized_fits (Some n) may =
      let o = may n refl in
      subst (λ b. IsBody (body_with_length (Some n) b)) (sym o.regular)
      (omega (arith, length-resized n o.bytes, o.fits))

  -- and takes no more blocks than there may be
  sized_room : (size : Option ℕ) → ((n : ℕ) → size ≡ Some n → IsSizable fs f n)
      → block_count fs + blocks_in (body_with_length size f.body) ≤ 32768 + blocks_in f.body
  sized_room None may = omega (arith, room)
  sized_room (Some n) may = (may n refl).room

-- a change of the contents of a number's file, which the table can take: it fits, and has room
pub record HasRoom (t : Inside) (n : ℕ) (change : File → File) : Type 0 where
  -- the file before the change
  pub file : File
  -- it is the number's
  pub there : file_at (files_in t) n ≡ Some file
  -- what a directory lists stays
  pub listing : listing_in (change file).body ≡ listing_in file.body
  -- a directory stays one, and nothing else becomes one
  pub kind : is_directory (change file).body ≡ is_directory file.body
  -- afterwards it is within the limits of a file
  pub fits : IsFile (change file)
  -- and the files take no more blocks than there may be
  pub room : block_count (files_in t) + blocks_in (change file).body ≤ 32768 + blocks_in file.body

module _ (t : Inside) (whole : IsWhole t) {n : ℕ} {change : File → File} (may : HasRoom t n change) where
  -- its inodes by their numbers
  abbrev pub es : List (ℕ × Inode)
  es = t.inodes.entries

  at : stored_at t.inodes.entries n ≡ Some may.file
  at = stored t whole n may.file may.there

  -- the inode is there
  pub changed_there : IsSome (inode_at t.inodes.entries n)
  changed_there = sym (some_mapped file_in (inode_at es n)) ∙ ap is_some at

  -- the body is within its limit after the change
  pub changed_bodies : (f : File) → stored_at t.inodes.entries n ≡ Some f → IsBody (change f).body
  changed_bodies f own =
      subst (λ (g : File). IsBody (change g).body) (some_same (sym at ∙ own)) may.fits.body

  module _ {es' : List (ℕ × Inode)} (c : ChangesFile n change t.inodes.entries es') where
    after : stored_at es' n ≡ Some (change may.file)
    after = own_stored es es' n change c ∙ ap (option_map change) at

    module _ {was is : ℕ} (blocks : IsBlockChange n was is t.inodes.entries es') where
      -- the blocks that the file had are among all
      pub changed_among : was ≤ t.blocks
      changed_among =
          let same = blocks.before may.file at in
          let among = kept_blocks t whole n may.file at in
          omega (arith, among, same)

      -- with those that it has there are no more than there may be
      pub changed_most : (t.blocks - was) + is ≤ 32768
      changed_most =
          let same = blocks.before may.file at in
          let told = blocks.after (change may.file) after in
          omega (arith, same, told, may.room, whole.blocks, changed_among)

      -- and all is kept
      pub changed_kept : ((f : File) → stored_at es' n ≡ Some f → HasWords f)
          → AreKept t.fsid t.next t.entries (t.blocks - was + is) es'
      changed_kept words =
          change_kept t whole es' n may.file change was is
          (record {
            there = may.there;
            listing = may.listing;
            kind = may.kind;
            file = may.fits;
            words = words (change may.file) after;
          })
          c may.room (blocks.before may.file at) (blocks.after (change may.file) after)

      -- so attributes that are the inode's are the file's
      pub changed_attributes : ((f : File) → stored_at es' n ≡ Some f → HasWords f) → (attributes : Fattr)
          → ((inode : Inode) → inode_at es' n ≡ Some inode → attributes ≡ fattr_of t.fsid n inode)
          → attributes_at (files_of t.fsid t.next es') n ≡ Ok attributes
      changed_attributes words attributes =
          attributes_told t.fsid t.next t.entries (t.blocks - was + is) es' (changed_kept words) n
          (change may.file) after attributes

module _ (t : Inside) (whole : IsWhole t) {w : Files} (view : files_in t ≡ w) (now : Timeval)
    (time : IsTime now) {n : ℕ} where
  -- attributes that may be set
  pub set_room : {a : GivenFields} → AreValidFields a → MaySet w n a → HasRoom t n (apply_fields now a)
  set_room {a} valid asked =
      let may : MaySet (files_in t) n a = subst (λ v. MaySet v n a) (sym view) asked in
      let most = (within (files_in t) whole.room).blocks in
      let own = whole.tree.files n may.file may.there in record {
        file = may.file;
        there = may.there;
        listing = set_lists a.size may.file.body;
        kind = set_keeps a.size may.file.body;
        fits = set_fits now time a valid may.file own
            (sized_fits (files_in t) may.file most own.body a.size may.sized);
        room = sized_room (files_in t) may.file most own.body a.size may.sized;
      }

  -- bytes that may be written
  module _ {offset : ℕ} {bytes old : List ℕ} (asked : MayWriteAt w n offset bytes old) where
    abbrev writes : File → File
    writes = λ f. with_mtime now (record f { body = body_with_bytes_at offset bytes f.body })

    abbrev may_write : MayWriteAt (files_in t) n offset bytes old
    may_write = subst (λ v. MayWriteAt v n offset bytes old) (sym view) asked

    same : writes may_write.file ≡ with_bytes_written now offset bytes old may_write.file
    same = ap (λ x. with_mtime now (record may_write.file { body = body_with_bytes_at offset bytes x }))
        may_write.regular

    -- the table can take them
    pub write_room : HasRoom t n writes
    write_room = record {
      file = may_write.file;
      there = may_write.there;
      listing = ap (λ (f : File). listing_in f.body) same ∙ sym (ap listing_in may_write.regular);
      kind = ap (λ (f : File). is_directory f.body) same ∙ sym (ap is_directory may_write.regular);
      fits = subst IsFile (sym same) (rewritten_fits now time offset bytes old may_write.file
          may_write.regular (whole.tree.files n may_write.file may_write.there) may_write.fits);
      room = subst (λ (g : File). block_count (files_in t) + blocks_in g.body
          ≤ 32768 + blocks_in may_write.file.body) (sym same) may_write.room;
    }

    -- the bytes of the file are those that it has, and those that are written
    pub written_files : {es' : List (ℕ × Inode)} → ChangesFile n writes t.inodes.entries es'
        → files_of t.fsid t.next es' ≡ with_changed_file w n (with_bytes_written now offset bytes old)
    written_files c =
        c.files t.fsid t.next
        ∙ changed_alike (files_in t) n may_write.file writes (with_bytes_written now offset bytes old)
        may_write.there same
        ∙ ap (λ v. with_changed_file v n (with_bytes_written now offset bytes old)) view
