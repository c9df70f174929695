-- A name that goes, and the file with its last, are kept.
-- Serves: `InodeTable::unlink`; what an entry that moves replaces, in MovedEntry.
use Rattle.std.proofs.Common.{◌≡◌, ℕ, ◌+◌, ◌-◌, ◌<◌, ◌≤◌, ◌^◌, Bool, true, false, cond, List, Some, sym, ap}
use Rattle.std.proofs.Common.{subst, ◌∙◌, arith}
use Rattle.fs_spec.specs.nfs_items.Timeval.{Timeval}
use Rattle.fs_spec.specs.Files.{File, Files, is_directory}
use Rattle.fs_spec.specs.Trees.{IsTime}
use Rattle.fs_spec.specs.Changes.Edits.{without_name}
use Rattle.fs_spec.specs.Changes.Limits.{blocks_in}
use Rattle.nfs_count_laws.specs.nfs_spec.Changes.{touch, unlink, after_unlink, with_mtime}
use Rattle.nfs_count_laws.proofs.nfs_laws.OfTrees.FilesFit.{dir_file}
use Rattle.nfs_count_laws.specs.Counted.{IsKept}
use Rattle.nfs_count_laws.specs.CountChanges.{MayUnlink, is_last_name}
use Rattle.nfs_count_laws.proofs.Facts.{links_positive}
use Rattle.nfs_count_laws.proofs.Unnaming.{unlinks}
use Rattle.nfs_count_laws.proofs.Unlinking.{last_name_told, kept_by_unlink}
use Rattle.tree_rules.specs.inodes.declared.inode.Inode.{Inode}
use Rattle.tree_rules.specs.inodes.Inodes.{files_of, stored_at, links_at, above_at}
use Rattle.inode_table.specs.Edits.Slots.{ChangesFile, MayUnname, Unnames}
use Rattle.inode_table.specs.declared.table.InodeTable.TheInside.{Inside}
use Rattle.inode_table.specs.Kept.{AreKept}
use Rattle.inode_table.proofs.Tables.{files_in, IsWhole, stored, kept_blocks}

-- what may be freed is at most as much as all of it
pub freed_most : (b : Bool) (n m : ℕ) → n ≤ m → cond b n 0 ≤ m
freed_most true n m h = h
freed_most false n m h = omega arith

module _ (t : Inside) (whole : IsWhole t) {w : Files} (view : files_in t ≡ w) (now : Timeval) {dir : ℕ}
    {name : List ℕ} {number cookie : ℕ} {f : File} (asked : MayUnlink w dir name number cookie f) where
  -- its inodes by their numbers
  abbrev pub es : List (ℕ × Inode)
  es = t.inodes.entries

  -- the files that they are
  abbrev pub files : Files
  files = files_in t

  may : MayUnlink (files_in t) dir name number cookie f
  may = subst (λ v. MayUnlink v dir name number cookie f) (sym view) asked

  -- a name that may go may go by what is kept
  pub may_unname : MayUnname t.inodes.entries dir number f
  may_unname =
      let d = dir_file files dir (whole.tree.tree.lists dir name number cookie may.is_named) in
      let positive = links_positive files (links_at es) (above_at es) t.entries t.blocks whole in
      let linked = positive number f may.there in
      let parent = positive dir d.0 d.1 in
      let unlinked = unlinks files whole.tree dir name number cookie may.is_named f may.there may.empty now in
      record {
        there = stored t whole number f may.there;
        body = (whole.tree.files number f may.there).body;
        links = omega (arith, linked);
        apart = λ e. unlinked.apart (sym e);
        counted = λ is. omega (arith, parent);
      }

  -- there is an entry
  pub some_entry : 1 ≤ t.entries
  some_entry =
      let unlinked = unlinks files whole.tree dir name number cookie may.is_named f may.there may.empty now in
      let less = unlinked.entries in
      omega (arith, less, whole.entries)

  module _ {mid es' : List (ℕ × Inode)} {freed : ℕ}
      (gone : (g : File) → stored_at t.inodes.entries number ≡ Some g
      → Unnames now dir name number g freed t.inodes.entries mid)
      (c : ChangesFile dir (with_mtime now) mid es') where
    u : Unnames now dir name number f freed t.inodes.entries mid
    u = gone f may_unname.there

    -- what is freed is among all blocks
    pub freed_among : freed ≤ t.blocks
    freed_among =
        let last = is_last_name f.body (links_at es number) in
        let among = kept_blocks t whole number f may_unname.there in
        let most = freed_most last (blocks_in f.body) t.blocks among in
        omega (arith, most, u.freed_blocks)

    after : files_of t.fsid t.next es' ≡ touch now (unlink now (files_in t) dir name number) dir
    after =
        c.files t.fsid t.next
        ∙ ap (λ v. touch now v dir) (u.files t.fsid t.next
        ∙ ap (λ b. after_unlink b now (without_name files dir name) number)
        (sym (last_name_told files (links_at es) (above_at es) t.entries t.blocks whole
        dir name number cookie f may)))

    -- the files after the name went
    pub unlinked_files : files_of t.fsid t.next es' ≡ touch now (unlink now w dir name number) dir
    unlinked_files = after ∙ ap (λ v. touch now (unlink now v dir name number) dir) view

    -- are kept
    pub unlink_kept : IsTime now → now.seconds < 2 ^ 32
        → AreKept t.fsid t.next (t.entries - 1) (t.blocks - freed) es'
    unlink_kept time word =
        subst (λ v. IsKept v (links_at es') (above_at es') (t.entries - 1) (t.blocks - freed)) (sym after)
        (kept_by_unlink now time word files (links_at es) (above_at es) (links_at es') (above_at es')
        t.entries t.blocks (t.entries - 1) (t.blocks - freed) whole dir name number cookie f may
        (record {
          directory = ap (λ m. m + cond (is_directory f.body) 1 0) (c.links dir) ∙ u.links.directory;
          own = λ e. ap (λ m. m + 1) (c.links number) ∙ u.links.own e;
          others = λ n ne apart. c.links n ∙ u.links.others n ne apart;
        })
        (λ n ne. c.above n ∙ u.above n ne)
        (let some = some_entry in omega (arith, some))
        (let among = freed_among in omega (arith, among, u.freed_blocks)))
