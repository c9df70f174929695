-- A table as its proofs see it, and edits that leave the names of files alone.
-- Serves: all edits of `InodeTable`.
use Rattle.std.proofs.Common.{◌≡◌, ℕ, ◌+◌, ◌-◌, ◌≤◌, List, Some, Result, Ok, Err, OnErr, refl, sym, subst}
use Rattle.std.proofs.Common.{◌∙◌, arith}
use Rattle.fs_spec.specs.Files.{File, Files, file_at}
use Rattle.fs_spec.specs.Trees.{IsBody}
use Rattle.fs_spec.specs.Changes.Limits.{blocks_in, block_count}
use Rattle.fs_spec.proofs.OfChanges.Finite.{total_without}
use Rattle.nfs_count_laws.specs.Counted.{IsKept}
use Rattle.nfs_count_laws.specs.CountChanges.{MayChange}
use Rattle.nfs_count_laws.proofs.Contents.{kept_alike, kept_by_change}
use Rattle.tree_rules.specs.inodes.declared.inode.Inode.{Inode}
use Rattle.tree_rules.specs.inodes.Inodes.{files_of, stored_at, links_at, above_at}
use Rattle.inode_table.specs.Edits.Slots.{AreAlike, ChangesFile}
use Rattle.tree_rules.proofs.inodes.FilesSeen.{file_seen}
use Rattle.inode_table.specs.declared.table.InodeTable.TheInside.{Inside}
use Rattle.inode_table.specs.Kept.{AreKept}

-- the files that a table is
abbrev pub files_in : Inside → Files
files_in t = files_of t.fsid t.next t.inodes.entries

-- what a table keeps is what counting over its files gives
abbrev pub IsWhole : Inside → Type 0
IsWhole t = AreKept t.fsid t.next t.entries t.blocks t.inodes.entries

-- what holds holds on an error
pub on_any_error : {A E P : Type 0} (r : Result A E) → P → OnErr r P
on_any_error (Ok x) p = tt
on_any_error (Err e) p = p

module _ (t : Inside) (whole : IsWhole t) where
  -- its inodes by their numbers
  abbrev pub es : List (ℕ × Inode)
  es = t.inodes.entries

  -- the file of a number is stored
  pub stored : (n : ℕ) (f : File) → file_at (files_in t) n ≡ Some f → stored_at t.inodes.entries n ≡ Some f
  stored n f at = sym (file_seen t.fsid t.next es n) ∙ at

  -- its body is within its limit
  pub kept_body : (n : ℕ) (f : File) → stored_at t.inodes.entries n ≡ Some f → IsBody f.body
  kept_body n f at = (whole.tree.files n f (file_seen t.fsid t.next es n ∙ at)).body

  -- its blocks are among all
  pub kept_blocks : (n : ℕ) (f : File) → stored_at t.inodes.entries n ≡ Some f → blocks_in f.body ≤ t.blocks
  kept_blocks n f at =
      let rest = total_without (λ g. blocks_in g.body) (files_in t) n f (file_seen t.fsid t.next es n ∙ at) in
      omega (arith, rest, whole.blocks)

  -- inodes that are seen alike are kept alike
  pub alike_kept : {es' : List (ℕ × Inode)} → AreAlike t.inodes.entries es'
      → AreKept t.fsid t.next t.entries t.blocks es'
  alike_kept {es'} a =
      subst (λ w. IsKept w (links_at es') (above_at es') t.entries t.blocks) (sym (a.files t.fsid t.next))
      (kept_alike (files_in t) (links_at es) (above_at es) (links_at es') (above_at es')
      t.entries t.blocks t.entries t.blocks whole a.links a.above refl refl)

  -- other contents are kept, with the blocks told anew
  pub change_kept : (es' : List (ℕ × Inode)) (k : ℕ) (f : File) (change : File → File) (was is : ℕ)
      → MayChange (files_in t) k f change → ChangesFile k change t.inodes.entries es'
      → block_count (files_in t) + blocks_in (change f).body ≤ 32768 + blocks_in f.body
      → was ≡ blocks_in f.body → is ≡ blocks_in (change f).body
      → AreKept t.fsid t.next t.entries (t.blocks - was + is) es'
  change_kept es' k f change was is may c room old new =
      let among = kept_blocks k f (stored k f may.there) in
      let blocks = t.blocks - was + is in
      subst (λ w. IsKept w (links_at es') (above_at es') t.entries blocks) (sym (c.files t.fsid t.next))
      (kept_by_change (files_in t) (links_at es) (above_at es) (links_at es') (above_at es')
      t.entries t.blocks t.entries blocks k f change whole may c.links c.above refl
      (omega (arith, among, old, new)) (omega (arith, among, old, new, room, whole.blocks)))
