use Rattle.std.proofs.Common.{ℕ, ◌<◌, ◌^◌, sym, ap, subst, ◌∙◌, arith}
use Rattle.std.specs.Prelude.{IsTrue}
use Rattle.std.specs.List.{All}
use Rattle.fs_spec.specs.Trees.{IsBody, IsFileTree}
use Rattle.fs_spec.specs.Changes.Limits.{block_count, entry_count, has_room}
use Rattle.nfs_count_laws.specs.nfs_laws.Sizes.Bounds.{AreWords}
use Rattle.tree_rules.specs.inodes.Inodes.{file_in, files_of}
use Rattle.tree_rules.specs.inodes.declared.inode.Inode.{Inode}
use Rattle.inode_table.proofs.GivenInodes.{bodies}
use Rattle.inode_table.proofs.table.InodeTable.of_inodes.Goals as goal

pub total_usage-requires-clause-bodies : goal.total_usage-requires-clause-bodies
total_usage-requires-clause-bodies c =
    subst (All (λ (e : ℕ × Inode). IsBody (file_in e.1).body)) (sym c.deref.ensures.value)
    (bodies c.args.fsid c.args.next c.args.inodes.items c.requires.rising c.requires.tree)

pub invariant_of-result : goal.invariant_of-result
invariant_of-result c =
    let files = c.in_ok-linked_inodes.ensures.files c.args.fsid c.args.next in
    let low : c.args.next < 2 ^ 32 = omega (arith, c.ranges.next.fits) in
    let usage = rw c.unwrap-usage.ensures at (c.total_usage.ensures.room c.args.fsid c.args.next low) in
    record {
      tree = subst IsFileTree (sym files) c.requires.tree;
      room = subst (λ w. IsTrue (has_room w)) (sym files) c.requires.room;
      words = subst AreWords (sym files) c.requires.words;
      counted = c.in_ok-linked_inodes.ensures.counted c.args.fsid c.args.next;
      entries =
          usage.1 ∙ ap (λ l. entry_count (files_of c.args.fsid c.args.next l)) c.deref.ensures.value
          ∙ ap entry_count (sym files);
      blocks =
          usage.2 ∙ ap (λ l. block_count (files_of c.args.fsid c.args.next l)) c.deref.ensures.value
          ∙ ap block_count (sym files);
    }

-- the inodes with their links counted are of the same files
pub returns : goal.returns
returns c = c.in_ok-linked_inodes.ensures.files c.args.fsid c.args.next
