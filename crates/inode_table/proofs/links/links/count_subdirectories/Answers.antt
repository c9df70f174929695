use Rattle.std.proofs.Common.{◌≡◌, ℕ, ◌+◌, ◌<◌, ◌≤◌, Bool, true, false, cond, [], length, take, arith}
use Rattle.std.proofs.Common.{add-zero, sym, ap, ◌∙◌}
use Rattle.std.specs.Prelude.{count_by}
use Rattle.std.proofs.lemmas.List.{take_all}
use Rattle.std.proofs.lemmas.List.Sums.{sum_by_more}
use Rattle.fs_spec.specs.Listing.{NamedEntry}
use Rattle.nfs_count_laws.specs.nfs_spec.FileAttributes.{is_directory_at}
use Rattle.tree_rules.specs.inodes.Inodes.{files_of}
use Rattle.inode_table.proofs.links.links.count_subdirectories.Goals.{then-is_directory_at}
use Rattle.inode_table.proofs.links.links.count_subdirectories.Goals.{else-is_directory_at}
use Rattle.inode_table.proofs.links.links.count_subdirectories.Goals as goal

-- a test counts one at most
one_at_most : (m n at : ℕ) (b : Bool) → m ≡ n + cond b 1 0 → n ≤ at → m ≤ at + 1
one_at_most m n at true is le = omega (arith, is)
one_at_most m n at false is le = omega (arith, is)

pub loop-at-preserved : goal.loop-at-preserved
loop-at-preserved c =
    let entries = c.args.listing.now.entries in
    let counts : ◌≡◌ {A = ℕ} c.if-is_directory_at.count
    (c.loop-at.count + cond c.is_directory_at.result 1 0) = elim c.if-is_directory_at.branch [
      | then-is_directory_at w ↦ w.count-is ∙ ap (λ b. c.loop-at.count + cond b 1 0)
          (sym w.if-is_directory_at.true)
      | else-is_directory_at w ↦ w.count-is ∙ sym (add-zero c.loop-at.count)
          ∙ ap (λ b. c.loop-at.count + cond b 1 0) (sym w.if-is_directory_at.false)
    ] in
    let inside : c.loop-at.at < length entries = omega arith in
    record {
      counted = λ fsid next.
          let fs = files_of fsid next c.args.inodes.now in
          counts ∙ ap (λ m. m + cond c.is_directory_at.result 1 0) (c.loop-at.invariant.counted fsid next)
          ∙ ap (λ b. count_by (λ (e : NamedEntry). is_directory_at fs e.1.0) (take c.loop-at.at entries)
          + cond b 1 0) (c.is_directory_at.ensures fsid next
          ∙ ap (is_directory_at fs) (sym (c.number_in.ensures ([], (0, 0)))))
          ∙ sym (sum_by_more (λ (e : NamedEntry). cond (is_directory_at fs e.1.0) 1 0) entries c.loop-at.at
          ([], (0, 0)) inside);
      few =
          one_at_most c.if-is_directory_at.count c.loop-at.count c.loop-at.at c.is_directory_at.result counts
          c.loop-at.invariant.few;
    }

pub returns-clause-value : goal.returns-clause-value
returns-clause-value c = λ fsid next.
    c.loop-at.invariant.counted fsid next ∙ ap
    (count_by (λ e. is_directory_at (files_of fsid next c.args.inodes.now) e.1.0))
    (take_all c.loop-at.at c.args.listing.now.entries (omega arith))
