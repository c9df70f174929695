use Rattle.std.proofs.Common.{ℕ, ◌<◌, ◌≤◌, length, arith, sym, subst, ◌∙◌}
use Rattle.tree_rules.specs.FileRules.Rules.{AreRising, IsAt}
use Rattle.inodes.specs.Inodes.{file_in}
use Rattle.inodes.specs.declared.inode.Inode.{Inode}
use Rattle.tree_rules.specs.Listed.{files_in}
use Rattle.tree_rules.proofs.Seen.{at_inode, length_files, same_numbers}
use Rattle.tree_rules.proofs.Totals.{many_files, much_more, usage_more, entries_counted, blocks_counted}
use Rattle.tree_rules.proofs.Totals.{entries_all, blocks_all, has_room_for_all}
use Rattle.tree_rules.proofs.limits.total_usage.Goals as goal

pub returns-then-inodes-gt-MAX_FILES-clause-room : goal.returns-then-inodes-gt-MAX_FILES-clause-room
returns-then-inodes-gt-MAX_FILES-clause-room c = λ fsid next low.
    many_files fsid next (files_in c.args.inodes.now)
    (subst AreRising (same_numbers c.args.inodes.now) c.requires.rising)
    (omega (arith, length_files c.args.inodes.now))

pub returns-in_err-usage-clause-room : goal.returns-in_err-usage-clause-room
returns-in_err-usage-clause-room c = λ fsid next low.
    let i = c.loop-inode.inode-index in
    let inside : i < length c.args.inodes.now = omega arith in
    let e : ℕ × Inode = c.loop-inode-item.result in
    let at =
    subst (λ (x : ℕ × Inode). IsAt (files_in c.args.inodes.now) i x.0 (file_in x.1))
    (sym c.loop-inode-item.is) (at_inode c.args.inodes.now i e inside) in
    rw c.from_residual.ensures
    (much_more fsid next (files_in c.args.inodes.now)
    (subst AreRising (same_numbers c.args.inodes.now) c.requires.rising) i e.0 (file_in e.1) at
    c.loop-inode.usage.entries c.loop-inode.usage.blocks c.loop-inode.invariant c.in_err-usage.ensures.cases)

pub loop-inode-preserved : goal.loop-inode-preserved
loop-inode-preserved c =
    let i = c.loop-inode.inode-index in
    let inside : i < length c.args.inodes.now = omega arith in
    let e : ℕ × Inode = c.loop-inode-item.result in
    let at =
    subst (λ (x : ℕ × Inode). IsAt (files_in c.args.inodes.now) i x.0 (file_in x.1))
    (sym c.loop-inode-item.is) (at_inode c.args.inodes.now i e inside) in
    let cases = c.in_ok-usage.ensures.cases in
    usage_more i (files_in c.args.inodes.now) e.0 (file_in e.1) at
    c.loop-inode.usage.entries c.loop-inode.usage.blocks c.in_ok-usage.usage.entries
    c.in_ok-usage.usage.blocks c.loop-inode.invariant
    cases.0 cases.1 cases.2 cases.3 c.in_ok-usage.ensures.cookie

pub returns-clause-room : goal.returns-clause-room
returns-clause-room c = λ fsid next low.
    let i = c.loop-inode.inode-index in
    let es = files_in c.args.inodes.now in
    let up = subst AreRising (same_numbers c.args.inodes.now) c.requires.rising in
    let ge : length es ≤ i = omega (arith, length_files c.args.inodes.now) in (
      has_room_for_all fsid next es up i c.loop-inode.usage.entries c.loop-inode.usage.blocks ge
          c.loop-inode.invariant (omega (arith, length_files c.args.inodes.now)) low,
      entries_all fsid next es up i c.loop-inode.usage.entries c.loop-inode.usage.blocks ge
          c.loop-inode.invariant ∙ sym (entries_counted fsid next es up),
      blocks_all fsid next es up i c.loop-inode.usage.entries c.loop-inode.usage.blocks ge
          c.loop-inode.invariant ∙ sym (blocks_counted fsid next es up),
    )
