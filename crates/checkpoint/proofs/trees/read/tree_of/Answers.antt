use Rattle.std.proofs.Common.{◌<◌, ◌^◌, ℕ, arith, sym, ap, subst, ◌∙◌}
use Rattle.std.specs.Prelude.{IsTrue}
use Rattle.std.specs.List.{All}
use Rattle.nfs_laws.specs.fs_spec.Trees.{IsFileTree}
use Rattle.nfs_laws.specs.fs_spec.Changes.Limits.{has_room}
use Rattle.nfs_laws.specs.Sizes.Bounds.{HasWords}
use Rattle.file_tree.specs.tree_rules.FileRules.Rules.{AreFiles, files_listed}
use Rattle.inodes.specs.Inodes.{file_in}
use Rattle.inodes.specs.declared.inode.Inode.{Inode}
use Rattle.file_tree.specs.tree_rules.Listed.{files_in}
use Rattle.checkpoint.proofs.OfTrees.GivenTrees.{are_files, tree_alone, not_refused, rising, words}
use Rattle.checkpoint.proofs.trees.read.tree_of.Goals as goal

pub returns-in_default : goal.returns-in_default
returns-in_default c = λ served. (rw c.in_default.is at c.in_ok-inodes.ensures)
    (tree_alone c.args.node c.args.next _ served)

pub are_served-requires : goal.are_served-requires
are_served-requires c =
    let kept = rw c.in-Some.is at c.in_ok-inodes.ensures in
    let same = ap files_in c.deref.ensures.value ∙ kept.0 in (
      c.args.next,
      subst (AreFiles c.args.next) (sym same)
          (are_files c.args.next c.args.parts.now c.requires kept.1),
    )

pub returns-then-not-branch : goal.returns-then-not-branch
returns-then-not-branch c = λ served.
    let kept = rw c.in-Some.is at c.in_ok-inodes.ensures in
    let same = ap files_in c.deref.ensures.value ∙ kept.0 in
    let low : c.args.next < 2 ^ 32 = omega (arith, c.ranges.next.fits) in
    let each = subst (AreFiles c.args.next) (sym same)
    (are_files c.args.next c.args.parts.now c.requires kept.1) in
    not_refused _ _ _ (c.in_ok-are_served.ensures c.args.node c.args.next low each) c.if-not-branch.true
    (subst (λ es. IsFileTree (files_listed c.args.node c.args.next es)) (sym same) served.tree)
    (subst (λ es. IsTrue (has_room (files_listed c.args.node c.args.next es))) (sym same) served.room)

pub of_inodes-requires-clause-rising : goal.of_inodes-requires-clause-rising
of_inodes-requires-clause-rising c =
    let kept = rw c.in-Some.is at c.in_ok-inodes.ensures in
    rising c.args.next c.in-Some.inodes.items (subst (AreFiles c.args.next) (sym kept.0)
    (are_files c.args.next c.args.parts.now c.requires kept.1))

pub of_inodes-requires-clause-tree : goal.of_inodes-requires-clause-tree
of_inodes-requires-clause-tree c =
    let kept = rw c.in-Some.is at c.in_ok-inodes.ensures in
    let lent = ap files_in c.deref.ensures.value in
    let low : c.args.next < 2 ^ 32 = omega (arith, c.ranges.next.fits) in
    let each = subst (AreFiles c.args.next) (sym (lent ∙ kept.0))
    (are_files c.args.next c.args.parts.now c.requires kept.1) in
    let served = (c.in_ok-are_served.ensures c.args.node c.args.next low each).0 c.if-not-branch.false in
    subst (λ es. IsFileTree (files_listed c.args.node c.args.next es)) lent served.0

pub of_inodes-requires-clause-room : goal.of_inodes-requires-clause-room
of_inodes-requires-clause-room c =
    let kept = rw c.in-Some.is at c.in_ok-inodes.ensures in
    let lent = ap files_in c.deref.ensures.value in
    let low : c.args.next < 2 ^ 32 = omega (arith, c.ranges.next.fits) in
    let each = subst (AreFiles c.args.next) (sym (lent ∙ kept.0))
    (are_files c.args.next c.args.parts.now c.requires kept.1) in
    let served = (c.in_ok-are_served.ensures c.args.node c.args.next low each).0 c.if-not-branch.false in
    subst (λ es. IsTrue (has_room (files_listed c.args.node c.args.next es))) lent served.1

pub of_inodes-requires-clause-words : goal.of_inodes-requires-clause-words
of_inodes-requires-clause-words c =
    let kept = rw c.in-Some.is at c.in_ok-inodes.ensures in
    let each = subst (AreFiles c.args.next) (sym kept.0)
    (are_files c.args.next c.args.parts.now c.requires kept.1) in
    let low : c.args.node < 2 ^ 32 = omega (arith, c.ranges.node.fits) in
    words c.args.node c.args.next c.in-Some.inodes.items each.rising low
    (subst (All (λ (e : ℕ × Inode). HasWords (file_in e.1))) c.deref-2.ensures.value c.have_words.ensures)
