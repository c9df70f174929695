use Rattle.std.proofs.Common.{◌<◌, length, get_or, arith, sym, ◌∙◌}
use Rattle.std.proofs.lemmas.Bool.{false≢true}
use Rattle.inodes.specs.Inodes.{file_in}
use Rattle.tree_rules.proofs.Seen.{at_inode, inode_of_place, have_more}
use Rattle.tree_rules.proofs.rules.have_names.Goals as goal

pub returns-then-not-may_have : goal.returns-then-not-may_have
returns-then-not-may_have c = λ may.
    let inside : c.loop-place.place < length c.args.inodes.now = omega arith in
    let e = get_or c.args.inodes.now c.loop-place.place c.index-inodes-place.result in
    false≢true (c.if-not-may_have.ensures ∙ may c.loop-place.place e.0 (file_in e.1)
    (at_inode c.args.inodes.now c.loop-place.place c.index-inodes-place.result inside))

pub loop-place-preserved : goal.loop-place-preserved
loop-place-preserved c =
    let inside : c.loop-place.place < length c.args.inodes.now = omega arith in
    have_more c.loop-place.place c.args.inodes.now c.args.names.now c.index-inodes-place.result inside
    (sym c.if-not-may_have.ensures) c.loop-place.invariant

-- after the last place each has names as it may
pub returns : goal.returns
returns c =
    λ k n f at. let r = inode_of_place c.args.inodes.now k n f at in
    c.loop-place.invariant k n f (omega (arith, r.1)) at
