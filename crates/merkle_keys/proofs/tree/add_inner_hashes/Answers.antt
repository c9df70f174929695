use Rattle.std.proofs.Common.{◌≡◌, ◌+◌, ◌*◌, ◌-◌, [], length, get_or, length-append, refl, arith}
use Rattle.std.proofs.lemmas.List.{get_or_read_under}
use Rattle.merkle_keys.specs.Tree.{inner_hash}
use Rattle.merkle_keys.proofs.StoredTrees.{no_inner, more_inner}
use Rattle.merkle_keys.proofs.tree.add_inner_hashes.Goals as goal

pub loop-n-init : goal.loop-n-init
loop-n-init c =
    record { count = omega (arith, c.requires.leaves); tree = λ master whole. no_inner _ _ _ whole }

pub loop-n-preserved : goal.loop-n-preserved
loop-n-preserved c =
    let xs = c.loop-n.hashes.items in
    let left = get_or_read_under xs (2 * c.loop-n.n) (length xs) _ [] c.index.ensures
    (omega (arith, c.loop-n.invariant.count)) refl in
    let right = get_or_read_under xs (2 * c.loop-n.n + 1) (length xs) _ [] c.index-in-loop-n.ensures
    (omega (arith, c.loop-n.invariant.count)) refl in
    let own : c.inner_hash-hash.result
    ≡ inner_hash (get_or xs (2 * c.loop-n.n) []) (get_or xs (2 * c.loop-n.n + 1) []) =
    rw (← left, ← right) c.inner_hash-hash.ensures in
    record {
      count = rw c.in_ok-push.ensures.items (simp length-append (omega (arith, c.loop-n.invariant.count)));
      tree = λ master whole. rw c.in_ok-push.ensures.items
          (more_inner master _ _ _ _ (omega arith) (c.loop-n.invariant.tree master whole) own);
    }

-- after as many inner hashes as leaves less one the tree is whole
pub returns : goal.returns
returns c =
    let all : c.loop-n.n ≡ c.args.leaves - 1 = omega arith in
    rw (← all) c.loop-n.invariant.tree
