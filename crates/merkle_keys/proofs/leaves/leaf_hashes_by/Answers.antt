use Rattle.std.proofs.Common.{◌≡◌, List, ℕ, length, arith, sym, subst}
use Rattle.std.proofs.lemmas.List.{take_at}
use Rattle.merkle_keys.specs.StoredTree.{HoldsLeaves}
use Rattle.merkle_keys.proofs.StoredTrees.{leaves_of_each}
use Rattle.merkle_keys.proofs.leaves.leaf_hashes_by.Goals as goal

-- what is set is the whole vector
pub returns : goal.returns
returns g c =
    let set = c.set_leaves_by.new.hashes in
    let old : length c.deref_mut.result.now ≡ c.args.leaves =
    omega (arith, c.deref_mut.ensures.len, c.in_ok-resize.ensures.len) in
    let count : length set ≡ c.args.leaves = omega (arith, c.set_leaves_by.auto.hashes) in
    let size : length set ≡ c.resize.new.self.len = omega (arith, c.in_ok-resize.ensures.len) in
    let whole = leaves_of_each c.args.keys.now.master c.args.leaves set count
    (λ k h. c.set_leaves_by.ensures k (omega arith)) in
    subst (λ (l : List (List ℕ)). HoldsLeaves c.args.keys.now.master c.args.leaves l)
    (sym (take_at set _ c.resize.new.self.len size)) whole
