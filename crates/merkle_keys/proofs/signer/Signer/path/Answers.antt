use Rattle.std.proofs.Common.{◌≡◌, ◌+◌, ◌-◌, ◌*◌, ◌^◌, ◌<◌, [], length, refl, ◌∙◌, arith, rules}
use Rattle.std.proofs.lemmas.List.{get_or_read_under, append-nil}
use Rattle.std.specs.Prelude.{vec_len}
use Rattle.merkle_keys.proofs.StoredTrees.{level_hash_at}
use Rattle.merkle_keys.proofs.Paths.{sibling-lt, above_level, authentication_path_more}
use Rattle.merkle_keys.proofs.Paths.{authentication_path_none}
use Rattle.merkle_keys.proofs.signer.Signer.path.Goals as goal

pub overflow_add-first : goal.overflow_add-first
overflow_add-first c =
    let double = above_level c.loop-level._level c.self.inside.height c.loop-level-test.true in
    let half = 2 ^ (c.self.inside.height - (c.loop-level._level + 1)) in
    let low : c.sibling.result
    < 2 * half =
    rw c.sibling.ensures (sibling-lt c.loop-level.place half
    (omega (arith, c.loop-level.invariant.place))) in
    omega (
      arith,
      c.loop-level.invariant.first,
      c.leaf_count-leaves.ensures.few,
      c.leaf_count-leaves.ensures.leaves,
    )

pub add_hash-requires : goal.add_hash-requires
add_hash-requires c =
    omega (arith, c.loop-level.invariant.len, c.loop-level.invariant.room, c.self.invariant.low)

pub index-requires : goal.index-requires
index-requires c =
    let double = above_level c.loop-level._level c.self.inside.height c.loop-level-test.true in
    let half = 2 ^ (c.self.inside.height - (c.loop-level._level + 1)) in
    let low : c.sibling.result
    < 2 * half =
    rw c.sibling.ensures (sibling-lt c.loop-level.place half
    (omega (arith, c.loop-level.invariant.place))) in
    let count : vec_len c.self.inside.hashes ≡ length c.self.inside.hashes.items = search rules in
    omega (arith, c.loop-level.invariant.first, c.self.invariant.tree.count, count)

pub loop-level-preserved : goal.loop-level-preserved
loop-level-preserved c =
    let double = above_level c.loop-level._level c.self.inside.height c.loop-level-test.true in
    let half = 2 ^ (c.self.inside.height - (c.loop-level._level + 1)) in
    let low : c.loop-level.place < 2 * half = omega (arith, c.loop-level.invariant.place) in
    let low_beside : c.sibling.result < 2 * half =
    rw c.sibling.ensures (sibling-lt c.loop-level.place half low) in
    let xs = c.self.inside.hashes.items in
    let read = get_or_read_under xs (c.loop-level.first + c.sibling.result) (length xs) _ [] c.index.ensures
    (omega (arith, c.loop-level.invariant.first, c.self.invariant.tree.count)) refl in
    let own = rw c.sibling.ensures at
    (read ∙ level_hash_at _ _ _ c.self.invariant.tree c.loop-level._level _ _ c.loop-level-test.true
    c.loop-level.invariant.first (omega (arith, double))) in
    record {
      first = omega (arith, c.loop-level.invariant.first, c.leaf_count-leaves.ensures.leaves);
      place = omega (arith, low);
      front = rw c.add_hash.ensures.items
          (authentication_path_more _ _ _ _ _ _ _ c.loop-level-test.true c.loop-level.invariant.front own);
      len = omega (arith, c.add_hash.ensures.len, c.loop-level.invariant.len);
      room = omega (arith, c.add_hash.ensures.capacity, c.loop-level.invariant.room);
    }

-- after all levels the path is whole
pub returns : goal.returns
returns c =
    let none : c.self.inside.height - c.loop-level._level ≡ 0 = omega arith in
    let whole = rw (none, authentication_path_none, append-nil) at c.loop-level.invariant.front in
    rw (← c.self.view_is) whole
