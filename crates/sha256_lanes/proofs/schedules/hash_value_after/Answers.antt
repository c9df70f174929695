use Rattle.std.proofs.Common.{◌*◌, List, ℕ, take, drop, refl, sym, ap, ◌∙◌, arith}
use Rattle.sha2.specs.Sha256.{compress, hash_after}
use Rattle.sha2.proofs.Absorbing256.{hash_after_next}
use Rattle.sha256_lanes.proofs.schedules.hash_value_after.Goals as goal

-- before the first block stands the hash value that is given
pub lanes-init : goal.lanes-init
unfolding hash_after
lanes-init c = refl

-- the next block's is that after it
pub lanes-preserved : goal.lanes-preserved
lanes-preserved c =
    let l = c.lanes.l in
    let blocks = c.args.blocks.now in
    let b = take 64 (drop (l * 64) blocks) in
    let block = c.words_of_blocks.ensures l (omega arith) in
    c.lane_hash_value-next.ensures b (c.schedules-sums.ensures l b (omega arith) block)
    ∙ ap (λ (h : List ℕ). compress h b) c.lanes.invariant ∙ sym (hash_after_next c.args.hash blocks l)
