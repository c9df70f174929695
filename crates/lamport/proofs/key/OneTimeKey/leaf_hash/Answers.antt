use Rattle.std.proofs.Common.{◌≡◌, ℕ, ◌+◌, ◌*◌, true, false, refl, arith}
use Rattle.lamport.specs.Lamport.{public_hash}
use Rattle.lamport.specs.declared.key.TheConstants.{PLACES}
use Rattle.lamport.proofs.LeafTexts.{leaf_front, leaf_front_none, leaf_front_all}
use Rattle.lamport.proofs.key.OneTimeKey.leaf_hash.Goals as goal

pub loop-turn-init : goal.loop-turn-init
loop-turn-init c = rw leaf_front_none c.leaf_start-text.ensures

-- a turn adds the hashes of four places
pub loop-turn-preserved : goal.loop-turn-preserved
unfolding leaf_front
loop-turn-preserved c =
    let n : ℕ = 4 * c.loop-turn.turn in
    let zeros = c.four_hashes-zeros.ensures (λ (place : ℕ). false) refl in
    let ones = c.four_hashes-ones.ensures (λ (place : ℕ). true) refl in
    let next : 4 * (c.loop-turn.turn + 1) ≡ n + 4 = omega arith in
    let whole = c.add_four_pairs.ensures (public_hash c.args.self.now) n zeros ones c.loop-turn.invariant in
    rw next whole

-- after all places the text is the leaf's, and its digest the leaf hash
pub returns : goal.returns
returns c =
    let all : 4 * c.loop-turn.turn ≡ PLACES = omega arith in
    let whole = c.finalize.ensures _ c.loop-turn.invariant in
    rw (leaf_front_all, ← all) whole
