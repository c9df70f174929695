use Rattle.std.proofs.Common.{◌≡◌, ℕ, ◌+◌, Bool, true, false, List, [], get_or, ap, ◌∙◌, append_assoc, arith}
use Rattle.lamport.specs.Lamport.{LeafKey, leaf_hash, public_hash}
use Rattle.lamport.specs.declared.key.TheConstants.{PLACES}
use Rattle.lamport.proofs.LeafTexts.{leaf_front_none, leaf_front_more, leaf_front_all}
use Rattle.lamport.proofs.FourLeaves.{at_lane, four_lanes}
use Rattle.lamport.proofs.leaves.leaf_hashes.Goals as goal

pub loop-place-init : goal.loop-place-init
loop-place-init c = λ k low. rw leaf_front_none (c.new-texts.ensures k low)

-- a place adds both its public hashes to each leaf's text
pub loop-place-preserved : goal.loop-place-preserved
loop-place-preserved c = λ k low.
    let key : LeafKey = record { master = c.args.master.now; leaf = c.args.first + k } in
    let at = λ (l : List (List ℕ)). get_or l k [] in
    let hash = λ (bit : Bool) (leaf : ℕ).
    public_hash (record { master = c.args.master.now; leaf = leaf }) c.loop-place.place bit in
    let zero = ap at c.public_hashes-zeros.ensures ∙ at_lane (hash false) c.args.first k low in
    let one = ap at c.public_hashes-ones.ensures ∙ at_lane (hash true) c.args.first k low in
    let whole = c.add_place.ensures k _ low (c.loop-place.invariant k low) in
    rw (leaf_front_more, append_assoc, ← zero, ← one) whole

-- after all places each text is its leaf's, and its digest the leaf hash
pub returns : goal.returns
returns c =
    let all : c.loop-place.place ≡ PLACES = omega arith in
    let hash = λ (leaf : ℕ). leaf_hash (public_hash (record { master = c.args.master.now; leaf = leaf })) in
    four_lanes hash c.args.first c.finalize.result (omega arith)
    (λ k low. rw (leaf_front_all, ← all) (c.finalize.ensures k _ low (c.loop-place.invariant k low)))
