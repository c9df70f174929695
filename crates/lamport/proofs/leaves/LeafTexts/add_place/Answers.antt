use Rattle.std.proofs.Common.{ℕ, ◌<◌, List, [], ◌∷◌, ◌++◌, get_or, slice_index, refl, arith}
use Rattle.lamport.specs.LeafTexts.{HoldsText}
use Rattle.lamport.specs.declared.leaves.LeafTexts.{LeafTexts}
use Rattle.lamport.proofs.FourLeaves.{each_lane, one_more_place}
use Rattle.lamport.proofs.leaves.LeafTexts.add_place.Goals as goal

-- each lane's block follows, and the last byte of its second hash
pub returns : goal.returns
returns c = λ l m lane held.
    let zero = λ (l : ℕ). get_or c.args.zeros.now l [] in
    let one = λ (l : ℕ). get_or c.args.ones.now l [] in
    let last = λ (l : ℕ). slice_index (one l) 31 in
    let next : LeafTexts =
    record { blocks = c.update.new.self; last = last 0 ∷ last 1 ∷ last 2 ∷ last 3 ∷ [] } in
    let grown = λ (l : ℕ) (low : l < 4) (w : List ℕ). c.update.ensures l w low in
    let place = λ (l : ℕ). one_more_place c.args.self.now next l m in
    each_lane (λ (l : ℕ). HoldsText c.args.self.now l m → HoldsText next l (m ++ (zero l ++ one l)))
    (place 0 c.next_block.result (zero 0) (one 0) (grown 0 (omega arith)) refl c.next_block.ensures)
    (place 1 c.next_block-2.result (zero 1) (one 1) (grown 1 (omega arith)) refl c.next_block-2.ensures)
    (place 2 c.next_block-3.result (zero 2) (one 2) (grown 2 (omega arith)) refl c.next_block-3.ensures)
    (place 3 c.next_block-4.result (zero 3) (one 3) (grown 3 (omega arith)) refl c.next_block-4.ensures)
    l lane held
