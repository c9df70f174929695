use Rattle.std.proofs.Common.{◌≡◌, ℕ, List, [], ◌∷◌, slice_index, refl}
use Rattle.lamport.proofs.FourLeaves.{each_lane}
use Rattle.lamport.proofs.leaves.LeafTexts.new.Goals as goal

-- no block, and the byte 0
pub returns : goal.returns
returns c = λ l lane.
    let zeros : List ℕ = 0 ∷ 0 ∷ 0 ∷ 0 ∷ [] in
    record {
      whole = [];
      blocks = c.new.ensures l lane;
      text = each_lane (λ (l : ℕ). 0 ∷ [] ≡ slice_index zeros l ∷ []) refl refl refl refl l lane;
    }
