use Rattle.std.proofs.Common.{ℕ, Bool, false, not, List, [], ◌∷◌, get_or, ap}
use Rattle.lamport.proofs.key.opposite.Goals as goal

-- each of the four bits is the other one
pub returns : goal.returns
returns c = λ bit n held.
    let at = λ (k : ℕ). ap (λ (l : List Bool). not (get_or l k false)) held in
    λ i. at 0 i ∷ at 1 i ∷ at 2 i ∷ at 3 i ∷ []
