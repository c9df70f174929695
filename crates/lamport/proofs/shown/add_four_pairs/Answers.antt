use Rattle.std.proofs.Common.{◌≡◌, ℕ, ◌+◌, true, false, List, [], ◌∷◌, ◌++◌, get_or, ap, sym, ◌∙◌, subst}
use Rattle.sha256_lanes.specs.OneMessage.{HoldsMessage}
use Rattle.lamport.specs.Lamport.{end_to_end}
use Rattle.lamport.proofs.LeafTexts.{end_to_end_four}
use Rattle.lamport.proofs.shown.add_four_pairs.Goals as goal

-- four pairs, one after the other
pub returns : goal.returns
returns c = λ hash n zeros ones held.
    let both = λ (place : ℕ). hash place false ++ hash place true in
    let so_far : List ℕ = 0 ∷ end_to_end both n in
    let pair = λ (k : ℕ). get_or c.args.zeros.now k [] ++ get_or c.args.ones.now k [] in
    let at = λ (k : ℕ) (l : List (List ℕ)). get_or l k [] in
    let is0 : pair 0 ≡ both n = λ i. ap (at 0) zeros i ++ ap (at 0) ones i in
    let is1 : pair 1 ≡ both (n + 1) = λ i. ap (at 1) zeros i ++ ap (at 1) ones i in
    let is2 : pair 2 ≡ both (n + 2) = λ i. ap (at 2) zeros i ++ ap (at 2) ones i in
    let is3 : pair 3 ≡ both (n + 3) = λ i. ap (at 3) zeros i ++ ap (at 3) ones i in
    let added = c.add_pair-4.ensures _
    (c.add_pair-3.ensures _ (c.add_pair-2.ensures _ (c.add_pair.ensures _ held))) in
    let whole : (((so_far ++ pair 0) ++ pair 1) ++ pair 2) ++ pair 3 ≡ 0 ∷ end_to_end both (n + 4) =
    (λ i. (((so_far ++ is0 i) ++ is1 i) ++ is2 i) ++ is3 i)
    ∙ sym (ap (λ (l : List ℕ). 0 ∷ l) (end_to_end_four both n)) in
    subst (λ (m : List ℕ). HoldsMessage c.add_pair-4.new.text m) whole added
