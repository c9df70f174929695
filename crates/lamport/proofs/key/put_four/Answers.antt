use Rattle.std.proofs.Common.{◌≡◌, ℕ, ◌+◌, List, [], ◌++◌, take, get_or, ap, sym, ◌∙◌, arith}
use Rattle.lamport.specs.Lamport.{end_to_end}
use Rattle.lamport.proofs.LeafTexts.{end_to_end_four}
use Rattle.lamport.proofs.key.put_four.Goals as goal

-- four pieces, one after the other
pub returns : goal.returns
returns c = λ f n same before.
    let start : ℕ = c.args.at in
    let at = λ (k : ℕ). ap (λ (l : List (List ℕ)). get_or l k []) same in
    let e1 : take (start + 32) c.put_32.new.text ≡ end_to_end f n ++ f n =
    c.put_32.ensures ∙ (λ i. before i ++ at 0 i) in
    let p2 : start + 64 ≡ start + 32 + 32 = omega arith in
    let e2 : take (start + 64) c.put_32-2.new.text ≡ (end_to_end f n ++ f n) ++ f (n + 1) =
    ap (λ (k : ℕ). take k c.put_32-2.new.text) p2 ∙ c.put_32-2.ensures ∙ (λ i. e1 i ++ at 1 i) in
    let p3 : start + 96 ≡ start + 64 + 32 = omega arith in
    let e3 : take (start + 96) c.put_32-3.new.text ≡ ((end_to_end f n ++ f n) ++ f (n + 1)) ++ f (n + 2) =
    ap (λ (k : ℕ). take k c.put_32-3.new.text) p3 ∙ c.put_32-3.ensures ∙ (λ i. e2 i ++ at 2 i) in
    let p4 : start + 128 ≡ start + 96 + 32 = omega arith in
    ap (λ (k : ℕ). take k c.put_32-4.new.text) p4 ∙ c.put_32-4.ensures ∙ (λ i. e3 i ++ at 3 i)
    ∙ sym (end_to_end_four f n)
