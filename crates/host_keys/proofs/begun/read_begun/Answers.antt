use Rattle.std.proofs.Common.{◌≡◌, ◌∷◌, ◌++◌, List, ℕ, Option, Some, codes, refl, ap, sym, ◌∙◌, rules}
use Rattle.host_keys.specs.Lines.{TakesOnly}
use Rattle.host_keys.specs.Beginnings.{IsBegun, IsBegunNode, begun_node_words, begun_words}
use Rattle.host_keys.specs.declared.begun.Begun.{Begun}
use Rattle.host_keys.specs.declared.begun.Begun.TheVariants.{Node, Run}
use Rattle.host_keys.proofs.Steps.{none_some, same_first, same_rest, same_value}
use Rattle.host_keys.proofs.begun.read_begun.Goals as goal

-- where the first word is `epoch` the value is a node's, which the words after it say
node_only : (word : List ℕ) (left new after : List (List ℕ)) (r : Option (ℕ × ℕ × List ℕ)) (x : Begun)
    (rest : List (List ℕ)) → word ≡ codes "epoch" → left ≡ word ∷ new
    → TakesOnly IsBegunNode begun_node_words new r after → IsBegun x → left ≡ begun_words x ++ rest
    → (p : ℕ × ℕ × List ℕ) × (r ≡ Some p) × (after ≡ rest) × (x ≡ Node p.0 p.1 p.2)
node_only word left new after r (Node epoch node roster) rest w split only is e =
    let read = only (epoch, node, roster) rest is (same_rest split e) in
    ((epoch, node, roster), read.0, read.1, refl)
node_only word left new after r (Run run) rest w split only is e =
    absurd (let bad : codes "epoch" ≡ codes "run" = sym w ∙ same_first split e in cc)

-- the node that was read is the value's
same_node : {r : Option (ℕ × ℕ × List ℕ)} (q : ℕ × ℕ × List ℕ) {p : ℕ × ℕ × List ℕ} (x : Begun) → r ≡ Some q
    → r ≡ Some p → x ≡ Node p.0 p.1 p.2 → Some (Node q.0 q.1 q.2) ≡ Some x
same_node q x h i e =
    let make : (ℕ × ℕ × List ℕ → Option Begun) = λ n. Some (Node n.0 n.1 n.2) in
    ap make (same_value h i) ∙ sym (ap Some e)

pub returns-in_err-epoch-clause-only : goal.returns-in_err-epoch-clause-only
returns-in_err-epoch-clause-only c x rest is e =
    let w : c.in_ok-word.word.now ≡ codes "epoch" = search rules in
    let found = node_only c.in_ok-word.word.now _ _ _ c.read_node.result x rest w c.in_ok-word.ensures
    c.read_node.ensures.only is e in
    absurd (none_some c.in_err-epoch.was found.1)

pub returns-then-eq-clause-only : goal.returns-then-eq-clause-only
returns-then-eq-clause-only c x rest is e =
    let w : c.in_ok-word.word.now ≡ codes "epoch" = search rules in
    let found = node_only c.in_ok-word.word.now _ _ _ c.read_node.result x rest w c.in_ok-word.ensures
    c.read_node.ensures.only is e in (
      same_node (c.in_ok-epoch.epoch, c.in_ok-epoch.node, c.in_ok-epoch.roster) x c.in_ok-epoch.was found.1
          found.3,
      found.2,
    )
