use Rattle.std.proofs.Common.{rules, arith, ◌∙◌, eqb-true, sym}
use Rattle.xdr.specs.Item.{Fits}
use Rattle.witness_service.proofs.Borrowed.{not_same, same_by_text, start, start_item}
use Rattle.witness_service.proofs.key.KeyRefPartialEq.eq.Goals as goal
use Rattle.witness_service.proofs.key.KeyRefPartialEq.eq.Goals.{then-self-other, else-self-other}

-- under one root and height the texts decide
pub returns-then-eq : goal.returns-then-eq
returns-then-eq c = elim c.if-self-other.branch [
  | then-self-other w ↦
      c.eq-then-eq.ensures ∙ same_by_text c.args.self.now c.args.other.now (cc) w.if-self-other.true
  | else-self-other w ↦ absurd (w.if-self-other.false
      (eqb-true c.args.self.now.height c.args.other.now.height (sym w.value-is ∙ c.if-eq.true)))
]

-- under others no keys are the same
pub returns-else-eq : goal.returns-else-eq
returns-else-eq c =
    let fits : Fits start_item (start c.args.self.now) = (omega arith, search rules) in
    let others : Fits start_item (start c.args.other.now) = (omega arith, search rules) in
    c.if-eq.false ∙ not_same c.args.self.now c.args.other.now
    (c.no_spelling_begins_another.ensures start_item) fits others
    (λ root height. elim c.if-self-other.branch [
      | then-self-other w ↦ cc
      | else-self-other w ↦ w.if-self-other.false height
    ])
