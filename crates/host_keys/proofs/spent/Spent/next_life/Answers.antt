use Rattle.std.proofs.Common.{◌≡◌, Some, None, ap, sym, ◌∙◌, false}
use Rattle.host_keys.specs.Spent.{first_fault, has_begun}
use Rattle.host_keys.proofs.SpentLaws.{fresh, may_begin_beside, none_if, refuses}
use Rattle.host_keys.proofs.spent.Spent.next_life.Goals as goal

pub returns-in-Some-clause-refused : goal.returns-in-Some-clause-refused
returns-in-Some-clause-refused c =
    let e : first_fault c.args.roster.now c.args.self.now ≡ Some c.in-Some.fault =
    sym (ap (first_fault c.args.roster.now) c.begun.ensures) ∙ sym c.first_fault.ensures ∙ c.in-Some.is in
    refuses c.args.self.now c.args.first c.args.last c.args.roster.now c.in-Some.fault e

pub returns-in-Some-first_free-clause-next : goal.returns-in-Some-first_free-clause-next
returns-in-Some-first_free-clause-next c = record {
  node = c.in-Some-first_free.node;
  is = c.node_begun.ensures.value;
  within = c.in-Some-first_free.ensures.within;
  least = λ n low below. ap (λ bs. has_begun bs c.args.roster.now.epoch n) (sym c.begun-2.ensures)
      ∙ c.in-Some-first_free.ensures.least n low below;
}

pub returns-in-Some-first_free-clause-may : goal.returns-in-Some-first_free-clause-may
returns-in-Some-first_free-clause-may c =
    let none : first_fault c.args.roster.now c.args.self.now ≡ None =
    sym (ap (first_fault c.args.roster.now) c.begun.ensures) ∙ sym c.first_fault.ensures
    ∙ none_if c.first_fault.result c.in_default.not-Some in
    let free : has_begun c.args.self.now c.args.roster.now.epoch c.in-Some-first_free.node ≡ false =
    ap (λ bs. has_begun bs c.args.roster.now.epoch c.in-Some-first_free.node) (sym c.begun-2.ensures)
    ∙ c.in-Some-first_free.ensures.free in
    may_begin_beside c.args.self.now c.args.roster.now c.in-Some-first_free.node c.node_begun.result
    c.node_begun.ensures.value c.node_begun.ensures.is none free

pub returns-in-Some-first_free-clause-fresh : goal.returns-in-Some-first_free-clause-fresh
returns-in-Some-first_free-clause-fresh c =
    let none : first_fault c.args.roster.now c.args.self.now ≡ None =
    sym (ap (first_fault c.args.roster.now) c.begun.ensures) ∙ sym c.first_fault.ensures
    ∙ none_if c.first_fault.result c.in_default.not-Some in
    let free : has_begun c.args.self.now c.args.roster.now.epoch c.in-Some-first_free.node ≡ false =
    ap (λ bs. has_begun bs c.args.roster.now.epoch c.in-Some-first_free.node) (sym c.begun-2.ensures)
    ∙ c.in-Some-first_free.ensures.free in
    let may = may_begin_beside c.args.self.now c.args.roster.now c.in-Some-first_free.node c.node_begun.result
    c.node_begun.ensures.value c.node_begun.ensures.is none free in
    fresh c.args.self.now c.node_begun.result may.after

pub returns-in-None-clause-refused : goal.returns-in-None-clause-refused
returns-in-None-clause-refused c =
    let none : first_fault c.args.roster.now c.args.self.now ≡ None =
    sym (ap (first_fault c.args.roster.now) c.begun.ensures) ∙ sym c.first_fault.ensures
    ∙ none_if c.first_fault.result c.in_default.not-Some in (
      none,
      λ n low high. ap (λ bs. has_begun bs c.args.roster.now.epoch n) (sym c.begun-2.ensures)
          ∙ c.in-None.ensures.none n low high,
    )
