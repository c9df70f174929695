use Rattle.std.proofs.Common.{◌≡◌, true, sym, ◌∙◌, subst}
use Rattle.std.specs.List.{list_all}
use Rattle.host_keys.specs.Beginnings.{may_follow}
use Rattle.host_keys.proofs.SpentLaws.{true_false}
use Rattle.host_keys.proofs.Steps.{same_value}
use Rattle.host_keys.proofs.spent.Spent.add_line.Goals as goal

pub returns-then-not-may_begin-clause-only : goal.returns-then-not-may_begin-clause-only
returns-then-not-may_begin-clause-only c b may e =
    let same = same_value c.in-Some.is (c.read.ensures.only b may.is e) in
    let of_b : list_all (λ a. may_follow a b) c.deref.result.now ≡ true =
    subst (λ s. list_all (λ a. may_follow a b) s ≡ true) (sym (c.deref.ensures.value
    ∙ c.self.view_is)) may.after in
    let of_read : list_all (λ a. may_follow a c.in-Some.begun) c.deref.result.now ≡ true =
    subst (λ x. list_all (λ a. may_follow a x) c.deref.result.now ≡ true) (sym same) of_b in
    absurd (true_false (sym of_read ∙ sym c.may_begin.ensures ∙ c.if-not-may_begin.true))
