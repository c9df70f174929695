use Rattle.std.proofs.Common.{◌≡◌, ◌<◌, None, ap, sym, ◌∙◌, subst, arith}
use Rattle.host_keys.specs.Beginnings.{number_begun}
use Rattle.host_keys.specs.Spent.{greatest, least_from}
use Rattle.host_keys.proofs.SpentLaws.{fresh, may_begin, nearest_known, next_is, none_from}
use Rattle.host_keys.proofs.spent.Spent.next_epoch.Goals as goal

pub returns-in_err-next-clause-none : goal.returns-in_err-next-clause-none
returns-in_err-next-clause-none c =
    let g : c.greatest.result ≡ greatest c.args.self.now = c.greatest.ensures ∙ ap greatest c.begun.ensures in
    let e : least_from (greatest c.args.self.now) None c.args.rosters.now ≡ None =
    subst (λ n. least_from n None c.args.rosters.now ≡ None) g (sym c.least_after.ensures
    ∙ c.in_err-next.was) in
    let none = (none_from (greatest c.args.self.now) None c.args.rosters.now e).1 in
    rw c.from_residual.ensures none

pub node_begun-requires-clause-epoch : goal.node_begun-requires-clause-epoch
node_begun-requires-clause-epoch c =
    let is = next_is c.args.self.now c.args.rosters.now c.greatest.result c.least_after.result
    c.in_ok-next.next
    (c.greatest.ensures ∙ ap greatest c.begun.ensures) c.least_after.ensures c.in_ok-next.was in
    omega (arith, is.after)

pub returns-clause-next : goal.returns-clause-next
returns-clause-next c =
    let is = next_is c.args.self.now c.args.rosters.now c.greatest.result c.least_after.result
    c.in_ok-next.next
    (c.greatest.ensures ∙ ap greatest c.begun.ensures) c.least_after.ensures c.in_ok-next.was in
    record {
      roster = c.in_ok-next.next;
      is = c.node_begun.ensures.value;
      known = nearest_known (greatest c.args.self.now) c.args.rosters.now c.in_ok-next.next is;
      after = is.after;
      least = is.least;
    }

pub returns-clause-may : goal.returns-clause-may
returns-clause-may c =
    let is = next_is c.args.self.now c.args.rosters.now c.greatest.result c.least_after.result
    c.in_ok-next.next
    (c.greatest.ensures ∙ ap greatest c.begun.ensures) c.least_after.ensures c.in_ok-next.was in
    may_begin c.args.self.now c.node_begun.result c.node_begun.ensures.is
    (subst (λ b. greatest c.args.self.now < number_begun b) (sym c.node_begun.ensures.value) is.after)

pub returns-clause-fresh : goal.returns-clause-fresh
returns-clause-fresh c =
    let is = next_is c.args.self.now c.args.rosters.now c.greatest.result c.least_after.result
    c.in_ok-next.next
    (c.greatest.ensures ∙ ap greatest c.begun.ensures) c.least_after.ensures c.in_ok-next.was in
    let may = may_begin c.args.self.now c.node_begun.result c.node_begun.ensures.is
    (subst (λ b. greatest c.args.self.now < number_begun b) (sym c.node_begun.ensures.value) is.after) in
    fresh c.args.self.now c.node_begun.result may.after
