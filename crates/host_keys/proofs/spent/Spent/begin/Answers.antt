use Rattle.std.proofs.Common.{◌≡◌, true, subst, sym}
use Rattle.std.specs.List.{list_all}
use Rattle.host_keys.specs.Beginnings.{may_follow}
use Rattle.host_keys.specs.Spent.{MayBegin}
use Rattle.host_keys.proofs.SpentLaws.{one_more}
use Rattle.host_keys.proofs.spent.Spent.begin.Goals as goal

pub invariant_of-self-2 : goal.invariant_of-self-2
invariant_of-self-2 c =
    let may : MayBegin c.self.inside.begun.items c.args.begun = record {
      is = c.requires.is;
      after = subst (λ s. list_all (λ a. may_follow a c.args.begun) s
          ≡ true) (sym c.self.view_is) c.requires.after;
    } in
    rw c.in_ok-push.ensures.items (one_more c.self.inside.begun.items c.args.begun c.self.invariant may)
