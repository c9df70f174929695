use Rattle.std.proofs.Common.{◌≡◌, drop}
use Rattle.std.specs.List.{list_all}
use Rattle.host_keys.specs.Beginnings.{may_follow}
use Rattle.host_keys.proofs.spent.may_begin.Given as goal

abbrev pub invariant-loop-earlier : goal.invariant-loop-earlier
invariant-loop-earlier l =
    list_all (λ a. may_follow a l.begun) l.all
    ≡ list_all (λ a. may_follow a l.begun) (drop l.earlier-index l.all)
