use Rattle.std.proofs.Common.{◌≡◌, ◌++◌, take}
use Rattle.std.specs.List.{flat_map}
use Rattle.xdr.specs.Item.{spelling}
use Rattle.authenticator.specs.Roster.{member_item, member_value}
use Rattle.authenticator.proofs.roster.add_each.Given as goal

abbrev pub invariant-loop-member : goal.invariant-loop-member
invariant-loop-member l =
    l.out.items ≡ l.initial.out.items
    ++ flat_map (λ m. spelling member_item (member_value m)) (take l.member-index l.members)
