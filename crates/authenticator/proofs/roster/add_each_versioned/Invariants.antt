use Rattle.std.proofs.Common.{◌≡◌, ◌++◌, take}
use Rattle.std.specs.List.{flat_map}
use Rattle.xdr.specs.Item.{spelling}
use Rattle.authenticator.specs.Roster.{versioned_item, versioned_value}
use Rattle.authenticator.proofs.roster.add_each_versioned.Given as goal

abbrev pub invariant-loop-member : goal.invariant-loop-member
invariant-loop-member l =
    l.out.items ≡ l.initial.out.items
    ++ flat_map (λ m. spelling versioned_item (versioned_value m)) (take l.member-index l.members)
