use Rattle.std.proofs.Common.{refl, []}
use Rattle.assurance.proofs.Passing.{begun}
use Rattle.assurance.proofs.exchanges.Exchanges.begin.Goals as goal

pub invariant_of-result : goal.invariant_of-result
invariant_of-result g c = record {
  recorded = ∣ (
    [],
    begun c.args.server (g.L.WitnessLink.exchanges c.args.link)
        (g.L.WitnessLink.exchanges c.greet.new.self) c.new.result c.requires c.in-Ok.ensures.greeted
        (c.new.ensures c.args.server),
  ) ∣₁;
}

pub returns-in-Ok : goal.returns-in-Ok
returns-in-Ok g c = (
  refl,
  begun c.args.server (g.L.WitnessLink.exchanges c.args.link)
      (g.L.WitnessLink.exchanges c.greet.new.self) c.new.result c.requires c.in-Ok.ensures.greeted
      (c.new.ensures c.args.server),
)
