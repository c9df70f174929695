use Rattle.assurance.proofs.Passing.{still_recorded}
use Rattle.assurance.proofs.exchanges.Exchanges.hand.Goals as goal

-- nothing passed
pub invariant_of-self : goal.invariant_of-self
invariant_of-self g c = record {
  recorded = still_recorded c.args.self.now.server (g.L.WitnessLink.exchanges c.args.self.now.link)
      (g.L.WitnessLink.exchanges c.hand.new.self) c.args.self.now.replies c.hand.ensures c.args.self.now.recorded;
}
