use Rattle.assurance.proofs.Passing.{handed_or_not}
use Rattle.assurance.proofs.exchanges.Exchanges.hand_out.Goals as goal

pub invariant_of-self : goal.invariant_of-self
invariant_of-self g c = record {
  recorded = handed_or_not c.args.self.now.server (g.L.WitnessLink.exchanges c.args.self.now.link)
      c.args.self.now.replies c.hand_out.new.self c.args.number c.hand_out.result c.hand_out.ensures.handed
      c.hand_out.ensures.refused c.args.self.now.recorded;
}
