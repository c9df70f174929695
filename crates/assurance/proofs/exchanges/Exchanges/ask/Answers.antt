use Rattle.assurance.specs.Passing.{Asked}
use Rattle.assurance.proofs.Passing.{passes_asked, recorded, still_recorded}
use Rattle.assurance.proofs.exchanges.Exchanges.ask.Goals as goal

pub invariant_of-self : goal.invariant_of-self
invariant_of-self g c = record {
  recorded = still_recorded c.args.self.now.server (g.L.WitnessLink.exchanges c.args.self.now.link)
      (g.L.WitnessLink.exchanges c.ask.new.self) c.args.self.now.replies c.in_err-told.ensures.failed
      c.args.self.now.recorded;
}

pub invariant_of-self-2 : goal.invariant_of-self-2
invariant_of-self-2 g c = record {
  recorded = recorded c.args.self.now.server (g.L.WitnessLink.exchanges c.args.self.now.link)
      (g.L.WitnessLink.exchanges c.ask.new.self) c.args.self.now.replies c.note_told.new.self
      (Asked c.args.self.now.server c.in_ok-told.told.is_exposed c.in_ok-told.told.end) c.args.self.now.recorded
      (passes_asked c.args.self.now.server (g.L.WitnessLink.exchanges c.args.self.now.link)
      (g.L.WitnessLink.exchanges c.ask.new.self) c.args.self.now.replies c.note_told.new.self
      c.in_ok-told.told.is_exposed c.in_ok-told.told.end c.in_ok-told.ensures.asked c.note_told.ensures);
}

pub returns-clause-asked : goal.returns-clause-asked
returns-clause-asked g c = (
  c.in_ok-told.told.is_exposed,
  (
    c.in_ok-told.told.end,
    passes_asked c.args.self.now.server (g.L.WitnessLink.exchanges c.args.self.now.link)
        (g.L.WitnessLink.exchanges c.ask.new.self) c.args.self.now.replies c.note_told.new.self
        c.in_ok-told.told.is_exposed c.in_ok-told.told.end c.in_ok-told.ensures.asked c.note_told.ensures,
  ),
)
