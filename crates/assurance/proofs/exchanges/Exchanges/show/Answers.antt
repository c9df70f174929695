use Rattle.assurance.specs.Passing.{Showed}
use Rattle.assurance.proofs.Passing.{passes_showed, recorded, recorded_so, still_recorded, still_stands}
use Rattle.assurance.proofs.exchanges.Exchanges.show.Goals as goal

pub invariant_of-self : goal.invariant_of-self
invariant_of-self g c = record {
  recorded = recorded_so c.args.self.now.server (g.L.WitnessLink.exchanges c.args.self.now.link)
      c.args.self.now.replies c.reserve.new.self
      (λ p s. still_stands c.args.self.now.server p c.args.self.now.replies c.reserve.new.self
      c.reserve.ensures.acknowledged c.reserve.ensures.assurance s) c.args.self.now.recorded;
}

pub invariant_of-self-in-Break-branch-2 : goal.invariant_of-self-in-Break-branch-2
invariant_of-self-in-Break-branch-2 g c = record {
  recorded = still_recorded c.args.self.now.server (g.L.WitnessLink.exchanges c.args.self.now.link)
      (g.L.WitnessLink.exchanges c.show.new.self) c.reserve.new.self c.in_err-answer.ensures.failed
      (recorded_so c.args.self.now.server (g.L.WitnessLink.exchanges c.args.self.now.link)
      c.args.self.now.replies c.reserve.new.self
      (λ p s. still_stands c.args.self.now.server p c.args.self.now.replies c.reserve.new.self
      c.reserve.ensures.acknowledged c.reserve.ensures.assurance s) c.args.self.now.recorded);
}

pub invariant_of-self-2 : goal.invariant_of-self-2
invariant_of-self-2 g c = record {
  recorded = recorded c.args.self.now.server (g.L.WitnessLink.exchanges c.args.self.now.link)
      (g.L.WitnessLink.exchanges c.show.new.self) c.reserve.new.self c.note.new.self
      (Showed c.args.of c.args.signed.now c.in_ok-answer.answer)
      (recorded_so c.args.self.now.server (g.L.WitnessLink.exchanges c.args.self.now.link)
      c.args.self.now.replies c.reserve.new.self
      (λ p s. still_stands c.args.self.now.server p c.args.self.now.replies c.reserve.new.self
      c.reserve.ensures.acknowledged c.reserve.ensures.assurance s) c.args.self.now.recorded)
      (passes_showed c.args.self.now.server (g.L.WitnessLink.exchanges c.args.self.now.link)
      (g.L.WitnessLink.exchanges c.show.new.self) c.reserve.new.self c.note.new.self c.args.of c.args.signed.now
      c.in_ok-answer.answer c.in_ok-answer.ensures.shown c.note.ensures);
}
