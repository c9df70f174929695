use Rattle.std.proofs.Common.{◌∙◌}
use Rattle.replay.proofs.StayingKinds.{kind_stays}
use Rattle.replay.proofs.machine.KindMachineMachine.step.Goals as goal

pub invariant_of-self : goal.invariant_of-self
invariant_of-self g c =
    kind_stays c.args.roster.now c.self.inside.state.state c.step.new.state.state c.args.word
    c.args.before.now c.args.entry.now c.step.result c.step.ensures
    ∙ c.self.invariant
