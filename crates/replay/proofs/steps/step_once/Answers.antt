use Rattle.std.proofs.Common.{Ok, refl, sym, ap, ◌∙◌}
use Rattle.std.specs.Option.{option_map}
use Rattle.replay.specs.Faults.{fault_in}
use Rattle.replay.proofs.FaultySteps.{faulty, faultless}
use Rattle.replay.proofs.steps.step_once.Goals as goal

pub returns-in-Some : goal.returns-in-Some
returns-in-Some c = (
  faulty c.args.roster.now c.args.state.now.state c.args.word c.args.before.now c.args.entry.now
      (fault_in c.in-Some.fault)
      (sym (ap (option_map fault_in) c.in-Some.is) ∙ c.in_ok-fault.ensures),
  refl,
)

-- an entry without a fault is taken
pub returns : goal.returns
returns c =
    faultless c.args.roster.now c.args.state.now.state c.args.word c.args.before.now c.args.entry.now
    (sym (ap (option_map fault_in) c.in_default.is) ∙ c.in_ok-fault.ensures)
    ∙ ap Ok (sym c.in_ok-take.ensures.ok)
