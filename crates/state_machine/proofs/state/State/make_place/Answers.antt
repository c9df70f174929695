use Rattle.std.proofs.Common.{ap, ◌∙◌}
use Rattle.state_spec.specs.State.{State}
use Rattle.state_spec.specs.Steps.{having_sent, having_forgotten}
use Rattle.state_machine.proofs.Served.{forgotten_again}
use Rattle.state_machine.proofs.state.State.make_place.Goals as goal

pub returns-in-Ok-clause-ok : goal.returns-in-Ok-clause-ok
returns-in-Ok-clause-ok c = (
  c.new.result,
  c.in-Ok.ensures.ok
      ∙ ap {A = State} (λ s. having_sent s c.args.seq c.new.result) c.in_ok-add_received.ensures.ok,
)

pub returns-in-Err-clause-err : goal.returns-in-Err-clause-err
returns-in-Err-clause-err c =
    c.remove_received.ensures
    ∙ ap {A = State} (λ s. having_forgotten s c.args.message)
    (c.in-Err.ensures.err ∙ c.in_ok-add_received.ensures.ok)
    ∙ forgotten_again c.args.self.now.state c.args.message c.requires.fresh
