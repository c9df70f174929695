use Rattle.std.proofs.Common.{◌≡◌, ap, subst, ◌∙◌}
use Rattle.std.specs.Option.{option_map}
use Rattle.state_spec.specs.State.{Machine, State}
use Rattle.state_spec.specs.Steps.{having_acknowledged, having_forgotten, reply_by}
use Rattle.state_machine.proofs.Served.{same_machine, served_with_place, served_without_place, taken_back}
use Rattle.state_machine.proofs.state.State.serve.Goals as goal

pub returns-in-Ok-Some-clause-reply : goal.returns-in-Ok-Some-clause-reply
returns-in-Ok-Some-clause-reply c =
    rw c.in-Ok-Some.field-0-is (subst
    (λ r. option_map (λ v. v.items) r ≡ reply_by c.args.self.now.state.machine c.args.time c.args.body.now)
    c.in-Ok-Some.field-0-is
    (c.in-Ok-Some.ensures.reply
    ∙ ap {A = Machine} (λ m. reply_by m c.args.time c.args.body.now)
    (same_machine c.args.self.now.state c.args.message c.args.seq c.make_place.new.self.state
    c.in_ok-make_place.ensures.ok)))

pub returns-in-Ok-Some-clause-ok : goal.returns-in-Ok-Some-clause-ok
returns-in-Ok-Some-clause-ok c =
    let place =
    served_with_place c.args.self.now.state c.args.message c.args.seq c.make_place.new.self.state
    c.in_ok-make_place.ensures.ok c.args.time c.args.body.now in
    (place.0, c.in-Ok-Some.ensures.ok ∙ place.1)

pub returns-in-Ok-None-clause-reply : goal.returns-in-Ok-None-clause-reply
returns-in-Ok-None-clause-reply c =
    subst
    (λ r. option_map (λ v. v.items) r ≡ reply_by c.args.self.now.state.machine c.args.time c.args.body.now)
    c.in-Ok-None.field-0-is
    (c.in-Ok-None.ensures.reply
    ∙ ap {A = Machine} (λ m. reply_by m c.args.time c.args.body.now)
    (same_machine c.args.self.now.state c.args.message c.args.seq c.make_place.new.self.state
    c.in_ok-make_place.ensures.ok))

pub returns-in-Ok-None-clause-ok : goal.returns-in-Ok-None-clause-ok
returns-in-Ok-None-clause-ok c =
    c.remove_send.ensures
    ∙ ap {A = State} (λ s. having_acknowledged s c.args.seq) c.in-Ok-None.ensures.ok
    ∙ served_without_place c.args.self.now.state c.args.message c.args.seq c.make_place.new.self.state
    c.in_ok-make_place.ensures.ok c.requires.unused c.args.time c.args.body.now

pub returns-in-Err-clause-err : goal.returns-in-Err-clause-err
returns-in-Err-clause-err c =
    c.remove_received.ensures
    ∙ ap {A = State} (λ s. having_forgotten s c.args.message)
    (c.remove_send-in-Err.ensures
    ∙ ap {A = State} (λ s. having_acknowledged s c.args.seq) c.in-Err.ensures.err)
    ∙ taken_back c.args.self.now.state c.args.message c.args.seq c.make_place.new.self.state
    c.in_ok-make_place.ensures.ok c.requires.unused c.requires.fresh
