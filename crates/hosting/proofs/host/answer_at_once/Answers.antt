use Rattle.hosting.specs.Hosting.{done}
use Rattle.hosting.proofs.host.answer_at_once.Goals as goal

pub returns-in-Ok : goal.returns-in-Ok
returns-in-Ok c =
    let d = c.in-Ok.ensures.done in
    done d.0 d.1 d.2
